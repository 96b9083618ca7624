-- Demand 2, the channels after a whole tick. Where it tells answer 0, every channel is what the sentences of `Groups`
-- make of what step 3 left of it. Where it tells 1 to 7, or happens and has no transfer, the channels are those that
-- step 3 left, unless the tick tells of a reset by the watchdog: `Resets` has what that leaves. Of every machine and
-- every tick. `m` is the machine before the tick. Assumes nothing: these are definitions.
use Rattle.std.specs.Prelude.{ℕ, ◌≤◌, ◌<◌}
use mathlib.Core.{Path.◌≡◌, Bool.true, Bool.false, Option.Option, Option.some}
use Rattle.channels.specs.Chan.{chan}
use Rattle.command.specs.Decode.{code_of}
use Rattle.state.specs.Parts.{word_count}
use Rattle.answers.specs.Answers.{told_number}
use Rattle.unit.specs.{declared.Machine.Machine, Runs.Sample, Runs.told, Runs.happens, Runs.after_step3}
use Rattle.groups.specs.{Groups.sentences, Groups.made_by, Resets.tells_watchdog_reset}

-- the answer that the tick tells
abbrev pub answer : Machine → Sample → Option ℕ
answer m i = told_number (told m i).outcome

pub record ChannelsAfter (m : Machine) (i : Sample) : Type 0 where
  pub accepted : answer m i ≡ some 0 → (c : ℕ) → c < 32
      → chan (told m i).machine.board.channels c ≡ made_by (sentences (after_step3 m i) i.transfer c) (code_of i.transfer) (chan (after_step3 m i).channels c)
  pub refused : (n : ℕ) → 1 ≤ n → n ≤ 7 → answer m i ≡ some n → tells_watchdog_reset m i ≡ false → (told m i).machine.board.channels ≡ (after_step3 m i).channels
  pub no_transfer : happens (word_count m.board) i ≡ true → i.sent ≡ false → tells_watchdog_reset m i ≡ false → (told m i).machine.board.channels ≡ (after_step3 m i).channels
