-- Why the channels are what they are after a tick: step 4 does what `Groups` says, and step 5 nothing to them short of
-- a reset. Assumes nothing.
use Prim.Native.Nat.{ℕ, zero, suc, ◌≤◌, ◌<◌}
use mathlib.Core.Path.{◌≡◌, sym, ap, ◌∙◌}
use mathlib.Core.Bool.{Bool, true, false, false≢true}
use mathlib.Core.Option.{some}
use native.Mathlib.Omega.{arith}
use Rattle.channels.specs.Chan.{chan}
use Rattle.command.specs.Decode.{code_of}
use Rattle.memory.specs.Limits.{limits_of}
use Rattle.state.specs.Parts.{word_count}
use Rattle.state.specs.declared.parts.Board.{Board}
use Rattle.answers.specs.Answers.{told_number}
use Rattle.answers.specs.declared.Commanded.{Commanded}
use Rattle.commands.specs.Step.{commanded_of}
use Rattle.unit.specs.declared.Machine.{Machine}
use Rattle.unit.specs.Runs.{Sample, told, happens, after_step3}
use Rattle.groups.specs.Groups.{sentences, made_by}
use Rattle.groups.specs.Resets.{is_accepted, tells_watchdog_reset}
use Rattle.groups.proofs.Groups.{groups}
use Rattle.groups.proofs.Counts.{not_accepted}
use Rattle.changes.specs.ChannelsAfter.{answer, ChannelsAfter}
use Rattle.changes.proofs.Step.{Takes, leaving, obeying}
use Rattle.changes.proofs.Ticks.{commanded, step, tells, leaves_step_4, happened, sends, accepted_leaves}

module _ (m : Machine) (i : Sample) where
  -- the channels of a tick that tells 0, as step 4 left them
  accepted : answer m i ≡ some 0 → (c : ℕ) → c < 32
      → chan (told m i).machine.board.channels c ≡ made_by (sentences (after_step3 m i) i.transfer c) (code_of i.transfer) (chan (after_step3 m i).channels c)
  accepted q c h =
      let sent = sends m i 0 (omega arith) q in
      let limits = limits_of m.board.memory in
      let t : told_number (commanded_of i.rail limits true i.transfer (after_step3 m i)).outcome ≡ some 0 = rw sent at (sym (ap told_number (tells m i (happened m i 0 (omega arith) q))) ∙ q) in
      ap (λ (b : Board). chan b.channels c) (accepted_leaves m i q)
      ∙ ap (λ (b : Bool). chan (commanded_of i.rail limits b i.transfer (after_step3 m i)).board.channels c) sent
      ∙ (groups i.rail limits i.transfer (after_step3 m i)).accepted t c h

  -- a step that accepts nothing leaves the channels
  kept : is_accepted (told_number (commanded m i).outcome) ≡ false → (commanded m i).board.channels ≡ (after_step3 m i).channels
  kept n = go (step m i) n
    where
      go : {x : Commanded} → Takes i.rail (limits_of m.board.memory) i.transfer (after_step3 m i) x → is_accepted (told_number x.outcome) ≡ false → x.board.channels ≡ (after_step3 m i).channels
      go (leaving a left) n = left.channels
      go (obeying t obeyed) n = absurd (false≢true (sym n ∙ rw t))

  -- and so does a tick without a reset by the watchdog
  left : happens (word_count m.board) i ≡ true → is_accepted (told_number (commanded m i).outcome) ≡ false → tells_watchdog_reset m i ≡ false → (told m i).machine.board.channels ≡ (after_step3 m i).channels
  left a n w = ap (λ (b : Board). b.channels) (leaves_step_4 m i a w) ∙ kept n

  -- without a transfer nothing is accepted
  unasked : i.sent ≡ false → is_accepted (told_number (commanded m i).outcome) ≡ false
  unfolding commanded_of
  unasked e = rw e

  -- a number from 1 on is no acceptance
  above_0 : (n : ℕ) → 1 ≤ n → is_accepted (some n) ≡ false
  above_0 zero h = absurd (omega arith)
  above_0 (suc n) h = not_accepted n

  -- the claim
  pub channels_after : ChannelsAfter m i
  channels_after =
      record {
        accepted = accepted;
        refused = λ n l h q w.
            let a = happened m i n (omega arith) q in
            left a (ap is_accepted (sym (ap told_number (tells m i a)) ∙ q) ∙ above_0 n (omega arith)) w;
        no_transfer = λ a e w. left a (unasked e) w;
      }
