-- Why 0x42 shows the counts: its reply lays out those of the board that the tick leaves, and `Counts` says what they
-- are. Assumes nothing.
use Prim.Native.Nat.{ℕ, ◌+◌, ◌*◌, ◌^◌, ◌≤◌, ◌<◌, min}
use mathlib.Core.Path.{◌≡◌, refl, sym, ap, ◌∙◌, subst}
use mathlib.Core.Bool.{true, false≢true}
use mathlib.Core.List.{List, [], ◌∷◌, ◌++◌}
use mathlib.Core.Logic.{⊎_elim}
use mathlib.Core.Option.{some}
use native.Mathlib.Omega.{arith}
use lib.ListN.{length, get_or, drop, get_or-eq_default}
use Rattle.memory.specs.Memory.{Store}
use Rattle.laws.proofs.Lists.{lt_or_le}
use Rattle.wire.specs.Numbers.{number}
use Rattle.wire.specs.Replies.{shown, reply_of}
use Rattle.command.specs.Decode.{code_of}
use Rattle.command.specs.declared.Header.{Header}
use Rattle.memory.specs.Limits.{limits_of}
use Rattle.replies.specs.Layouts.{faults_reply}
use Rattle.replies.proofs.Positions.{shown_faults, count_at}
use Rattle.state.specs.Start.{keeps_the_rules}
use Rattle.state.specs.declared.parts.Board.{Board}
use Rattle.state.specs.declared.parts.Profile.{Profile}
use Rattle.answers.specs.Answers.{told_number, header_of, new}
use Rattle.answers.specs.declared.Commanded.{Commanded}
use Rattle.unit.specs.declared.Machine.{Machine}
use Rattle.unit.specs.Runs.{Sample, told, Call, tick, after_call, after, after_step3}
use Rattle.groups.specs.Counts.{times_taken_off}
use Rattle.groups.proofs.Unfitted as unfitted
use Rattle.groups.proofs.Counts.{counts}
use Rattle.changes.specs.Accepted.{accepts_one_of}
use Rattle.changes.specs.CountsShown.{started, reached, CountsShown}
use Rattle.changes.proofs.Step.{Takes, leaving, obeying}
use Rattle.changes.proofs.Ticks.{step, accepted_leaves, told_0, step_0, code_is}

-- one call more
after_one : (m : Machine) (calls : List Call) (call : Call) → after m (calls ++ call ∷ []) ≡ after_call (after m calls) call
unfolding after
after_one m [] call = refl
after_one m (c ∷ calls) call = after_one (after_call m c) calls call

-- ---- the reply of a tick that accepts 0x42
-- the bytes that lay out the channels of a board
abbrev faults_on : Header → ℕ → Board → List ℕ
faults_on header code b = faults_reply header code new b.channels.on b.channels.latched b.channels.counts

module _ (m : Machine) (i : Sample) (a : accepts_one_of (0x42 ∷ []) m i ≡ true) where
  -- what the board is called by
  abbrev header : Header
  header = header_of (after_step3 m i).profile

  -- as its step makes it
  step_reply : {x : Commanded} → Takes i.rail (limits_of m.board.memory) i.transfer (after_step3 m i) x → told_number x.outcome ≡ some 0
      → x.board.reply ≡ reply_of (faults_on header (code_of i.transfer) x.board)
  step_reply (leaving n left) q = absurd (false≢true (sym n ∙ rw q))
  step_reply (obeying t obeyed) q = obeyed.faults (code_is m i 0x42 a)

  -- it waits on the board that the tick leaves
  reply_is : (told m i).machine.board.reply ≡ reply_of (faults_on header (code_of i.transfer) (told m i).machine.board)
  reply_is =
      subst (λ (b : Board). b.reply ≡ reply_of (faults_on header (code_of i.transfer) b)) (sym (accepted_leaves m i (told_0 m i 0x42 a))) (step_reply (step m i) (step_0 m i 0x42 a))

  -- so its bytes are the counts, where these are 32 numbers of 16 bits
  reads : (c : ℕ) → c < 32 → length (told m i).machine.board.channels.counts ≡ 32 → ((j : ℕ) → get_or (told m i).machine.board.channels.counts j 0 < 2 ^ 16)
      → number 2 (drop (14 + 2 * c) (shown (told m i).machine.board.reply)) ≡ get_or (told m i).machine.board.channels.counts c 0
  reads c h all words =
      let b = (told m i).machine.board in
      ap (λ (l : List ℕ). number 2 (drop (14 + 2 * c) l))
      (ap shown reply_is ∙ shown_faults header (code_of i.transfer) new b.channels.on b.channels.latched b.channels.counts all)
      ∙ count_at header (code_of i.transfer) new b.channels.on b.channels.latched b.channels.counts all words c h

-- ---- after a start
module _ (there : Machine) (profile : Profile) (store : Store) (accepted : keeps_the_rules profile store ≡ true) (calls : List Call) (i : Sample) where
  -- the machine after the tick
  abbrev last : Machine
  last = (told (reached there profile store calls) i).machine

  -- the calls with the tick behind them
  abbrev all_calls : List Call
  all_calls = calls ++ tick i ∷ []

  -- it is the machine after all of them
  last_is : after (started there profile store) all_calls ≡ last
  last_is = after_one (started there profile store) calls (tick i)

  -- it has 32 counts
  counts_32 : length last.board.channels.counts ≡ 32
  counts_32 =
      subst (λ (m : Machine). length m.board.channels.counts ≡ 32) last_is
      (unfitted.run profile (started there profile store) all_calls (unfitted.started there profile store accepted)).sound.held.counts

  -- each is the number of times that its channel was taken off
  count_is : (c : ℕ) → c < 32 → get_or last.board.channels.counts c 0 ≡ min (times_taken_off c (started there profile store) all_calls) 65535
  count_is c h =
      subst (λ (m : Machine). get_or m.board.channels.counts c 0 ≡ min (times_taken_off c (started there profile store) all_calls) 65535) last_is
      ((counts there profile store).counted accepted all_calls c h)

  -- and has 16 bits
  counts_words : (j : ℕ) → get_or last.board.channels.counts j 0 < 2 ^ 16
  counts_words j =
      ⊎_elim
      (λ (h : j < 32). omega (arith, count_is j h))
      (λ (h : 32 ≤ j). omega (arith, get_or-eq_default last.board.channels.counts 0 {n = j} (omega (arith, counts_32))))
      (lt_or_le j 32)

-- the claim
pub counts_shown : (there : Machine) (profile : Profile) (store : Store) → CountsShown there profile store
counts_shown there profile store =
    record {
      count = λ accepted calls i a c h.
          reads (reached there profile store calls) i a c h (counts_32 there profile store accepted calls i) (counts_words there profile store accepted calls i)
          ∙ count_is there profile store accepted calls i c h;
    }
