-- A tick that happens is its command step, and then the watchdog, which after an accepted command tells nothing.
-- Assumes nothing.
use Prim.Native.Nat.{ℕ, ◌≤◌}
use mathlib.Core.Path.{◌≡◌, refl, sym, ap, ◌∙◌}
use mathlib.Core.Bool.{Bool, true, false, ◌&&◌, or-false, false≢true}
use mathlib.Core.List.{[], ◌∷◌}
use mathlib.Core.Option.{Option, none, some}
use native.Mathlib.Omega.{arith}
use lib.Dec.{eqb}
use borrow.Author.Tests.{eqb-true}
use Rattle.laws.proofs.Cases.{cases, both}
use Rattle.kinds.specs.Kinds.{is_in}
use Rattle.command.specs.Decode.{code_of}
use Rattle.watchdog.specs.Watchdog as dog
use Rattle.watchdog.specs.declared.Event.{Event}
use Rattle.watchdog.specs.declared.Event.TheVariants.{NoEvent, PeripheralReset, WatchdogReset}
use Rattle.watchdog.proofs.Laws.{quiet_at_0}
use Rattle.memory.specs.Limits.{timeout_of, limits_of}
use Rattle.answers.specs.Answers.{told_number}
use Rattle.answers.specs.declared.Commanded.{Commanded}
use Rattle.state.specs.Parts.{word_count}
use Rattle.commands.specs.Step.{commanded_of}
use Rattle.commands.proofs.Told.{same_number}
use Rattle.board.specs.Tick.{watched_as, watched_in, tick_with, tick_of}
use Rattle.board.proofs.Laws.{number_9}
use Rattle.unit.specs.Machine.{told_of}
use Rattle.unit.specs.declared.Machine.{Machine}
use Rattle.unit.specs.Runs.{Sample, told, happens, after_step3, after_step4}
use Rattle.unit.proofs.Laws.{refused_tick_leaves}
use Rattle.groups.specs.Resets.{is_by_watchdog, is_accepted, tells_watchdog_reset}
use Rattle.groups.proofs.Counts.{watched_tells}
use Rattle.changes.specs.Accepted.{accepts_one_of}
use Rattle.changes.proofs.Step.{Takes, leaving, obeying, takes}

-- ---- what is told
-- the one answer that is an acceptance
pub is_accepted_lem : (o : Option ℕ) → is_accepted o ≡ true → o ≡ some 0
is_accepted_lem none e = absurd (false≢true e)
is_accepted_lem (some n) e = ap some (eqb-true n 0 e)

-- a test that counts only of an accepted command
pub of_accepted : (o : Option ℕ) (x y : Bool) → o ≡ some 0 → (is_accepted o && x) ≡ y → x ≡ y
of_accepted o x y e h = rw e at h

-- a list of one code has that code and no other
pub only_one : (code k : ℕ) (y : Bool) → is_in code (k ∷ []) ≡ y → eqb code k ≡ y
unfolding is_in
only_one code k y e = rw or-false at e

-- ---- step 5
-- a step that left the timer at 0 is followed by no event
fed_quiet : (x : Commanded) → x.board.timer ≡ 0 → is_by_watchdog (watched_in x).event ≡ false
unfolding watched_in
fed_quiet x z = rw (z, quiet_at_0 (dog.seconds_in_ticks (timeout_of x.board.memory)))

-- a watchdog that does not reset leaves the board
not_reset : (x : Commanded) → is_by_watchdog (watched_in x).event ≡ false → (watched_in x).board ≡ x.board
unfolding watched_in
not_reset x = go (dog.watched_of x.board.timer (dog.seconds_in_ticks (timeout_of x.board.memory)))
  where
    go : (e : Event) → is_by_watchdog (watched_as e x).event ≡ false → (watched_as e x).board ≡ x.board
    go NoEvent e = refl
    go PeripheralReset e = refl
    go WatchdogReset e = absurd (false≢true (sym e))

-- ---- a tick
module _ (m : Machine) (i : Sample) where
  -- what its command step makes of what step 3 left
  abbrev pub commanded : Commanded
  commanded = commanded_of i.rail (limits_of m.board.memory) i.sent i.transfer (after_step3 m i)

  -- and what kind of step that is
  pub step : Takes i.rail (limits_of m.board.memory) i.transfer (after_step3 m i) commanded
  step = takes i.rail (limits_of m.board.memory) i.transfer (after_step3 m i) i.sent

  -- one that does not happen
  pub leaves_all : happens (word_count m.board) i ≡ false → (told m i).machine.board ≡ m.board
  leaves_all e = ap (λ (x : Machine). x.board) (refused_tick_leaves i.rail i.named i.words i.sent i.transfer m e)

  -- it is told by 9
  tells_9 : happens (word_count m.board) i ≡ false → told_number (told m i).outcome ≡ some 9
  unfolding told_of
  tells_9 e = number_9 i.rail i.named i.words i.sent i.transfer m.board e

  -- one that does tells what its command step tells
  pub tells : happens (word_count m.board) i ≡ true → (told m i).outcome ≡ commanded.outcome
  unfolding told_of tick_of tick_with
  tells a = rw a (watched_tells commanded)

  -- and leaves what that leaves, unless it tells of a reset by the watchdog
  pub leaves_step_4 : happens (word_count m.board) i ≡ true → tells_watchdog_reset m i ≡ false → (told m i).machine.board ≡ after_step4 m i
  unfolding told_of tells_watchdog_reset tick_of tick_with
  leaves_step_4 a e = rw a (not_reset commanded (rw a at e))

  -- a tick that tells a number up to 7 happened
  pub happened : (n : ℕ) → n ≤ 7 → told_number (told m i).outcome ≡ some n → happens (word_count m.board) i ≡ true
  happened n h q = cases (happens (word_count m.board) i) (λ a. a) (λ a. absurd (omega (arith, same_number 9 n (sym (tells_9 a) ∙ q))))

  -- without a transfer no number is told
  no_answer : i.sent ≡ false → told_number commanded.outcome ≡ none
  unfolding commanded_of
  no_answer e = rw e

  -- so one that tells such a number had a transfer
  pub sends : (n : ℕ) → n ≤ 7 → told_number (told m i).outcome ≡ some n → i.sent ≡ true
  sends n h q =
      cases i.sent (λ e. e)
      (λ e. let z : none ≡ some n = sym (no_answer e) ∙ sym (ap told_number (tells (happened n h q))) ∙ q in let y : ◌≡◌ {A = ℕ} 0 1 = cc in absurd (omega arith))

  -- ---- a tick that tells 0
  module _ (q : told_number (told m i).outcome ≡ some 0) where
    -- its step told it
    step_accepts : told_number commanded.outcome ≡ some 0
    step_accepts = sym (ap told_number (tells (happened 0 (omega arith) q))) ∙ q

    -- and left the timer at 0
    timer_at_0 : commanded.board.timer ≡ 0
    timer_at_0 = go step step_accepts
      where
        go : {x : Commanded} → Takes i.rail (limits_of m.board.memory) i.transfer (after_step3 m i) x → told_number x.outcome ≡ some 0 → x.board.timer ≡ 0
        go (leaving a left) t = absurd (false≢true (sym a ∙ rw t))
        go (obeying t obeyed) _ = obeyed.timer

    -- so the watchdog tells of no reset
    pub accepted_quiet : tells_watchdog_reset m i ≡ false
    unfolding told_of tells_watchdog_reset tick_of tick_with
    accepted_quiet = rw (happened 0 (omega arith) q) (fed_quiet commanded timer_at_0)

    -- and what the step left stays
    pub accepted_leaves : (told m i).machine.board ≡ after_step4 m i
    accepted_leaves = leaves_step_4 (happened 0 (omega arith) q) accepted_quiet

  -- ---- an accepted command of one code
  abbrev Accepts : ℕ → Type 0
  Accepts k = accepts_one_of (k ∷ []) m i ≡ true

  -- both parts of it
  both_told : (k : ℕ) → Accepts k → (is_accepted (told_number (told m i).outcome) ≡ true) × (is_in (code_of i.transfer) (k ∷ []) ≡ true)
  both_told k h = both (is_accepted (told_number (told m i).outcome)) (is_in (code_of i.transfer) (k ∷ [])) h

  -- the tick tells 0
  pub told_0 : (k : ℕ) → Accepts k → told_number (told m i).outcome ≡ some 0
  told_0 k h = is_accepted_lem (told_number (told m i).outcome) (both_told k h).0

  -- and so does its step
  pub step_0 : (k : ℕ) → Accepts k → told_number commanded.outcome ≡ some 0
  step_0 k h = step_accepts (told_0 k h)

  -- the code is that one
  pub code_is : (k : ℕ) → Accepts k → eqb (code_of i.transfer) k ≡ true
  code_is k h = only_one (code_of i.transfer) k true (both_told k h).1
