-- A tick that happens is its command step and then the watchdog, so it tells what its transfer is given. Assumes
-- nothing.
use Prim.Native.Nat.{ℕ, ◌≤◌}
use mathlib.Core.Path.{◌≡◌, refl, sym, ap, ◌∙◌}
use mathlib.Core.Bool.{true, false}
use mathlib.Core.Option.{none, some}
use native.Mathlib.Omega.{arith}
use lib.ListN.{length}
use Rattle.laws.proofs.Cases.{cases}
use Rattle.watchdog.specs.Watchdog as dog
use Rattle.watchdog.specs.declared.Event.{Event}
use Rattle.watchdog.specs.declared.Event.TheVariants.{NoEvent, PeripheralReset, WatchdogReset}
use Rattle.memory.specs.Limits.{timeout_of, limits_of}
use Rattle.state.specs.Parts.{word_count}
use Rattle.answers.specs.Answers.{told_number}
use Rattle.answers.specs.declared.Commanded.{Commanded}
use Rattle.commands.specs.Step.{commanded_of}
use Rattle.commands.proofs.Told.{same_number}
use Rattle.board.specs.Tick.{watched_as, watched_in, tick_with, allowed_count, tick_of}
use Rattle.board.proofs.Laws.{number_9}
use Rattle.framing.specs.declared.Due.{Due}
use Rattle.unit.specs.Machine.{told_by, told_of}
use Rattle.unit.specs.declared.Machine.{Machine}
use Rattle.unit.specs.declared.Told.{Told}
use Rattle.unit.specs.Runs.{Sample, told, after_step3}
use Rattle.refusals.specs.Conditions.{Given, answer, met_in, tick_answer, ExactlyWhen}
use Rattle.refusals.proofs.Conditions as conditions

-- ---- a tick that happens is its command step and then the watchdog
abbrev pub happening : Commanded → Event
happening c = dog.watched_of c.board.timer (dog.seconds_in_ticks (timeout_of c.board.memory))

abbrev pub watched : Due → Commanded → Told
watched due c = told_by (watched_as (happening c) c) due

abbrev pub given : Machine → Sample → Commanded
given m i = commanded_of i.rail (limits_of m.board.memory) i.sent i.transfer (after_step3 m i)

module _ (m : Machine) (i : Sample) where
  pub told_is : allowed_count (word_count m.board) (length i.words) ≡ true → told m i ≡ watched m.due (given m i)
  unfolding told_of tick_of tick_with watched_in
  told_is allowed = rw allowed

  -- the watchdog leaves what is told of the transfer
  outcome_kept : (due : Due) (c : Commanded) → (watched due c).outcome ≡ c.outcome
  outcome_kept due c = go (happening c)
    where
      go : (e : Event) → (watched_as e c).outcome ≡ c.outcome
      go NoEvent = refl
      go PeripheralReset = refl
      go WatchdogReset = refl

  pub answer_is : allowed_count (word_count m.board) (length i.words) ≡ true → i.sent ≡ true → tick_answer m i ≡ answer (met_in m i)
  answer_is allowed sent = ap (λ (r : Told). told_number r.outcome) (told_is allowed) ∙ ap told_number (outcome_kept m.due (given m i)) ∙ rw sent

  told_9 : allowed_count (word_count m.board) (length i.words) ≡ false → tick_answer m i ≡ some 9
  unfolding told_of
  told_9 wrong = number_9 i.rail i.named i.words i.sent i.transfer m.board wrong

  -- a tick that tells a number up to 7 happened and had a transfer
  pub happens : (n : ℕ) → n ≤ 7 → tick_answer m i ≡ some n → allowed_count (word_count m.board) (length i.words) ≡ true
  happens n h q = cases (allowed_count (word_count m.board) (length i.words)) (λ e. e) (λ e. absurd (omega (arith, same_number 9 n (sym (told_9 e) ∙ q))))

  unasked : allowed_count (word_count m.board) (length i.words) ≡ true → i.sent ≡ false → tick_answer m i ≡ none
  unfolding commanded_of
  unasked allowed e = ap (λ (r : Told). told_number r.outcome) (told_is allowed) ∙ ap told_number (outcome_kept m.due (given m i)) ∙ rw e

  pub sends : (n : ℕ) → allowed_count (word_count m.board) (length i.words) ≡ true → tick_answer m i ≡ some n → i.sent ≡ true
  sends n allowed q =
      cases i.sent (λ e. e) (λ e. let z : none ≡ some n = sym (unasked allowed e) ∙ q in let y : ◌≡◌ {A = ℕ} 0 1 = cc in absurd (omega arith))

-- ---- the answers of ticks
pub told_so : (m : Machine) (i : Sample) (n : ℕ) → allowed_count (word_count m.board) (length i.words) ≡ true → i.sent ≡ true → Given (met_in m i) n → tick_answer m i ≡ some n
told_so m i n allowed sent g = answer_is m i allowed sent ∙ conditions.answered (met_in m i) n g

pub only_told : (m : Machine) (i : Sample) (n : ℕ) → n ≤ 7 → tick_answer m i ≡ some n → (allowed_count (word_count m.board) (length i.words) ≡ true) × (i.sent ≡ true) × Given (met_in m i) n
only_told m i n h q =
    let allowed = happens m i n h q in
    let sent = sends m i n allowed q in
    (allowed, sent, conditions.only_answered (met_in m i) n (sym (answer_is m i allowed sent) ∙ q))

pub exactly_when : ExactlyWhen
exactly_when =
    record {
      one = conditions.one;
      only_one = conditions.only_one;
      answered = conditions.answered;
      only_answered = conditions.only_answered;
      told_so = told_so;
      unasked = unasked;
      only_told = only_told;
    }
