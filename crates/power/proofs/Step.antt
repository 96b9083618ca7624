-- One tick of the small machine, as `Lift` asks it: by the mode, the rows of the table, and the command. Assumes
-- nothing.
use mathlib.Core.Path.{◌≡◌, refl, sym, subst, ◌∙◌}
use mathlib.Core.Bool.{Bool, true, false, ◌||◌, true≢false}
use Prim.Native.Nat.{ℕ, suc, ◌+◌, ◌-◌, ◌^◌, ◌≤◌, ◌<◌, max, min}
use native.Mathlib.Omega.{arith}
use borrow.Author.Tests.{leb-false, ltb-true}
use Rattle.laws.proofs.Cases.{cases, neither}
use Rattle.modes.specs.Table.{◌reaches◌, ◌exceeds◌, ◌at_least◌, ◌above◌, ◌below◌, ◌aged◌, step_of, older_of}
use Rattle.modes.specs.Commands.{to_safety, to_nominal}
use Rattle.modes.specs.declared.Mode.{Mode}
use Rattle.modes.specs.declared.Mode.TheVariants.{Startup, Nominal, Safety, Emergency}
use Rattle.power.specs.Machine.{State, Times, Command, switch_to_nominal, switch_to_safety, switch_on, other, Input, limits_in, is_lit, enters, obeyed, tick, InStep}

-- a test cannot come to both
pub clash : {X : Type 0} {b : Bool} → b ≡ true → b ≡ false → X
clash t f = absurd (true≢false (sym t ∙ f))

-- the age after the rise
abbrev risen : ℕ → ℕ
risen a = min (a + 1) (2 ^ 64 - 1)

-- the states that may still be off, from this one on
abbrev pub left : Times → Mode → ℕ → ℕ
left t Startup a = max 1 (50 - a)
left t Nominal a = 0
left t Safety a = 0
left t Emergency a = max 1 (t.period - a)

-- the states after this one that must still be on
abbrev pub held : Times → Mode → ℕ → ℕ
held t Startup a = 0
held t Nominal a = t.linger
held t Safety a = t.linger - a
held t Emergency a = 0

-- the same two, of a state
abbrev pub Left : Times → State → ℕ
Left t s = left t s.phase.mode s.phase.age

abbrev pub Held : Times → State → ℕ
Held t s = held t s.phase.mode s.phase.age

-- x may be the state after s
pub record Good (t : Times) (s x : State) : Type 0 where
  pub in_step : InStep x
  pub falls : s.on ≡ false → x.on ≡ false → Left t x < Left t s
  pub comes_on : s.on ≡ false → x.on ≡ true → t.linger ≤ Held t x
  pub stays_on : s.on ≡ true → 0 < Held t s → (x.on ≡ true) × (Held t s ≤ suc (Held t x))

-- the four kinds of tick: off and off, off and on, on and on, on and off
module _ {t : Times} {s x : State} (v : InStep x) where
  off_off : s.on ≡ false → x.on ≡ false → Left t x < Left t s → Good t s x
  off_off f g m = record { in_step = v; falls = λ _ _. m; comes_on = λ _ u. clash u g; stays_on = λ u _. clash u f }

  off_on : s.on ≡ false → x.on ≡ true → t.linger ≤ Held t x → Good t s x
  off_on f u m = record { in_step = v; falls = λ _ g. clash u g; comes_on = λ _ _. m; stays_on = λ w _. clash w f }

  on_on : s.on ≡ true → x.on ≡ true → Held t s ≤ suc (Held t x) → Good t s x
  on_on u w m = record { in_step = v; falls = λ f _. clash u f; comes_on = λ f _. clash u f; stays_on = λ _ _. (w, m) }

  on_off : s.on ≡ true → Held t s ≤ 0 → Good t s x
  on_off u m = record { in_step = v; falls = λ f _. clash u f; comes_on = λ f _. clash u f; stays_on = λ _ p. absurd (omega arith) }

-- a state, by its mode, age and channel
abbrev state : Mode → ℕ → Bool → State
state m a o = record { phase = m aged a; on = o }

-- the rise of the age and the change by the table
by_table : (t : Times) → t.period < 2 ^ 64 → (i : Input) (m : Mode) (a : ℕ) (o : Bool) → o ≡ is_lit m
    → Good t (state m a o) (enters (step_of (older_of (m aged a)) i.rail (limits_in t i)) (state m a o))
unfolding step_of older_of
by_table t fits i Startup a o h =
    cases (risen a reaches 50)
    (λ e. cases (i.rail at_least i.safety_low)
    (λ d. rw (e, d) (off_on refl h refl (omega arith)))
    (λ d. rw (e, d) (off_on refl h refl (omega arith))))
    (λ e. rw e (off_off refl h refl (omega (arith, leb-false 50 (risen a) e))))
by_table t fits i Nominal a o h =
    cases (i.rail below i.safety_low)
    (λ e. rw e (on_on h h h (omega arith)))
    (λ e. rw e (on_on h h h (omega arith)))
by_table t fits i Safety a o h =
    cases (risen a exceeds t.linger)
    (λ e. cases (i.rail above i.safety_high)
    (λ d. rw (e, d) (on_on h h h (omega arith)))
    (λ d. cases (i.rail below i.emergency_low)
    (λ k. rw (e, d, k) (on_off refl h (omega (arith, ltb-true t.linger (risen a) e))))
    (λ k. rw (e, d, k) (on_on h h h (omega arith)))))
    (λ e. rw e (on_on h h h (omega arith)))
by_table t fits i Emergency a o h =
    cases (i.rail above i.emergency_high || risen a reaches t.period)
    (λ e. rw e (off_on refl h refl (omega arith)))
    (λ e. rw e (off_off refl h refl (omega (arith, leb-false t.period (risen a) (neither (i.rail above i.emergency_high) (risen a reaches t.period) e).1))))

-- a command moves only between nominal and safety: it leaves the channel on, and does not shorten what it is held for
to_safety_lem : {t : Times} {s : State} {a : ℕ} {o : Bool} → Good t s (state Nominal a o) → Good t s (state Safety 0 o)
to_safety_lem g =
    record {
      in_step = g.in_step;
      falls = g.falls;
      comes_on = λ _ _. omega arith;
      stays_on = λ u p. ((g.stays_on u p).0, omega (arith, (g.stays_on u p).1));
    }

to_nominal_lem : {t : Times} {s : State} {a : ℕ} {o : Bool} → Good t s (state Safety a o) → Good t s (state Nominal 0 o)
to_nominal_lem g =
    record {
      in_step = g.in_step;
      falls = g.falls;
      comes_on = λ _ _. omega arith;
      stays_on = λ u p. ((g.stays_on u p).0, omega (arith, (g.stays_on u p).1));
    }

-- the channel is what the mode says
as_lit : {t : Times} {s : State} {m : Mode} {a : ℕ} {o : Bool} → Good t s (state m a o) → Good t s (state m a (is_lit m))
as_lit {t} {s} {m} {a} g = subst (λ (o : Bool). Good t s (state m a o)) g.in_step g

-- the command, after the table
by_command_lem : (t : Times) (i : Input) (c : Command) (s : State) (m : Mode) (a : ℕ) (o : Bool) → Good t s (state m a o) → Good t s (obeyed c i.rail (limits_in t i) (state m a o))
unfolding to_safety to_nominal
by_command_lem t i other s m a o g = g
by_command_lem t i switch_on s Startup a o g = g
by_command_lem t i switch_on s Nominal a o g = as_lit g
by_command_lem t i switch_on s Safety a o g = g
by_command_lem t i switch_on s Emergency a o g = g
by_command_lem t i switch_to_safety s Startup a o g = as_lit g
by_command_lem t i switch_to_safety s Nominal a o g = to_safety_lem g
by_command_lem t i switch_to_safety s Safety a o g = g
by_command_lem t i switch_to_safety s Emergency a o g = as_lit g
by_command_lem t i switch_to_nominal s Startup a o g = as_lit g
by_command_lem t i switch_to_nominal s Nominal a o g = g
by_command_lem t i switch_to_nominal s Safety a o g = cases (i.rail at_least i.safety_low) (λ e. rw e (to_nominal_lem g)) (λ e. rw e g)
by_command_lem t i switch_to_nominal s Emergency a o g = as_lit g

-- a whole tick
pub good : (t : Times) → t.period < 2 ^ 64 → (s : State) (i : Input) → InStep s → Good t s (tick t s i)
unfolding tick
good t fits s i h =
    let x : State = enters (step_of (older_of s.phase) i.rail (limits_in t i)) s in
    by_command_lem t i i.command s x.phase.mode x.phase.age x.on (by_table t fits i s.phase.mode s.phase.age s.on h)
