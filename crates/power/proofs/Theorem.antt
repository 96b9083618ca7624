-- The claim on the small machine. Assumes nothing.
use mathlib.Core.Path.{◌≡◌, ap}
use mathlib.Core.Bool.{Bool, true, false}
use mathlib.Core.List.{List, [], ◌∷◌}
use Prim.Native.Nat.{ℕ, zero, suc, ◌^◌, ◌≤◌, ◌<◌}
use native.Mathlib.Omega.{arith}
use lib.ListN.{take}
use Rattle.modes.specs.declared.Mode.{Mode}
use Rattle.modes.specs.declared.Mode.TheVariants.{Startup, Nominal, Safety, Emergency}
use Rattle.power.specs.Runs.{channel, All, On}
use Rattle.power.specs.Machine.{State, Times, Input, is_lit, tick, InStep}
use Rattle.power.specs.Claim.{most_off, least_on, Powered, is_tick, is_on, Claim}
use Rattle.power.proofs.Lift.{Ticks, off_at_most, on_at_least}
use Rattle.power.proofs.Step.{left, held, good, clash}

-- where the channel is off, the states that may still be off are at least this one, and at most what the claim says
some_left : (t : Times) (m : Mode) (a : ℕ) (o : Bool) → o ≡ is_lit m → o ≡ false → (1 ≤ left t m a) × (left t m a ≤ most_off t.period)
some_left t Startup a o h f = omega arith
some_left t Nominal a o h f = clash h f
some_left t Safety a o h f = clash h f
some_left t Emergency a o h f = omega arith

-- the five facts of one tick, for the small machine
ticks : (t : Times) → t.period < 2 ^ 64 → Ticks (tick t) is_on InStep (most_off t.period) (least_on t.linger)
ticks t fits =
    record {
      left = λ s. left t s.phase.mode s.phase.age;
      held = λ s. held t s.phase.mode s.phase.age;
      kept = λ s i h. (good t fits s i h).in_step;
      some_left = λ s h f. some_left t s.phase.mode s.phase.age s.on h f;
      falls = λ s i h. (good t fits s i h).falls;
      comes_on = λ s i h f u. omega (arith, (good t fits s i h).comes_on f u);
      stays_on = λ s i h. (good t fits s i h).stays_on;
    }

-- the claim, with the state before the run in front
pub with_before : (t : Times) → t.period < 2 ^ 64 → (s : State) → InStep s → (is : List Input) → Powered t.linger t.period (channel (tick t) is_tick is_on s is)
with_before t fits s h is =
    record {
      never_off_long = off_at_most (tick t) is_on InStep (most_off t.period) (least_on t.linger) (ticks t fits) s h is;
      on_for_long = on_at_least (tick t) is_on InStep (most_off t.period) (least_on t.linger) (ticks t fits) s h is;
    }

-- what holds of a list holds of it without its first
pub without_first : {linger period : ℕ} {x : Bool} {xs : List Bool} → Powered linger period (x ∷ xs) → Powered linger period xs
without_first {x = x} p =
    record {
      never_off_long = record { shown = λ before during after e a. p.never_off_long.shown (x ∷ before) during after (ap (λ (l : List Bool). x ∷ l) e) a };
      on_for_long = record { shown = λ before since e. p.on_for_long.shown (x ∷ before) since (ap (λ (l : List Bool). x ∷ l) e) };
    }

-- what is on for n places is on for fewer
fewer_on : (n m : ℕ) (xs : List Bool) → n ≤ m → All On (take m xs) → All On (take n xs)
fewer_on zero m xs h a = tt
fewer_on (suc n) zero xs h a = absurd (omega arith)
fewer_on (suc n) (suc m) [] h a = tt
fewer_on (suc n) (suc m) (x ∷ xs) h a = (a.0, fewer_on n m xs (omega arith) a.1)

-- a shorter linger and a longer period ask for less
pub looser : (linger linger' period period' : ℕ) {line : List Bool} → linger' ≤ linger → period ≤ period' → Powered linger period line → Powered linger' period' line
looser linger linger' period period' l p h =
    record {
      never_off_long = record { shown = λ before during after e a. omega (arith, h.never_off_long.shown before during after e a) };
      on_for_long = record { shown = λ before since e. fewer_on (least_on linger') (least_on linger) (true ∷ since) (omega arith) (h.on_for_long.shown before since e) };
    }

-- the claim; a period that does not fit is refused here
pub powered : Claim
powered t fits s h is = let p = with_before t (omega arith) s h is in record { with_before = p; by_ends = without_first p }
