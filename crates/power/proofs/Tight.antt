-- Neither number of the claim can be bettered: the run of a low rail has both, for any two times, and two such runs are
-- computed. Assumes nothing.
use mathlib.Core.Path.{◌≡◌, refl, sym, ap, ◌∙◌, subst}
use mathlib.Core.Bool.{Bool, true, false, false≢true}
use mathlib.Core.List.{List, [], ◌∷◌, ◌++◌, append_assoc, append-nil}
use Prim.Native.Nat.{ℕ, zero, suc, ◌-◌, ◌^◌, ◌≤◌}
use native.Mathlib.Omega.{arith}
use lib.IntN.{pos}
use lib.ListN.{length, take, replicate, length-replicate}
use Rattle.modes.specs.Table.{◌aged◌, step_of, older_of}
use Rattle.modes.specs.declared.Mode.TheVariants.{Emergency}
use Rattle.power.specs.Runs.{channel, All, Off, On, OffAtMost, OnAtLeast, turns}
use Rattle.power.specs.Machine.{State, Times, other, Input, start, tick}
use Rattle.power.specs.Claim.{most_off, least_on, is_tick, is_on}
use Rattle.power.specs.Tight.{Tight}
use Rattle.power.proofs.Stages.{Low, low_ticks, low_run}

-- a rail of 0 mV, with thresholds of 1 mV
abbrev low : Input
low = record { rail = pos 0; safety_low = pos 1; safety_high = pos 1; emergency_low = pos 1; emergency_high = pos 1; command = other }

-- it is low by every threshold
is_low : Low low
is_low = record { below_safety_low = refl; below_safety_high = refl; below_emergency_low = refl; below_emergency_high = refl; no_command = refl }

-- a list of offs is off throughout
pub all_off_lem : (n : ℕ) → All Off (replicate n false)
all_off_lem zero = tt
all_off_lem (suc n) = (refl, all_off_lem n)

-- ---- in the list of the run stand all that bound the two numbers
off_lasts : (t : Times) (n : ℕ) → OffAtMost n (turns 50 (suc t.linger) (suc (t.period - 1)) (suc t.linger)) → most_off t.period ≤ n
unfolding turns
off_lasts t n h =
    let ons = replicate (suc t.linger) true in
    let offs = replicate (suc (t.period - 1)) false in
    let rest = ons ++ (false ∷ []) in
    let first : length (replicate 50 false) ≤ n = h.shown [] (replicate 50 false) (ons ++ (offs ++ rest)) refl (all_off_lem 50) in
    let later : length offs ≤ n =
    h.shown (replicate 50 false ++ ons) offs rest (sym (append_assoc (replicate 50 false ++ ons) offs rest ∙ append_assoc (replicate 50 false) ons (offs ++ rest))) (all_off_lem (suc (t.period - 1))) in
    omega (arith, length-replicate 50 false, length-replicate (suc (t.period - 1)) false)

-- a list that goes off after m places is on for no more than m
cut : (m n : ℕ) (rest : List Bool) → All On (take n (replicate m true ++ false ∷ rest)) → n ≤ m
cut m zero rest a = omega arith
cut zero (suc n) rest a = absurd (false≢true a.0)
cut (suc m) (suc n) rest a = omega (arith, cut m n rest a.1)

-- the first time on is over after linger + 1 places
on_ends : (t : Times) (n : ℕ) → OnAtLeast n (turns 50 (suc t.linger) (suc (t.period - 1)) (suc t.linger)) → n ≤ least_on t.linger
unfolding turns
on_ends t n h =
    let rest = replicate (t.period - 1) false ++ (replicate (suc t.linger) true ++ (false ∷ [])) in
    omega (arith, cut (suc t.linger) n rest (h.shown (replicate 49 false) (replicate t.linger true ++ false ∷ rest) refl))

-- ---- a period of 2 ^ 64 ticks: at the top of its age emergency is there for good
abbrev endless : Times
endless = record { linger = 0; period = 2 ^ 64 }

-- emergency at the top of its age
abbrev topmost : State
topmost = record { phase = Emergency aged (2 ^ 64 - 1); on = false }

-- a tick changes nothing
stays_there : tick endless topmost low ≡ topmost
unfolding tick step_of older_of
stays_there = refl

-- so the channel never comes on
never_on : (n : ℕ) → channel (tick endless) is_tick is_on topmost (replicate n low) ≡ replicate (suc n) false
never_on zero = refl
never_on (suc n) = rw stays_there (ap (λ (l : List Bool). false ∷ l) (never_on n))

-- and no number bounds how long it is off
too_long : (n most : ℕ) → OffAtMost most (channel (tick endless) is_tick is_on topmost (replicate n low)) → suc n ≤ most
too_long n most h = omega (arith, h.shown [] (replicate (suc n) false) [] (never_on n ∙ sym (append-nil (replicate (suc n) false))) (all_off_lem (suc n)), length-replicate (suc n) false)

-- the claim
pub tight : Tight
tight =
    record {
      off = λ t l p n h. omega (arith, off_lasts t n (subst (OffAtMost n) (low_run t low is_low (omega arith) (omega arith)) (h (replicate (low_ticks t) low))));
      on = λ t l p n h. omega (arith, on_ends t n (subst (OnAtLeast n) (low_run t low is_low (omega arith) (omega arith)) (h (replicate (low_ticks t) low))));
      period_fits = λ h. omega (arith, too_long (2 ^ 64) (most_off (2 ^ 64)) (h endless topmost refl (replicate (2 ^ 64) low)));
    }

-- ---- two runs that antt computes
-- linger 3 and a period of 60 ticks: 50 off after the start, 4 on, 60 off, 4 on
pub period_60 : channel (tick (record { linger = 3; period = 60 })) is_tick is_on start (replicate 118 low)
    ≡ turns 50 4 60 4
unfolding turns tick step_of older_of
period_60 = refl

-- linger 0 and a period of 0: 50 off after the start, and then 1 on and 1 off by turns
pub period_0 : channel (tick (record { linger = 0; period = 0 })) is_tick is_on start (replicate 53 low)
    ≡ replicate 50 false ++ (true ∷ false ∷ true ∷ false ∷ [])
unfolding tick step_of older_of
period_0 = refl
