-- What follows from the table and the commands: by what each mode is left and for which, one change at most, and that
-- the mode and its age change together. Assumes nothing.
use mathlib.Core.Path.{◌≡◌, refl, ap}
use mathlib.Core.Bool.{Bool, true, false, not, cond, ◌&&◌, ◌||◌, or-true}
use mathlib.Core.List.{List, [], ◌∷◌}
use Prim.Native.Nat.{◌+◌, ◌-◌, ◌^◌, ◌≤◌, ◌<◌}
use native.Mathlib.Omega.{arith}
use borrow.Author.Tests.{le-leb, lt-leb, le-ltb, eqb-true}
use lib.IntN.{ℤ}
use lib.Dec.{T, eqb}
use Rattle.laws.proofs.Cases.{cases, both}
use Rattle.modes.specs.declared.Mode.{Mode}
use Rattle.modes.specs.declared.Mode.TheVariants.{Startup, Nominal, Safety, Emergency}
use Rattle.modes.specs.declared.ModeAge.{ModeAge}
use Rattle.modes.specs.declared.Limits.{Limits}
use Rattle.modes.specs.Table.{◌reaches◌, ◌exceeds◌, ◌at_least◌, ◌above◌, ◌below◌, ◌aged◌, entered, Row, from◌when◌to◌, ◌if◌else◌, mode_table, number, same, first, step_of, older_of}
use Rattle.modes.specs.Commands.{to_safety_from, to_safety, to_nominal_from, to_nominal, mode_number, leaves}

-- ---- what each mode is left by, and for which
module _ (s : ModeAge) (rail : ℤ) (limits : Limits) where
  pub startup_step : s.mode ≡ Startup → step_of s rail limits ≡ cond (s.age reaches 50) (entered (Nominal if rail at_least limits.safety_low else Safety)) s
  unfolding step_of
  startup_step m = simp m

  pub nominal_step : s.mode ≡ Nominal → step_of s rail limits ≡ cond (rail below limits.safety_low) (entered Safety) s
  unfolding step_of
  nominal_step m = simp m

  pub safety_step : s.mode ≡ Safety
      → step_of s rail limits
      ≡ cond (s.age exceeds limits.linger && rail above limits.safety_high) (entered Nominal)
      (cond (s.age exceeds limits.linger && rail below limits.emergency_low) (entered Emergency) s)
  unfolding step_of
  safety_step m = simp m

  pub emergency_step : s.mode ≡ Emergency → step_of s rail limits ≡ cond (rail above limits.emergency_high || s.age reaches limits.period) (entered Safety) s
  unfolding step_of
  emergency_step m = simp m

  -- at age 50 startup is left whatever the rail, and before it is not
  pub startup_left : s.mode ≡ Startup → 50 ≤ s.age → step_of s rail limits ≡ entered (Nominal if rail at_least limits.safety_low else Safety)
  unfolding step_of
  startup_left m h = simp (m, le-leb 50 s.age h)

  pub startup_stays : s.mode ≡ Startup → s.age < 50 → step_of s rail limits ≡ s
  unfolding step_of
  startup_stays m h = simp (m, lt-leb 50 s.age h)

  -- until linger is over safety is not left
  pub safety_stays : s.mode ≡ Safety → s.age ≤ limits.linger → step_of s rail limits ≡ s
  unfolding step_of
  safety_stays m h = simp (m, le-ltb limits.linger s.age h)

  -- after its period emergency is left whatever the rail
  pub emergency_left : s.mode ≡ Emergency → limits.period ≤ s.age → step_of s rail limits ≡ entered Safety
  unfolding step_of
  emergency_left m h = simp (m, le-leb limits.period s.age h, or-true)

  -- the step leads into mode n
  abbrev pub leads_to : Mode → Bool
  leads_to n = same n (step_of s rail limits).mode

  -- each change that the table knows happens exactly when its row says so
  pub startup_to_nominal : s.mode ≡ Startup → leads_to Nominal ≡ (s.age reaches 50 && rail at_least limits.safety_low)
  unfolding step_of
  startup_to_nominal m =
      cases (s.age reaches 50)
      (λ a. cases (rail at_least limits.safety_low) (λ b. simp (m, a, b)) (λ b. simp (m, a, b)))
      (λ a. simp (m, a))

  pub startup_to_safety : s.mode ≡ Startup → leads_to Safety ≡ (s.age reaches 50 && not (rail at_least limits.safety_low))
  unfolding step_of
  startup_to_safety m =
      cases (s.age reaches 50)
      (λ a. cases (rail at_least limits.safety_low) (λ b. simp (m, a, b)) (λ b. simp (m, a, b)))
      (λ a. simp (m, a))

  pub nominal_to_safety : s.mode ≡ Nominal → leads_to Safety ≡ (rail below limits.safety_low)
  unfolding step_of
  nominal_to_safety m = cases (rail below limits.safety_low) (λ a. simp (m, a)) (λ a. simp (m, a))

  pub safety_to_nominal : s.mode ≡ Safety → leads_to Nominal ≡ (s.age exceeds limits.linger && rail above limits.safety_high)
  unfolding step_of
  safety_to_nominal m =
      cases (s.age exceeds limits.linger)
      (λ a. cases (rail above limits.safety_high)
      (λ b. simp (m, a, b))
      (λ b. cases (rail below limits.emergency_low) (λ d. simp (m, a, b, d)) (λ d. simp (m, a, b, d))))
      (λ a. simp (m, a))

  pub safety_to_emergency : s.mode ≡ Safety → leads_to Emergency ≡ (s.age exceeds limits.linger && (not (rail above limits.safety_high) && rail below limits.emergency_low))
  unfolding step_of
  safety_to_emergency m =
      cases (s.age exceeds limits.linger)
      (λ a. cases (rail above limits.safety_high)
      (λ b. simp (m, a, b))
      (λ b. cases (rail below limits.emergency_low) (λ d. simp (m, a, b, d)) (λ d. simp (m, a, b, d))))
      (λ a. simp (m, a))

  pub emergency_to_safety : s.mode ≡ Emergency → leads_to Safety ≡ (rail above limits.emergency_high || s.age reaches limits.period)
  unfolding step_of
  emergency_to_safety m = cases (rail above limits.emergency_high || s.age reaches limits.period) (λ a. simp (m, a)) (λ a. simp (m, a))

-- ---- the mode and its age change together: nothing changes, or another mode is entered, at age 0
pub data Change (s : ModeAge) : ModeAge → Type 0 where
  stays : Change s s
  enters : (n : Mode) → T (not (same s.mode n)) → Change s (entered n)

-- no row leads where it comes from
Moves : List Row → Type 0
Moves [] = Unit {0}
Moves ((from m when b to n) ∷ rows) = T (not (same m n)) × Moves rows

by_row : (s : ModeAge) (n : Mode) (applies : Bool) {t : ModeAge} → (applies ≡ true → T (not (same s.mode n))) → Change s t → Change s (cond applies (entered n) t)
by_row s n true h r = enters n (h refl)
by_row s n false h r = r

by_rows : (rows : List Row) (s : ModeAge) → Moves rows → Change s (first rows s)
unfolding Moves
by_rows [] s t = stays
by_rows ((from m when b to n) ∷ rows) s t =
    by_row s n (same m s.mode && b)
    (λ e. rw (eqb-true (number m) (number s.mode) (both (same m s.mode) b e).0) at t.0)
    (by_rows rows s t.1)

-- a step is one change, or none
pub one_change : (s : ModeAge) (rail : ℤ) (limits : Limits) → Change s (step_of s rail limits)
unfolding Moves step_of
one_change s rail limits = by_rows (mode_table s.age rail limits) s (cases (rail at_least limits.safety_low) (λ a. rw a tt) (λ a. rw a tt), (tt, (tt, (tt, (tt, tt)))))

-- a command, too, is one change or none
to_safety_from_lem : (m : Mode) (s : ModeAge) → s.mode ≡ m → Change s (leaves (to_safety_from m s) s)
to_safety_from_lem Startup s e = stays
to_safety_from_lem Nominal s e = enters Safety (rw e tt)
to_safety_from_lem Safety s e = stays
to_safety_from_lem Emergency s e = stays

pub to_safety_change : (s : ModeAge) → Change s (leaves (to_safety s) s)
unfolding to_safety
to_safety_change s = to_safety_from_lem s.mode s refl

to_nominal_from_lem : (m : Mode) (s : ModeAge) (rail : ℤ) (limits : Limits) → s.mode ≡ m → Change s (leaves (to_nominal_from m s rail limits) s)
to_nominal_from_lem Startup s rail limits e = stays
to_nominal_from_lem Nominal s rail limits e = stays
to_nominal_from_lem Safety s rail limits e =
    cases (rail at_least limits.safety_low)
    (λ a. rw a (enters Nominal (rw e tt)))
    (λ a. rw a stays)
to_nominal_from_lem Emergency s rail limits e = stays

pub to_nominal_change : (s : ModeAge) (rail : ℤ) (limits : Limits) → Change s (leaves (to_nominal s rail limits) s)
unfolding to_nominal
to_nominal_change s rail limits = to_nominal_from_lem s.mode s rail limits refl

-- ---- answer 6 is given exactly where document 01 says
to_safety_answers : (m : Mode) (s : ModeAge) → eqb (mode_number (to_safety_from m s)) 6 ≡ (same Startup m || same Emergency m)
to_safety_answers Startup s = refl
to_safety_answers Nominal s = refl
to_safety_answers Safety s = refl
to_safety_answers Emergency s = refl

pub to_safety_unavailable : (s : ModeAge) → eqb (mode_number (to_safety s)) 6 ≡ (same Startup s.mode || same Emergency s.mode)
unfolding to_safety
to_safety_unavailable s = to_safety_answers s.mode s

to_nominal_answers : (m : Mode) (s : ModeAge) (rail : ℤ) (limits : Limits)
    → eqb (mode_number (to_nominal_from m s rail limits)) 6 ≡ (same Startup m || same Emergency m || (same Safety m && not (rail at_least limits.safety_low)))
to_nominal_answers Startup s rail limits = refl
to_nominal_answers Nominal s rail limits = refl
to_nominal_answers Safety s rail limits = cases (rail at_least limits.safety_low) (λ a. simp a) (λ a. simp a)
to_nominal_answers Emergency s rail limits = refl

pub to_nominal_unavailable : (s : ModeAge) (rail : ℤ) (limits : Limits)
    → eqb (mode_number (to_nominal s rail limits)) 6 ≡ (same Startup s.mode || same Emergency s.mode || (same Safety s.mode && not (rail at_least limits.safety_low)))
unfolding to_nominal
to_nominal_unavailable s rail limits = to_nominal_answers s.mode s rail limits

-- ---- the age rises by one below the top, where it stops
pub older_rises : (s : ModeAge) → s.age < 2 ^ 64 - 1 → (older_of s).age ≡ s.age + 1
unfolding older_of
older_rises s h = omega arith

pub older_stops : (s : ModeAge) → s.age ≡ 2 ^ 64 - 1 → older_of s ≡ s
unfolding older_of
older_stops s h = ap (◌aged◌ s.mode) (omega arith)

pub older_mode : (s : ModeAge) → (older_of s).mode ≡ s.mode
unfolding older_of
older_mode s = refl
