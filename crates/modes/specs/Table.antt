-- Document 01's table of the modes, and the step that it makes. Assumes nothing.
use Rattle.std.specs.Prelude.{ℕ, ◌+◌, ◌-◌, ◌^◌, min}
use mathlib.Core.{Bool.Bool, Bool.cond, Bool.◌&&◌, Bool.◌||◌, List.List, List.[], List.◌∷◌}
use lib.{IntN.ℤ, Dec.ltb, Dec.leb, Dec.eqb, Signed.lt_z, Signed.le_z}
use Rattle.modes.specs.{declared.Mode.Mode, declared.ModeAge.ModeAge, declared.Limits.Limits}
use Rattle.modes.specs.declared.Mode.TheVariants.{Startup, Nominal, Safety, Emergency}

infix 50 ◌reaches◌ ◌exceeds◌ ◌at_least◌ ◌above◌ ◌below◌
-- ages, in ticks: ≥ and >
abbrev pub ◌reaches◌ : ℕ → ℕ → Bool
age reaches ticks = leb ticks age

abbrev pub ◌exceeds◌ : ℕ → ℕ → Bool
age exceeds ticks = ltb ticks age

-- the rail and a threshold, in millivolts, as signed numbers: ≥, > and <
abbrev pub ◌at_least◌ : ℤ → ℤ → Bool
rail at_least millivolts = le_z millivolts rail

abbrev pub ◌above◌ : ℤ → ℤ → Bool
rail above millivolts = lt_z millivolts rail

abbrev pub ◌below◌ : ℤ → ℤ → Bool
rail below millivolts = lt_z rail millivolts

infix 30 ◌aged◌
abbrev pub ◌aged◌ : Mode → ℕ → ModeAge
m aged ticks = record { mode = m; age = ticks }

-- a mode just entered has age 0
abbrev pub entered : Mode → ModeAge
entered m = m aged 0

infix 60 ◌if◌else◌
abbrev pub ◌if◌else◌ : Mode → Bool → Mode → Mode
m if b else n = cond b m n

-- a row: a mode, when it is left, and for which
infix 40 from◌when◌to◌
pub data Row : Type 0 where
  from◌when◌to◌ : Mode → Bool → Mode → Row

-- the rows are read from the top and the first that applies decides, whatever the order of the thresholds: a row holds
-- only where none above it does
abbrev pub mode_table : ℕ → ℤ → Limits → List Row
mode_table age rail limits =
    (from Startup when age reaches 50 to (Nominal if rail at_least limits.safety_low else Safety))
    ∷ (from Nominal when rail below limits.safety_low to Safety)
    ∷ (from Safety when age exceeds limits.linger && rail above limits.safety_high to Nominal)
    ∷ (from Safety when age exceeds limits.linger && rail below limits.emergency_low to Emergency)
    ∷ (from Emergency when rail above limits.emergency_high || age reaches limits.period to Safety)
    ∷ []

-- whether two are the same mode: `number` only tells modes apart, it is no number of document 01
abbrev pub number : Mode → ℕ
number Startup = 0
number Nominal = 1
number Safety = 2
number Emergency = 3

abbrev pub same : Mode → Mode → Bool
same m n = eqb (number m) (number n)

-- what the first row that applies says; where none does, all stays
abbrev pub first : List Row → ModeAge → ModeAge
first [] s = s
first ((from m when b to n) ∷ rows) s = cond (same m s.mode && b) (entered n) (first rows s)

-- the automatic change of a tick: one at most
unfoldable pub step_of : ModeAge → ℤ → Limits → ModeAge
step_of s rail limits = first (mode_table s.age rail limits) s

-- one tick older; the age has 64 bits and stays at its top
unfoldable pub older_of : ModeAge → ModeAge
older_of s = s.mode aged min (s.age + 1) (2 ^ 64 - 1)
