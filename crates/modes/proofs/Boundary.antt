-- Rows 5 to 12 of document 01's boundary table, and the signs and ends of the rail, as steps of the table: one list of
-- cases, one claim. antt computes it. Assumes nothing.
use mathlib.Core.Path.{◌≡◌, refl}
use mathlib.Core.List.{List, [], ◌∷◌, map}
use Prim.Native.Nat.{ℕ}
use lib.IntN.{ℤ, pos, neg_ℤ}
use Rattle.modes.specs.declared.Mode.{Mode}
use Rattle.modes.specs.declared.Mode.TheVariants.{Startup, Nominal, Safety, Emergency}
use Rattle.modes.specs.declared.ModeAge.{ModeAge}
use Rattle.modes.specs.declared.Limits.{Limits}
use Rattle.std.specs.Prelude.{Option, Some, None}
use Rattle.modes.specs.Table.{step_of}
use Rattle.modes.specs.Commands.{to_nominal}

infix 90 +◌ −◌
abbrev +◌ : ℕ → ℤ
+ n = pos n

abbrev −◌ : ℕ → ℤ
− n = neg_ℤ (pos n)

-- linger 100 and period 300 ticks, and the thresholds safety low, safety high, emergency low, emergency high
abbrev thresholds : ℤ → ℤ → ℤ → ℤ → Limits
thresholds low high elow ehigh =
    record {
      linger = 100;
      period = 300;
      safety_low = low;
      safety_high = high;
      emergency_low = elow;
      emergency_high = ehigh;
    }

abbrev usual : Limits
usual = thresholds (+ 6500) (+ 7000) (+ 6000) (+ 6400)

-- all four thresholds the same
abbrev at : ℤ → Limits
at z = thresholds z z z z

infix 70 was◌aged◌rail◌by◌then◌aged◌
pub data Case : Type 0 where
  was◌aged◌rail◌by◌then◌aged◌ : Mode → ℕ → ℤ → Limits → Mode → ℕ → Case

pub cases : List Case
cases =
    -- 5 and 6: startup at age 49 stays, at 50 leaves, by the rail
    (was Startup aged 49 rail (+ 7400) by usual then Startup aged 49)
    ∷ (was Startup aged 50 rail (+ 6500) by usual then Nominal aged 0)
    ∷ (was Startup aged 50 rail (+ 6499) by usual then Safety aged 0)
    -- 7 and 8: linger 100, rail above safety high
    ∷ (was Safety aged 100 rail (+ 7001) by usual then Safety aged 100)
    ∷ (was Safety aged 101 rail (+ 7001) by usual then Nominal aged 0)
    ∷ (was Safety aged 101 rail (+ 7000) by usual then Safety aged 101)
    ∷ (was Safety aged 101 rail (+ 6000) by usual then Safety aged 101)
    ∷ (was Safety aged 101 rail (+ 5999) by usual then Emergency aged 0)
    -- 9 and 10: emergency period 300, low rail
    ∷ (was Emergency aged 299 rail (− 20) by usual then Emergency aged 299)
    ∷ (was Emergency aged 300 rail (− 20) by usual then Safety aged 0)
    ∷ (was Emergency aged 299 rail (+ 6400) by usual then Emergency aged 299)
    ∷ (was Emergency aged 0 rail (+ 6401) by usual then Safety aged 0)
    -- 11 and 12: safety low 6500
    ∷ (was Nominal aged 7 rail (− 20) by usual then Safety aged 0)
    ∷ (was Nominal aged 7 rail (+ 6500) by usual then Nominal aged 7)
    -- thresholds out of order: the first row that applies decides
    ∷ (was Safety aged 101 rail (+ 6500) by thresholds (+ 6500) (+ 6000) (+ 7000) (+ 6400) then Nominal aged 0)
    -- 40000 is above every rail
    ∷ (was Nominal aged 7 rail (− 32768) by at (+ 40000) then Safety aged 0)
    ∷ (was Nominal aged 7 rail (− 1) by at (+ 40000) then Safety aged 0)
    ∷ (was Nominal aged 7 rail (+ 0) by at (+ 40000) then Safety aged 0)
    ∷ (was Nominal aged 7 rail (+ 32767) by at (+ 40000) then Safety aged 0)
    ∷ (was Startup aged 50 rail (− 1) by at (+ 40000) then Safety aged 0)
    ∷ (was Safety aged 101 rail (− 32768) by at (+ 40000) then Emergency aged 0)
    ∷ (was Safety aged 101 rail (+ 32767) by at (+ 40000) then Emergency aged 0)
    ∷ (was Emergency aged 0 rail (− 1) by at (+ 40000) then Emergency aged 0)
    ∷ (was Emergency aged 0 rail (+ 32767) by at (+ 40000) then Emergency aged 0)
    -- at zero
    ∷ (was Nominal aged 7 rail (− 1) by at (+ 0) then Safety aged 0)
    ∷ (was Nominal aged 7 rail (+ 0) by at (+ 0) then Nominal aged 7)
    ∷ (was Emergency aged 0 rail (+ 0) by at (− 1) then Safety aged 0)
    ∷ (was Emergency aged 0 rail (− 1) by at (+ 0) then Emergency aged 0)
    -- at both ends
    ∷ (was Nominal aged 7 rail (− 32768) by at (− 32767) then Safety aged 0)
    ∷ (was Nominal aged 7 rail (− 32768) by at (− 32768) then Nominal aged 7)
    ∷ (was Nominal aged 7 rail (+ 32767) by at (+ 32767) then Nominal aged 7)
    ∷ (was Emergency aged 0 rail (+ 32767) by at (+ 32766) then Safety aged 0)
    ∷ (was Emergency aged 0 rail (+ 32767) by at (+ 32767) then Emergency aged 0)
    ∷ []

pub stepped : Case → ModeAge
stepped (was m aged a rail z by l then n aged b) = step_of (record { mode = m; age = a }) z l

pub expected : Case → ModeAge
expected (was m aged a rail z by l then n aged b) = record { mode = n; age = b }

pub each_case : map stepped cases ≡ map expected cases
unfolding expected stepped cases step_of
each_case = refl

-- 0x30 in safety: at safety low, below it, and at a threshold that no rail reaches
abbrev asked : ℤ → Limits → Option ModeAge
asked z l = to_nominal (record { mode = Safety; age = 7 }) z l

abbrev nominal : Option ModeAge
nominal = Some (record { mode = Nominal; age = 0 })

pub asked_at_the_edge : (asked (+ 6500) usual ∷ asked (+ 6499) usual ∷ asked (− 1) usual ∷ asked (+ 32767) (at (+ 40000)) ∷ asked (− 32768) (at (− 32768)) ∷ [])
    ≡ (nominal ∷ None ∷ None ∷ None ∷ nominal ∷ [])
unfolding to_nominal
asked_at_the_edge = refl
