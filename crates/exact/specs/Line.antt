-- How the temperature of a battery pack lies to the exact value, the fifth-degree line of Table 3-13. That value is
-- told on the scale of the line's whole numbers, on which `hundredth` is a hundredth of a degree; `Fraction` says how a
-- result lies to such a value. Assumes nothing: this is what is claimed, and proofs/Line shows it.
use Rattle.std.specs.Prelude.{ℕ, min, ℤ}
use Rattle.temperature.specs.Temperature.{line_at, hundredth, temperature_of}
use Rattle.exact.specs.Fraction.{HeldNearest}

-- ---- the exact value at a code; for a code above 4095 it is that at 4095
abbrev pub exact_at : ℕ → ℤ
exact_at code = line_at (min code 4095)

-- ---- what is claimed of a code: the temperature is the exact value's nearest hundredth of a degree, held
pub record ExactTemperature (code : ℕ) : Type 0 where
  pub held_nearest : HeldNearest (exact_at code) hundredth (temperature_of code)
