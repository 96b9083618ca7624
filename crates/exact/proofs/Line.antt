-- How the temperature of a pack lies to Table 3-13's exact line: as the nearest hundredth of a degree does. Assumes
-- nothing.
use Prim.Native.Nat.{ℕ, ◌<◌}
use lib.Dec.{lit<}
use Rattle.temperature.specs.Temperature.{hundredth, entry_of, temperature_of}
use Rattle.exact.specs.Line.{exact_at, ExactTemperature}
use Rattle.exact.proofs.Fraction.{held_nearest}

positive : 0 < hundredth
positive = lit< tt

pub exact_temperature : (code : ℕ) → ExactTemperature code
unfolding entry_of temperature_of
exact_temperature code = record { held_nearest = held_nearest (exact_at code) hundredth positive }
