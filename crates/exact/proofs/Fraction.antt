-- The nearest whole number of a fraction, held, lies to it as is claimed: the laws of `rounding`, put together once for
-- every fraction. Assumes nothing.
use Prim.Native.Nat.{ℕ, ◌<◌}
use mathlib.Core.Path.{ap}
use lib.IntN.{ℤ}
use Rattle.rounding.specs.Rounding.{nearest, held}
use Rattle.rounding.proofs.Rounding.{nearest_is, only, half_a_unit}
use Rattle.rounding.proofs.Exactly as exactly
use Rattle.exact.specs.Fraction.{HeldNearest}

pub held_nearest : (n : ℤ) (d : ℕ) → 0 < d → HeldNearest n d (held (nearest n d))
held_nearest n d h =
    record {
      nearest_held = λ q p. ap held (only n d (nearest n d) q h (nearest_is n d h) p);
      within_half = λ t b. half_a_unit n d h (exactly.not_held n d h t b);
      top = exactly.top n d h;
      bottom = exactly.bottom n d h;
      not_held = exactly.not_held n d h;
      zero = exactly.zero_when n d h;
      above_zero = exactly.above_when n d h;
      below_zero = exactly.below_when n d h;
    }
