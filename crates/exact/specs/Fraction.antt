-- How a whole number lies to a fraction, `above` over `below`, whose nearest whole number it is, held to the ends of
-- int16. A comparison of the fraction with a number is told times `below`, and one with a half times twice that, so
-- that all numbers are whole. `a ⇔ b` says that a and b follow from each other. Assumes nothing: this is what is
-- claimed of each such result, and proofs/Fraction shows it.
use Rattle.std.specs.Prelude.{ℕ, ◌*◌, ◌≤◌, ◌<◌, ◌≡◌, Bool, true, false, ℤ, pos, neg_ℤ, nat_abs, ◌*ℤ◌}
use Rattle.std.specs.Int.Signed.{le_z, lt_z}
use Rattle.rounding.specs.Rounding.{Nearest, distance, nearest, held}

infix 20 ◌⇔◌
abbrev pub ◌⇔◌ : Type 0 → Type 0 → Type 0
A ⇔ B = (A → B) × (B → A)

-- the fraction lies half a unit or more above 32767, or below -32768: the nearest unit passes the end
abbrev pub passes_the_top : ℤ → ℕ → Bool
passes_the_top above below = le_z (pos (65535 * below)) (pos 2 *ℤ above)

abbrev pub passes_the_bottom : ℤ → ℕ → Bool
passes_the_bottom above below = le_z (pos 2 *ℤ above) (neg_ℤ (pos (65537 * below)))

pub record HeldNearest (above : ℤ) (below : ℕ) (result : ℤ) : Type 0 where
  -- whichever whole number is the nearest to the fraction, halves away from zero, the result is that one, held
  pub nearest_held : (q : ℤ) → Nearest above below q → result ≡ held q
  -- not held, it lies at most half a unit from the fraction
  pub within_half : passes_the_top above below ≡ false → passes_the_bottom above below ≡ false → 2 * distance result above below ≤ below
  -- it is held where the fraction passes an end, and then it is that end, which the nearest unit is not; and nowhere
  -- else
  pub top : passes_the_top above below ≡ true → (result ≡ pos 32767) × (nearest above below ≡ result → ⊥)
  pub bottom : passes_the_bottom above below ≡ true → (result ≡ neg_ℤ (pos 32768)) × (nearest above below ≡ result → ⊥)
  pub not_held : passes_the_top above below ≡ false → passes_the_bottom above below ≡ false → result ≡ nearest above below
  -- it is 0 where the fraction lies less than half a unit from 0, and else it has the fraction's sign
  pub zero : (result ≡ pos 0) ⇔ (2 * nat_abs above < below)
  pub above_zero : (lt_z (pos 0) result ≡ true) ⇔ ((lt_z (pos 0) above ≡ true) × (below ≤ 2 * nat_abs above))
  pub below_zero : (lt_z result (pos 0) ≡ true) ⇔ ((lt_z above (pos 0) ≡ true) × (below ≤ 2 * nat_abs above))
