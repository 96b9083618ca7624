-- The negative of a number of the lower half of 64 bits. `read w z` is what the machine reads of z at a width. Assumes
-- nothing.
use Prim.Native.Nat.{ℕ, ◌^◌, ◌<◌}
use mathlib.Core.Path.{◌≡◌, ap, ◌∙◌}
use native.Mathlib.Omega.{arith}
use lib.IntN.{ℤ, pos, neg_ℤ, ◌-ℤ◌, +ℤ_idl}
use mir.Syntax.{w64}
use mir.Val.{SFits, to_z}
use mir.ValLaws.{to_z-of_z, to_z_pos}
use Rattle.laws.proofs.Signed.{read}
use Rattle.rounding.proofs.Integers.{abs_neg, fits_abs}

module _ (m : ℕ) (h : m < 2 ^ 63) where
  zero_less : pos 0 -ℤ to_z w64 m ≡ neg_ℤ (pos m)
  zero_less = ap (λ (x : ℤ). pos 0 -ℤ x) (to_z_pos w64 m h) ∙ +ℤ_idl (neg_ℤ (pos m))

  pub minus_fits : SFits w64 (pos 0 -ℤ to_z w64 m)
  minus_fits = rw zero_less (fits_abs w64 (neg_ℤ (pos m)) (omega (arith, abs_neg (pos m))))

  pub minus_is : read w64 (pos 0 -ℤ to_z w64 m) ≡ neg_ℤ (pos m)
  minus_is = to_z-of_z w64 (pos 0 -ℤ to_z w64 m) minus_fits ∙ zero_less
