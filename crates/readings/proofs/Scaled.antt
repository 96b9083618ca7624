-- PreMul (Raw + Bias) at 64 bits: neither the sum nor the product passes the width. Assumes nothing.
use Prim.Native.Nat.{ℕ, ◌+◌, ◌≤◌}
use mathlib.Core.Path.{◌≡◌, ◌∙◌}
use native.Mathlib.Nat.{mul-le-mul}
use native.Mathlib.Omega.{arith}
use lib.IntN.{ℤ, pos, nat_abs, ◌+ℤ◌, ◌*ℤ◌}
use lib.Signed.{nat_abs-le}
use mir.Syntax.{w32, w64}
use mir.Val.{SFits, to_z}
use mir.ValLaws.{to_z-of_z, to_z_pos}
use Rattle.laws.proofs.Signed.{read, widened_to}
use Rattle.rounding.proofs.Integers.{abs_add, abs_mul, fits_abs}

-- two operands that read as themselves
both : (g : ℤ → ℤ → ℤ) {a a' b b' : ℤ} → a ≡ a' → b ≡ b' → g a b ≡ g a' b'
both g e f = cc

module _ (n b : ℤ) (p : ℕ) (fn : SFits w64 n) (fb : SFits w32 b) (hn : nat_abs n ≤ 65536) (hp : p ≤ 65536) where
  abbrev pub sum : ℤ
  sum = read w64 n +ℤ read w64 (read w32 b)

  abbrev pub product : ℤ
  product = to_z w64 p *ℤ read w64 sum

  sum_is : sum ≡ n +ℤ b
  sum_is = both (λ x y. x +ℤ y) (to_z-of_z w64 n fn) (widened_to w32 w64 tt fb)

  small : nat_abs (n +ℤ b) ≤ 65536 + 2147483648
  small = omega (arith, abs_add n b, nat_abs-le b fb.sfits)

  pub sum_fits : SFits w64 sum
  sum_fits = rw sum_is (fits_abs w64 (n +ℤ b) (omega (arith, small)))

  product_is : product ≡ pos p *ℤ (n +ℤ b)
  product_is = both (λ x y. x *ℤ y) (to_z_pos w64 p (omega arith)) (to_z-of_z w64 sum sum_fits ∙ sum_is)

  pub product_fits : SFits w64 product
  product_fits =
      rw product_is (fits_abs w64 (pos p *ℤ (n +ℤ b)) (omega (arith, abs_mul (pos p) (n +ℤ b), mul-le-mul hp small)))

  pub scaled_is : read w64 product ≡ pos p *ℤ (n +ℤ b)
  scaled_is = to_z-of_z w64 product product_fits ∙ product_is
