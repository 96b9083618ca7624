-- Which fractions lie a whole half from the nearest whole number, where the two numbers of the fraction share a factor
-- g: above the line stands g (2 l + 1) a, below it g 2 m, and 2 j + 1 is an inverse of 2 l + 1 at 2 m. They are those
-- where a is m, or m and a multiple of 2 m. Assumes nothing.
use Prim.Native.Nat.{ℕ, ◌+◌, ◌*◌, ◌%◌, ◌<◌, ◌∣◌}
use mathlib.Core.Path.{◌≡◌, sym, ap, ◌∙◌}
use mathlib.Core.Logic.Iff
use mathlib.Core.Logic.{◌↔◌}
use native.Mathlib.Nat.{add-mul-mod_self_left, mod-eq-zero_of_dvd, dvd_of_mod-eq-zero, dvd-mul_left_of_dvd, dvd_of_mul-dvd-mul_left, mul-dvd-mul_left}
use native.Mathlib.Omega.{arith}
use lib.IntN.{ℤ, nat_abs}
use Rattle.rounding.specs.Rounding.{nearest, distance}
use Rattle.rounding.proofs.Exactly.{half_when}

-- what d divides together with w times d leaves nothing over by itself
alone : (d z w : ℕ) → d ∣ z + d * w → z % d ≡ 0
alone d z w v = sym (add-mul-mod_self_left z d w) ∙ mod-eq-zero_of_dvd d v

module _ (g m l j k a : ℕ) (h : 0 < g) (inverse : (2 * l + 1) * (2 * j + 1) ≡ 1 + 2 * m * k) where
  whole : ((2 * (g * (2 * l + 1) * a) + g * (2 * m)) % (2 * (g * (2 * m))) ≡ 0) ↔ ((a + m) % (2 * m) ≡ 0)
  whole =
      let s = 2 * (g * (2 * l + 1) * a) + g * (2 * m) in
      let d : 2 * (g * (2 * m)) ≡ 2 * g * (2 * m) = omega arith in
      let e : (2 * j + 1) * s ≡ 2 * g * (a + m + 2 * m * (k * a + j)) = omega (arith, ap (λ (t : ℕ). 2 * g * a * t) inverse) in
      let f : (2 * l + 1) * (2 * g * (a + m)) ≡ s + 2 * (g * (2 * m)) * l = omega arith in (
        λ t.
            let v : 2 * g * (2 * m) ∣ 2 * g * (a + m + 2 * m * (k * a + j)) = rw (← d, ← e) (dvd-mul_left_of_dvd _ (dvd_of_mod-eq-zero _ t) (2 * j + 1)) in
            alone (2 * m) (a + m) (k * a + j) (dvd_of_mul-dvd-mul_left (2 * m) (omega arith) v),
        λ t. alone _ s l (rw (← f, d) (dvd-mul_left_of_dvd _ (mul-dvd-mul_left _ (2 * g) (dvd_of_mod-eq-zero _ t)) (2 * l + 1))),
      )

  pub half_shared : (n : ℤ) → nat_abs n ≡ g * (2 * l + 1) * a → 0 < g * (2 * m)
      → (2 * distance (nearest n (g * (2 * m))) n (g * (2 * m)) ≡ g * (2 * m)) ↔ ((a + m) % (2 * m) ≡ 0)
  half_shared n e p = Iff.trans (half_when n (g * (2 * m)) p) (rw e whole)
