-- Where the nearest whole number lies, exactly: from which fraction on it passes a number, where it lies a whole half
-- away, where it is held, where it is 0 and on which side of 0 it lies else, and that neither it nor what is held of it
-- falls where the fraction rises. An integer z is `plus z` less `minus z`, of which one is 0; each of the two is
-- rounded and held by itself, so that one law on natural numbers, `passes`, serves both signs. Assumes nothing.
use Prim.Native.Nat.{ℕ, zero, suc, ◌+◌, ◌-◌, ◌*◌, ◌%◌, ◌≤◌, ◌<◌, min}
use mathlib.Core.Path.{◌≡◌, refl, sym, ap, ◌∙◌}
use mathlib.Core.Logic.{◌⊎◌, inl, inr, ◌↔◌}
use mathlib.Core.Bool.{true, false}
use native.Mathlib.Nat.{div-add-mod', mod-lt, div-eq_of_lt, mul-le-mul_left, le-div_iff_mul-le, div-lt_iff_lt-mul}
use native.Mathlib.Decide.{dec_lt}
use native.Mathlib.Omega.{arith}
use borrow.Author.Tests.{ltb-true, ltb-false}
use lib.Dec.{ltb}
use lib.IntN.{ℤ, pos, negsuc, neg_ℤ, nat_abs, sub_ℕ, ◌+ℤ◌, ◌*ℤ◌}
use lib.Signed.{le_z, lt_z}
use Rattle.laws.proofs.Cases.{cases}
use Rattle.laws.proofs.Signed.{plus, minus, Same, order}
use Rattle.rounding.specs.Rounding.{up, nearest, held, distance}
use Rattle.rounding.proofs.Integers.{abs_minus}
use Rattle.rounding.proofs.Rounding.{turned, held_high, held_low, held_in_lem}

-- ---- the two sides of an integer
one_side : (z : ℤ) → min (plus z) (minus z) ≡ 0
unfolding plus minus
one_side (pos n) = omega arith
one_side (negsuc n) = omega arith

abs_sides : (z : ℤ) → nat_abs z ≡ plus z + minus z
unfolding plus minus
abs_sides (pos n) = omega arith
abs_sides (negsuc n) = omega arith

neg_sides : (n : ℕ) → (plus (neg_ℤ (pos n)) ≡ 0) × (minus (neg_ℤ (pos n)) ≡ n)
unfolding plus minus
neg_sides zero = (refl, refl)
neg_sides (suc n) = (refl, refl)

same_sides : (x y : ℤ) → Same x y → x ≡ y
unfolding plus minus
same_sides (pos a) (pos b) e = ap pos e.0
same_sides (pos a) (negsuc b) e = absurd (omega arith)
same_sides (negsuc a) (pos b) e = absurd (omega arith)
same_sides (negsuc a) (negsuc b) e = ap negsuc (omega arith)

-- of a difference, of a sum, and of a product with a number that is not negative
sub_sides : (a b : ℕ) → (plus (sub_ℕ a b) ≡ a - b) × (minus (sub_ℕ a b) ≡ b - a)
unfolding plus minus
sub_sides a b =
    cases (ltb a b)
    (λ t. let h : a < b = ltb-true a b t in rw t (omega arith))
    (λ t. let h : b ≤ a = ltb-false a b t in rw t (omega arith))

sum_sides : (a b : ℤ) → plus (a +ℤ b) + minus a + minus b ≡ plus a + plus b + minus (a +ℤ b)
unfolding plus minus
sum_sides (pos a) (pos b) = omega arith
sum_sides (pos a) (negsuc b) = omega (arith, sub_sides a (suc b))
sum_sides (negsuc a) (pos b) = omega (arith, sub_sides b (suc a))
sum_sides (negsuc a) (negsuc b) = omega arith

times_sides : (k : ℕ) (z : ℤ) → (plus (pos k *ℤ z) ≡ k * plus z) × (minus (pos k *ℤ z) ≡ k * minus z)
unfolding plus minus
times_sides k (pos n) = (refl, omega arith)
times_sides k (negsuc n) = omega (arith, neg_sides (k * suc n))

-- ---- each side is rounded and held by itself
module _ (d : ℕ) (h : 0 < d) where
  -- the rounded one passes k where the fraction lies half a unit or more above k, and nowhere else
  pub passes : (k n : ℕ) → ((k < up n d) × ((2 * k + 1) * d ≤ 2 * n)) ⊎ ((up n d ≤ k) × (2 * n < (2 * k + 1) * d))
  passes k n =
      elim (dec_lt k (up n d)) [
        | yes l ↦ inl (l, omega (arith, (le-div_iff_mul-le {k = 2 * d} {x = suc k} {y = 2 * n + d} (omega arith)).0 l))
        | no l ↦ inr (omega arith, omega (arith, (div-lt_iff_lt-mul {k = 2 * d} {x = 2 * n + d} {y = suc k} (omega arith)).0 (omega arith)))
      ]

  up_rises : (n m : ℕ) → n ≤ m → up n d ≤ up m d
  up_rises n m l = elim (passes (up m d) n) [ inl p ↦ elim (passes (up m d) m) [ inl q ↦ omega arith | inr q ↦ omega arith ] | inr p ↦ p.0 ]

  nearest_sides : (n : ℤ) → (plus (nearest n d) ≡ up (plus n) d) × (minus (nearest n d) ≡ up (minus n) d)
  unfolding nearest plus minus
  nearest_sides (pos n) = (refl, sym (div-eq_of_lt (omega arith)))
  nearest_sides (negsuc n) = ((neg_sides (up (suc n) d)).0 ∙ sym (div-eq_of_lt (omega arith)), (neg_sides (up (suc n) d)).1)

held_sides : (z : ℤ) → (plus (held z) ≡ min (plus z) 32767) × (minus (held z) ≡ min (minus z) 32768)
unfolding held plus minus
held_sides (pos n) = omega arith
held_sides (negsuc n) = omega arith

-- ---- what rises does not fall when a number is added to it, when it is multiplied, rounded or held
by_sides : (a b : ℤ) → le_z a b ≡ true → (plus a ≤ plus b) × (minus b ≤ minus a)
by_sides a b l = omega (order, one_side a, one_side b)

pub sum_rises : (c a b : ℤ) → le_z a b ≡ true → le_z (a +ℤ c) (b +ℤ c) ≡ true
sum_rises c a b l = omega (order, sum_sides a c, sum_sides b c)

pub times_rises : (k : ℕ) (a b : ℤ) → le_z a b ≡ true → le_z (pos k *ℤ a) (pos k *ℤ b) ≡ true
times_rises k a b l =
    let s = by_sides a b l in
    omega (order, mul-le-mul_left k s.0, mul-le-mul_left k s.1, times_sides k a, times_sides k b)

pub nearest_rises : (d : ℕ) → 0 < d → (n m : ℤ) → le_z n m ≡ true → le_z (nearest n d) (nearest m d) ≡ true
nearest_rises d h n m l =
    let s = by_sides n m l in
    omega (order, up_rises d h (plus n) (plus m) s.0, up_rises d h (minus m) (minus n) s.1, nearest_sides d h n, nearest_sides d h m)

pub held_rises : (a b : ℤ) → le_z a b ≡ true → le_z (held a) (held b) ≡ true
held_rises a b l = omega (order, by_sides a b l, held_sides a, held_sides b)

-- ---- how far the nearest whole number lies from n / d: a whole half where the sum that is divided leaves nothing over
far : (n : ℤ) (d : ℕ) → distance (nearest n d) n d ≡ (up (nat_abs n) d * d - nat_abs n) + (nat_abs n - up (nat_abs n) d * d)
unfolding nearest
far (pos n) d = abs_minus (up n d * d) n
far (negsuc n) d = turned (pos (suc n)) d (pos (up (suc n) d)) ∙ abs_minus (up (suc n) d * d) (suc n)

pub half_when : (n : ℤ) (d : ℕ) → 0 < d → (2 * distance (nearest n d) n d ≡ d) ↔ ((2 * nat_abs n + d) % (2 * d) ≡ 0)
half_when n d h =
    let s = 2 * nat_abs n + d in
    let e : up (nat_abs n) d * (2 * d) + s % (2 * d) ≡ s = div-add-mod' s (2 * d) in
    let l : s % (2 * d) < 2 * d = mod-lt s (omega arith) in
    omega (arith, far n d)

-- ---- where it is held, where it is 0, and on which side of 0 it lies else

-- what is known of the sides of n, of twice n, of the two ends, of the nearest whole number and of what is held of it
record Told (n : ℤ) (d : ℕ) : Type 0 where
  one : min (plus n) (minus n) ≡ 0
  size : nat_abs n ≡ plus n + minus n
  twofold : (plus (pos 2 *ℤ n) ≡ 2 * plus n) × (minus (pos 2 *ℤ n) ≡ 2 * minus n)
  ends : (plus (pos (65535 * d)) ≡ 65535 * d) × (minus (pos (65535 * d)) ≡ 0)
      × (plus (neg_ℤ (pos (65537 * d))) ≡ 0) × (minus (neg_ℤ (pos (65537 * d))) ≡ 65537 * d)
  zero_sides : (plus (pos 0) ≡ 0) × (minus (pos 0) ≡ 0)
  units : (plus (nearest n d) ≡ up (plus n) d) × (minus (nearest n d) ≡ up (minus n) d)
  result : (plus (held (nearest n d)) ≡ min (plus (nearest n d)) 32767) × (minus (held (nearest n d)) ≡ min (minus (nearest n d)) 32768)
  one_units : min (plus (nearest n d)) (minus (nearest n d)) ≡ 0

module _ (n : ℤ) (d : ℕ) (h : 0 < d) where
  told : Told n d
  unfolding plus minus
  told =
      record {
        one = one_side n;
        size = abs_sides n;
        twofold = times_sides 2 n;
        ends = (refl, refl, (neg_sides (65537 * d)).0, (neg_sides (65537 * d)).1);
        zero_sides = (refl, refl);
        units = nearest_sides d h n;
        result = held_sides (nearest n d);
        one_units = one_side (nearest n d);
      }

  pub top : le_z (pos (65535 * d)) (pos 2 *ℤ n) ≡ true → (held (nearest n d) ≡ pos 32767) × (nearest n d ≡ held (nearest n d) → ⊥)
  top t =
      let s = told in
      let l : 32767 < up (plus n) d = elim (passes d h 32767 (plus n)) [ inl p ↦ p.0 | inr p ↦ absurd (omega order) ] in
      (held_high (nearest n d) (omega arith), λ e. omega (arith, ap plus e))

  pub bottom : le_z (pos 2 *ℤ n) (neg_ℤ (pos (65537 * d))) ≡ true
      → (held (nearest n d) ≡ negsuc 32767) × (nearest n d ≡ held (nearest n d) → ⊥)
  bottom t =
      let s = told in
      let l : 32768 < up (minus n) d = elim (passes d h 32768 (minus n)) [ inl p ↦ p.0 | inr p ↦ absurd (omega order) ] in
      (held_low (nearest n d) (omega arith), λ e. omega (arith, ap minus e))

  pub not_held : le_z (pos (65535 * d)) (pos 2 *ℤ n) ≡ false → le_z (pos 2 *ℤ n) (neg_ℤ (pos (65537 * d))) ≡ false
      → held (nearest n d) ≡ nearest n d
  not_held t u =
      let s = told in
      let l : up (plus n) d ≤ 32767 = elim (passes d h 32767 (plus n)) [ inl p ↦ absurd (omega order) | inr p ↦ p.0 ] in
      let m : up (minus n) d ≤ 32768 = elim (passes d h 32768 (minus n)) [ inl p ↦ absurd (omega order) | inr p ↦ p.0 ] in
      held_in_lem (nearest n d) (omega arith) (omega arith)

  pub above_when : (lt_z (pos 0) (held (nearest n d)) ≡ true) ↔ ((lt_z (pos 0) n ≡ true) × (d ≤ 2 * nat_abs n))
  above_when = let s = told in elim (passes d h 0 (plus n)) [ inl p ↦ omega order | inr p ↦ omega order ]

  pub below_when : (lt_z (held (nearest n d)) (pos 0) ≡ true) ↔ ((lt_z n (pos 0) ≡ true) × (d ≤ 2 * nat_abs n))
  below_when = let s = told in elim (passes d h 0 (minus n)) [ inl p ↦ omega order | inr p ↦ omega order ]

  pub zero_when : (held (nearest n d) ≡ pos 0) ↔ (2 * nat_abs n < d)
  zero_when =
      let s = told in
      elim (passes d h 0 (plus n)) [
        | inl p ↦ (λ e. absurd (omega (arith, ap plus e)), λ l. absurd (omega arith))
        | inr p ↦ elim (passes d h 0 (minus n)) [
          | inl q ↦ (λ e. absurd (omega (arith, ap minus e)), λ l. absurd (omega arith))
          | inr q ↦ (λ e. omega arith, λ l. same_sides _ _ (omega arith))
        ]
      ]
