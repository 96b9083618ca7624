-- A number is brought into its range at the nearer end. Assumes nothing.
use mathlib.Core.Path.{◌≡◌, refl, sym, subst, ◌∙◌}
use mathlib.Core.Bool.{Bool, true, false, ◌&&◌}
use Prim.Native.Nat.{ℕ, ◌≤◌, ◌<◌}
use native.Mathlib.Omega.{arith}
use borrow.Author.Tests.{le-leb, leb-true}
use lib.Dec.{T}
use lib.IntN.{ℤ, pos, negsuc, nat_abs}
use lib.Signed.{lt_z, le_z, mag, non_neg}
use mir.Syntax.{w8, w16, w32}
use mir.Val.{Fits, SFits}
use mir.ValLaws.{to_z-of_z}
use Rattle.std.specs.Int.{int_min, int_max}
use Rattle.laws.proofs.Signed.{order, read, no_lt, yes_le}
use Rattle.value.specs.declared.ValueType.{ValueType}
use Rattle.value.specs.declared.ValueType.TheVariants.{Int8, Uint8, Int16, Uint16, Uint32}
use Rattle.settings.specs.declared.Parameter.{Parameter}
use Rattle.settings.specs.Table.{any, lowest, highest, parameter_of, range_of, low_of, high_of, inside_of, at_least, at_most, clamp_of}
use Rattle.settings.proofs.Rows.{and_true, any_ends, ends_ordered, held}

-- ---- the three ways
module _ (low high z : ℤ) where
  pub nearer_low : le_z low high ≡ true → lt_z z low ≡ true → at_most high (at_least low z) ≡ low
  unfolding at_most at_least
  nearer_low o h = rw (h, no_lt high low (omega order))

  pub nearer_high : le_z low high ≡ true → lt_z high z ≡ true → at_most high (at_least low z) ≡ high
  unfolding at_most at_least
  nearer_high o h = rw (no_lt z low (omega order), h)

  pub kept : le_z low z ≡ true → le_z z high ≡ true → at_most high (at_least low z) ≡ z
  unfolding at_most at_least
  kept h h' = rw (no_lt z low (omega order), no_lt high z (omega order))

-- the ends may be asked in either order
pub either_order : (low high z : ℤ) → le_z low high ≡ true → at_least low (at_most high z) ≡ at_most high (at_least low z)
unfolding at_most at_least
either_order low high z o = go (lt_z high z) refl (lt_z z low) refl
  where
    go : (x : Bool) → lt_z high z ≡ x → (y : Bool) → lt_z z low ≡ y → at_least low (at_most high z) ≡ at_most high (at_least low z)
    go true e y f = rw (nearer_high low high z o e, e, no_lt high low (omega order))
    go false e true f = rw (nearer_low low high z o f, e, f)
    go false e false f = rw (e, f, e)

-- ---- the nearer end, as the machine has the numbers; with the first a body that answers the low end by itself is proved
-- too, so that a wrong one is refused for its end and not for its form
module _ (id : ℕ) (low x : ℤ) where
  pub at_low_end : SFits w32 low → SFits w32 x → low ≡ low_of id → lt_z (read w32 x) (read w32 low) ≡ true → read w32 low ≡ clamp_of id x
  unfolding clamp_of
  at_low_end f g l h =
      let x' = to_z-of_z w32 x g in
      let l' = to_z-of_z w32 low f ∙ l in
      l' ∙ sym (nearer_low (low_of id) (high_of id) x (ends_ordered id) (rw (l', x') at h))

  pub at_nearer_end : (high : ℤ) → SFits w32 low → SFits w32 high → SFits w32 x → low ≡ low_of id → high ≡ high_of id
      → int_max (read w32 low) (int_min (read w32 x) (read w32 high)) ≡ clamp_of id x
  unfolding clamp_of at_least at_most
  at_nearer_end high f g k l h =
      let x' = to_z-of_z w32 x k in
      let l' = to_z-of_z w32 low f ∙ l in
      let h' = to_z-of_z w32 high g ∙ h in
      let q : at_least (read w32 low) (at_most (read w32 high) (read w32 x)) ≡ at_least (low_of id) (at_most (high_of id) x) = rw (l', h', x') in
      q ∙ either_order (low_of id) (high_of id) x (ends_ordered id)

-- ---- a number of a type
pub record Fit (t : ValueType) (z : ℤ) : Type 0 where
  pub low : le_z (lowest t) z ≡ true
  pub high : le_z z (highest t) ≡ true

low_of_lem : (n : ℕ) (z : ℤ) → mag z ≤ n → le_z (negsuc n) z ≡ true
low_of_lem n (pos a) h = refl
low_of_lem n (negsuc a) h = le-leb a n h

high_of_lem : (n : ℕ) (z : ℤ) → mag z ≤ n → le_z z (pos n) ≡ true
high_of_lem n (pos a) h = le-leb a n h
high_of_lem n (negsuc a) h = refl

-- a signed number of the code fits its type, and so does an unsigned one
pub int8_fits : (z : ℤ) → SFits w8 z → Fit Int8 z
int8_fits z f = record { low = low_of_lem 0x7F z (omega (arith, f.sfits)); high = high_of_lem 0x7F z (omega (arith, f.sfits)) }

pub uint8_fits : (x : ℕ) → x < 0x100 → Fit Uint8 (pos x)
uint8_fits x h = record { low = le-leb 0 x (omega arith); high = le-leb x 0xFF (omega arith) }

pub uint32_fits : (x : ℕ) → x < 0x100000000 → Fit Uint32 (pos x)
uint32_fits x h = record { low = le-leb 0 x (omega arith); high = le-leb x 0xFFFFFFFF (omega arith) }

-- and a number that fits its type is one that the code's type holds
pub int16_holds : (z : ℤ) → Fit Int16 z → SFits w16 z
int16_holds (pos n) f = let h = leb-true n 0x7FFF f.high in record { sfits = omega arith }
int16_holds (negsuc n) f = let h = leb-true n 0x7FFF f.low in record { sfits = omega arith }

pub uint16_holds : (z : ℤ) → Fit Uint16 z → T (non_neg z) × Fits w16 (nat_abs z)
uint16_holds (pos n) f = let h = leb-true n 0xFFFF f.high in (tt, record { fits = omega arith })
uint16_holds (negsuc n) f = absurd (subst T (sym f.low) tt)

-- where the rows give no range, a number of the type is kept
pub any_kept : (id : ℕ) (t : ValueType) (z : ℤ) → parameter_of id ≡ Parameter.ReadWrite t → range_of id ≡ any → Fit t z → clamp_of id z ≡ z
unfolding clamp_of
any_kept id t z e f g = let q = any_ends id t e f in rw (q.0, q.1) (kept (lowest t) (highest t) z g.low g.high)

pub any_in : (id : ℕ) (t : ValueType) (z : ℤ) → parameter_of id ≡ Parameter.ReadWrite t → range_of id ≡ any → Fit t z → inside_of id z ≡ true
unfolding inside_of
any_in id t z e f g = let q = any_ends id t e f in rw (q.0, q.1, g.low) g.high

-- ---- a number in the range of an id
pub in_kept : (id : ℕ) (z : ℤ) → inside_of id z ≡ true → clamp_of id z ≡ z
unfolding inside_of clamp_of
in_kept id z h = let u = and_true (le_z (low_of id) z) (le_z z (high_of id)) h in kept (low_of id) (high_of id) z u.0 u.1

pub clamp_in : (id : ℕ) (z : ℤ) → inside_of id (clamp_of id z) ≡ true
unfolding inside_of clamp_of
clamp_in id z = go (low_of id) (high_of id) (ends_ordered id) (lt_z z (low_of id)) refl (lt_z (high_of id) z) refl
  where
    go : (low high : ℤ) → le_z low high ≡ true → (x : Bool) → lt_z z low ≡ x → (y : Bool) → lt_z high z ≡ y → le_z low (at_most high (at_least low z)) && le_z (at_most high (at_least low z)) high ≡ true
    go low high o true e y f = rw (nearer_low low high z o e, yes_le low low (omega arith)) o
    go low high o false e true f = rw (nearer_high low high z o f, o) (yes_le high high (omega arith))
    go low high o false e false f =
        let l = yes_le low z (omega order) in
        let g = yes_le z high (omega order) in
        rw (kept low high z l g, l) g

pub in_fits : (id : ℕ) (t : ValueType) (z : ℤ) → parameter_of id ≡ Parameter.ReadWrite t → inside_of id z ≡ true → Fit t z
unfolding inside_of
in_fits id t z e h =
    let k = held id t e in
    let a = k.low_fits in
    let b = k.high_fits in
    let u = and_true (le_z (low_of id) z) (le_z z (high_of id)) h in
    record { low = yes_le (lowest t) z (omega (order, u.0)); high = yes_le z (highest t) (omega (order, u.1)) }
