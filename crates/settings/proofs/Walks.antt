-- A walk over the ids of a type, and over all ids. Assumes nothing.
use mathlib.Core.Path.{◌≡◌, refl, sym, subst}
use mathlib.Core.Bool.{Bool, true, false, ◌&&◌}
use mathlib.Core.List.{List, [], ◌∷◌, ◌++◌}
use mathlib.Core.Logic.{⊎_elim}
use Prim.Native.Nat.{ℕ, zero, suc, ◌+◌, ◌-◌, ◌≤◌, ◌<◌}
use native.Mathlib.Omega.{arith}
use lib.ListN.{length, get_or, get_or-map}
use lib.IntN.{pos}
use mir.Syntax.{w8, w32}
use mir.Val.{Fits, SFits}
use Rattle.laws.proofs.Lists.{lt_or_le}
use Rattle.value.specs.Types.{code_of}
use Rattle.value.specs.declared.ValueType.{ValueType}
use Rattle.value.specs.declared.ValueType.TheVariants.{Int8, Uint8, Int16, Uint16, Uint32}
use Rattle.settings.specs.declared.Parameter.{Parameter}
use Rattle.settings.specs.declared.Settings.{Settings}
use Rattle.settings.specs.Table.{any, parameter_of, range_of, inside_of, column, from, ids, ids_of, read_write_rows}
use Rattle.settings.specs.Values.{numbers, setting_of, all_inside, in_range_of}
use Rattle.settings.proofs.Rows.{count_of, and_true, int8s, uint8s, uint32s, int8_any, uint8_any, uint32_any}
use Rattle.settings.proofs.Places.{at, number_at}
use Rattle.settings.proofs.Ranges.{Fit, any_in, int8_fits, uint8_fits, uint32_fits}

and_right : (b : Bool) → b && true ≡ b
and_right true = refl
and_right false = refl

-- ---- the ids of Table 3-25 are those of five types, each from its code on
abbrev pub ids_of_type : ValueType → List ℕ
ids_of_type t = from (code_of t) (count_of t)

pub ids_by_type : ids ≡ ids_of_type Int8 ++ (ids_of_type Uint8 ++ (ids_of_type Int16 ++ (ids_of_type Uint16 ++ ids_of_type Uint32)))
unfolding ids ids_of read_write_rows from column
ids_by_type = refl

-- there are 140 of them
pub ids_count : length ids ≡ 140
unfolding ids ids_of read_write_rows from column
ids_count = refl

-- ---- one step of a walk
pub from_step : (lo n i : ℕ) → i < n → from (lo + i) (n - i) ≡ (lo + i) ∷ from (lo + (i + 1)) (n - (i + 1))
unfolding from column
from_step lo n i h =
    let e : n - i ≡ suc (n - (i + 1)) = omega arith in
    let f : suc (lo + i) ≡ lo + (i + 1) = omega arith in
    rw (e, f)

pub from_end : (lo n i : ℕ) → n ≤ i → from lo (n - i) ≡ []
unfolding from column
from_end lo n i h = let e : n - i ≡ 0 = omega arith in rw e

module _ (s : Settings) where
  pub inside_append : (xs ys : List ℕ) → all_inside s (xs ++ ys) ≡ all_inside s xs && all_inside s ys
  unfolding all_inside
  inside_append [] ys = refl
  inside_append (id ∷ xs) ys = go (inside_of id (setting_of s id)) (inside_append xs ys)
    where
      go : (b : Bool) → all_inside s (xs ++ ys) ≡ all_inside s xs && all_inside s ys → b && all_inside s (xs ++ ys) ≡ (b && all_inside s xs) && all_inside s ys
      go true e = e
      go false e = refl

  -- each of n ids in a row is inside, and then all are
  pub inside_each : (lo n : ℕ) → all_inside s (from lo n) ≡ true → (id : ℕ) → lo ≤ id → id < lo + n → inside_of id (setting_of s id) ≡ true
  unfolding all_inside from column
  inside_each lo zero h id p q = absurd (omega arith)
  inside_each lo (suc n) h id p q =
      let u = and_true (inside_of lo (setting_of s lo)) (all_inside s (from (suc lo) n)) h in
      ⊎_elim
      (λ k. let e : lo ≡ id = omega arith in subst (λ (j : ℕ). inside_of j (setting_of s j) ≡ true) e u.0)
      (λ k. inside_each (suc lo) n u.1 id k (omega arith))
      (lt_or_le id (suc lo))

  pub each_inside : (lo n : ℕ) → ((id : ℕ) → lo ≤ id → id < lo + n → inside_of id (setting_of s id) ≡ true) → all_inside s (from lo n) ≡ true
  unfolding all_inside from column
  each_inside lo zero h = refl
  each_inside lo (suc n) h = rw (h lo (omega arith) (omega arith)) (each_inside (suc lo) n (λ id p q. h id (omega arith) (omega arith)))

  -- ---- one turn of a loop over the ids of a type
  pub next_in : (lo n i : ℕ) → i < n → inside_of (lo + i) (setting_of s (lo + i)) ≡ true → all_inside s (from (lo + (i + 1)) (n - (i + 1))) ≡ all_inside s (from (lo + i) (n - i))
  unfolding all_inside
  next_in lo n i h e = rw (from_step lo n i h, e)

  pub next_out : (lo n i : ℕ) → i < n → inside_of (lo + i) (setting_of s (lo + i)) ≡ false → all_inside s (from (lo + i) (n - i)) ≡ false
  unfolding all_inside
  next_out lo n i h e = rw (from_step lo n i h, e)

  pub none_left : (lo n i : ℕ) → n ≤ i → all_inside s (from (lo + i) (n - i)) ≡ true
  unfolding all_inside
  none_left lo n i h = rw (from_end (lo + i) n i h)

  -- ---- a type that has no ranges, and whose numbers all fit it
  pub any_inside : (t : ValueType) → ((id : ℕ) → code_of t ≤ id → id < code_of t + count_of t → (parameter_of id ≡ Parameter.ReadWrite t) × (range_of id ≡ any))
      → ((i : ℕ) → Fit t (get_or (numbers s t) i (pos 0))) → all_inside s (ids_of_type t) ≡ true
  any_inside t k f = each_inside (code_of t) (count_of t) (λ id p q. any_in id t (setting_of s id) (k id p q).0 (k id p q).1 (subst (Fit t) (sym (number_at s (at id t (k id p q).0))) (f (id - code_of t))))

  -- so only two types are looked at
  pub in_range_of_two : ((i : ℕ) → SFits w8 (get_or s.i8s i (pos 0))) → ((i : ℕ) → Fits w8 (get_or s.u8s i 0)) → ((i : ℕ) → Fits w32 (get_or s.u32s i 0))
      → in_range_of s ≡ all_inside s (ids_of_type Int16) && all_inside s (ids_of_type Uint16)
  unfolding in_range_of
  in_range_of_two a b c =
      rw (
        ids_by_type,
        inside_append (ids_of_type Int8),
        inside_append (ids_of_type Uint8),
        inside_append (ids_of_type Int16),
        inside_append (ids_of_type Uint16),
        any_inside Int8 (λ id p q. (int8s id p (omega arith), int8_any id p (omega arith))) (λ i. int8_fits _ (a i)),
        any_inside Uint8 (λ id p q. (uint8s id p (omega arith), uint8_any id p (omega arith))) (λ i. subst (Fit Uint8) (sym (get_or-map pos s.u8s i 0)) (uint8_fits _ (b i).fits)),
        any_inside Uint32 (λ id p q. (uint32s id p (omega arith), uint32_any id p (omega arith))) (λ i. subst (Fit Uint32) (sym (get_or-map pos s.u32s i 0)) (uint32_fits _ (c i).fits)),
        and_right,
      )
