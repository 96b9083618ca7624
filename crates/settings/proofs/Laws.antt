-- What holds of get, set, reset and the defaults, over every id and value. Assumes nothing.
use mathlib.Core.Path.{◌≡◌, refl, sym, ap, ◌∙◌, subst}
use mathlib.Core.Bool.{Bool, true, false}
use mathlib.Core.List.{List, map}
use Prim.Native.Nat.{ℕ, ◌+◌, ◌-◌, ◌≤◌, ◌<◌}
use native.Mathlib.Omega.{arith}
use native.Mathlib.Decide.{ℕ_discrete}
use lib.IntN.{ℤ, pos}
use lib.ListN.{length, length-set}
use Rattle.kinds.specs.declared.Kind.{Kind}
use Rattle.kinds.specs.declared.Kind.TheVariants.{Distribution, Battery, Integrated}
use Rattle.value.specs.Types.{code_of, type_of}
use Rattle.value.specs.declared.ValueType.{ValueType}
use Rattle.value.specs.declared.ValueType.TheVariants.{Int8, Uint8, Int16, Uint16, Int32, Uint32, Float, Int64, Uint64, Double}
use Rattle.value.specs.declared.ParamValue.{ParamValue}
use Rattle.settings.specs.declared.Parameter.{Parameter}
use Rattle.settings.specs.declared.Got.{Got}
use Rattle.settings.specs.declared.Settings.{Settings}
use Rattle.settings.specs.Table.{same, read_write_rows, read_only_rows, find, lies, row_of, column, from, ids_of, ids, parameter_of, low_of, high_of, inside_of, at_least, at_most, clamp_of, given_in, default_of}
use Rattle.settings.specs.Values.{number_in, got_value, setting_of, stored, stored_n, with_number, got_as, get_of, set_of, reset_of, defaults_of, all_inside, in_range_of}
use Rattle.settings.proofs.Rows.{count_of, and_true, held, int8s, uint8s, int16s, uint16s, uint32s}
use Rattle.settings.proofs.Places.{at, none, gets}
use Rattle.settings.proofs.Ranges.{Fit, in_kept, clamp_in, in_fits}
use Rattle.settings.proofs.Stores.{Sized, Wrote, nothing, one, set_wrote, reset_wrote, set_at, number_same, number_other}
use Rattle.settings.proofs.Walks.{ids_by_type, ids_of_type, inside_append, inside_each, each_inside}
use Rattle.settings.proofs.Resets.{default_inside, default_fits, default_number, default_get}

-- ---- what is set is read back, at the nearer end of its range
module _ (s : Settings) (id : ℕ) (v : ParamValue) (z : Sized s) (e : parameter_of id ≡ Parameter.ReadWrite (type_of v)) where
  pub set_get : get_of (set_of s id v) id ≡ got_value (type_of v) (clamp_of id (number_in v))
  set_get =
      let f = in_fits id (type_of v) (clamp_of id (number_in v)) e (clamp_in id (number_in v)) in
      ap (λ (x : Settings). get_of x id) (set_at s v (at id (type_of v) e) refl) ∙ gets _ id (type_of v) e
      ∙ ap (got_value (type_of v)) (number_same s id (type_of v) (clamp_of id (number_in v)) z e f)

  -- and unchanged where it lies in its range
  pub set_get_inside : inside_of id (number_in v) ≡ true → get_of (set_of s id v) id ≡ Got.Value v
  set_get_inside h = set_get ∙ ap (got_value (type_of v)) (in_kept id (number_in v) h) ∙ value_of v e
    where
      value_of : (v : ParamValue) → parameter_of id ≡ Parameter.ReadWrite (type_of v) → got_value (type_of v) (number_in v) ≡ Got.Value v
      value_of (ParamValue.Int8 x) e = refl
      value_of (ParamValue.Uint8 x) e = refl
      value_of (ParamValue.Int16 x) e = refl
      value_of (ParamValue.Uint16 x) e = refl
      value_of (ParamValue.Int32 x) e = none id Int32 refl e
      value_of (ParamValue.Uint32 x) e = refl
      value_of (ParamValue.Float x) e = none id Float refl e
      value_of (ParamValue.Int64 x) e = none id Int64 refl e
      value_of (ParamValue.Uint64 x) e = none id Uint64 refl e
      value_of (ParamValue.Double x) e = none id Double refl e

-- ---- a reset parameter reads its default
pub reset_get : (kind : Kind) (s : Settings) (id : ℕ) (t : ValueType) → Sized s → parameter_of id ≡ Parameter.ReadWrite t → get_of (reset_of kind s id) id ≡ got_value t (default_of kind id)
unfolding reset_of
reset_get kind s id t z e = rw e (gets _ id t e ∙ ap (got_value t) (number_same s id t (default_of kind id) z e (default_fits kind id t e)))

pub reset_get_default : (kind : Kind) (s : Settings) (id : ℕ) (t : ValueType) → Sized s → parameter_of id ≡ Parameter.ReadWrite t → get_of (reset_of kind s id) id ≡ get_of (defaults_of kind) id
reset_get_default kind s id t z e = reset_get kind s id t z e ∙ sym (default_get kind id t e)

-- ---- every other id reads as before
wrote_other : (s : Settings) (id other : ℕ) (r : Settings) → Wrote s id r → (other ≡ id → ⊥) → setting_of r other ≡ setting_of s other
wrote_other s id other r nothing n = refl
wrote_other s id other r (one t z e h) n = number_other s id other t z n e (in_fits id t z e h)

got_other : (s r : Settings) (id other : ℕ) → Wrote s id r → (other ≡ id → ⊥) → get_of r other ≡ get_of s other
unfolding get_of
got_other s r id other w n = ap (got_as (parameter_of other)) (wrote_other s id other r w n)

pub set_other : (s : Settings) (id other : ℕ) (v : ParamValue) → (other ≡ id → ⊥) → get_of (set_of s id v) other ≡ get_of s other
set_other s id other v n = got_other s (set_of s id v) id other (set_wrote s id v) n

pub reset_other : (kind : Kind) (s : Settings) (id other : ℕ) → (other ≡ id → ⊥) → get_of (reset_of kind s id) other ≡ get_of s other
reset_other kind s id other n = got_other s (reset_of kind s id) id other (reset_wrote kind s id) n

-- ---- an id that is read-only or unknown, and a value of another type, change nothing
module _ (s : Settings) (id : ℕ) where
  pub set_read_only : (v : ParamValue) (t : ValueType) → parameter_of id ≡ Parameter.ReadOnly t → set_of s id v ≡ s
  unfolding set_of
  set_read_only v t e = rw e

  pub set_unknown : (v : ParamValue) → parameter_of id ≡ Parameter.Unknown → set_of s id v ≡ s
  unfolding set_of
  set_unknown v e = rw e

  pub set_other_type : (v : ParamValue) (t : ValueType) → parameter_of id ≡ Parameter.ReadWrite t → same t (type_of v) ≡ false → set_of s id v ≡ s
  unfolding set_of
  set_other_type v t e n = rw (e, n)

  pub reset_read_only : (kind : Kind) (t : ValueType) → parameter_of id ≡ Parameter.ReadOnly t → reset_of kind s id ≡ s
  unfolding reset_of
  reset_read_only kind t e = rw e

  pub reset_unknown : (kind : Kind) → parameter_of id ≡ Parameter.Unknown → reset_of kind s id ≡ s
  unfolding reset_of
  reset_unknown kind e = rw e

-- ---- the arrays keep their lengths
kept_length : (b : Bool) (xs : List ℤ) (i : ℕ) (z : ℤ) → length (stored b xs i z) ≡ length xs
kept_length true xs i z = length-set xs i z
kept_length false xs i z = refl

kept_length_n : (b : Bool) (xs : List ℕ) (i : ℕ) (z : ℤ) → length (stored_n b xs i z) ≡ length xs
kept_length_n true xs i z = length-set xs i _
kept_length_n false xs i z = refl

wrote_sized : (s : Settings) (id : ℕ) (r : Settings) → Wrote s id r → Sized s → Sized r
unfolding with_number
wrote_sized s id r nothing k = k
wrote_sized s id r (one t z e h) k = record {
  u32_size = kept_length_n (same t Uint32) s.u32s (id - code_of t) z ∙ k.u32_size;
  u16_size = kept_length_n (same t Uint16) s.u16s (id - code_of t) z ∙ k.u16_size;
  i16_size = kept_length (same t Int16) s.i16s (id - code_of t) z ∙ k.i16_size;
  i8_size = kept_length (same t Int8) s.i8s (id - code_of t) z ∙ k.i8_size;
  u8_size = kept_length_n (same t Uint8) s.u8s (id - code_of t) z ∙ k.u8_size;
}

pub set_sized : (s : Settings) (id : ℕ) (v : ParamValue) → Sized s → Sized (set_of s id v)
set_sized s id v k = wrote_sized s id (set_of s id v) (set_wrote s id v) k

pub reset_sized : (kind : Kind) (s : Settings) (id : ℕ) → Sized s → Sized (reset_of kind s id)
reset_sized kind s id k = wrote_sized s id (reset_of kind s id) (reset_wrote kind s id) k

pub defaults_sized : (kind : Kind) → Sized (defaults_of kind)
unfolding defaults_of column
defaults_sized kind = record { u32_size = refl; u16_size = refl; i16_size = refl; i8_size = refl; u8_size = refl }

-- ---- in range: each read/write parameter is
pub in_range_each : (s : Settings) → in_range_of s ≡ true → (id : ℕ) (t : ValueType) → parameter_of id ≡ Parameter.ReadWrite t → inside_of id (setting_of s id) ≡ true
unfolding in_range_of
in_range_each s h id t e =
    let u = rw (ids_by_type, inside_append s (ids_of_type Int8), inside_append s (ids_of_type Uint8), inside_append s (ids_of_type Int16), inside_append s (ids_of_type Uint16)) at h in
    let a = and_true (all_inside s (ids_of_type Int8)) _ u in
    let b = and_true (all_inside s (ids_of_type Uint8)) _ a.1 in
    let c = and_true (all_inside s (ids_of_type Int16)) _ b.1 in
    let d = and_true (all_inside s (ids_of_type Uint16)) (all_inside s (ids_of_type Uint32)) c.1 in
    go t a.0 b.0 c.0 d.0 d.1 (held id t e).first (held id t e).last e
  where
    go : (t : ValueType) → all_inside s (ids_of_type Int8) ≡ true → all_inside s (ids_of_type Uint8) ≡ true → all_inside s (ids_of_type Int16) ≡ true
        → all_inside s (ids_of_type Uint16) ≡ true → all_inside s (ids_of_type Uint32) ≡ true → code_of t ≤ id → id < code_of t + count_of t
        → parameter_of id ≡ Parameter.ReadWrite t → inside_of id (setting_of s id) ≡ true
    go Int8 a b c d f p q e = inside_each s 0x1000 21 a id p q
    go Uint8 a b c d f p q e = inside_each s 0x2000 3 b id p q
    go Int16 a b c d f p q e = inside_each s 0x3000 42 c id p q
    go Uint16 a b c d f p q e = inside_each s 0x4000 68 d id p q
    go Int32 a b c d f p q e = none id Int32 refl e
    go Uint32 a b c d f p q e = inside_each s 0x6000 6 f id p q
    go Float a b c d f p q e = none id Float refl e
    go Int64 a b c d f p q e = none id Int64 refl e
    go Uint64 a b c d f p q e = none id Uint64 refl e
    go Double a b c d f p q e = none id Double refl e

pub each_in_range : (s : Settings) → ((id : ℕ) (t : ValueType) → parameter_of id ≡ Parameter.ReadWrite t → inside_of id (setting_of s id) ≡ true) → in_range_of s ≡ true
unfolding in_range_of
each_in_range s h =
    rw (
      ids_by_type,
      inside_append s (ids_of_type Int8),
      inside_append s (ids_of_type Uint8),
      inside_append s (ids_of_type Int16),
      inside_append s (ids_of_type Uint16),
      each_inside s 0x1000 21 (λ id p q. h id Int8 (int8s id p (omega arith))),
      each_inside s 0x2000 3 (λ id p q. h id Uint8 (uint8s id p (omega arith))),
      each_inside s 0x3000 42 (λ id p q. h id Int16 (int16s id p (omega arith))),
      each_inside s 0x4000 68 (λ id p q. h id Uint16 (uint16s id p (omega arith))),
    )
    (each_inside s 0x6000 6 (λ id p q. h id Uint32 (uint32s id p (omega arith))))

-- what holds of each parameter's number, and of any number in an id's range, holds of each after one was stored
wrote_each : (P : ℕ → ℤ → Type 0) (s : Settings) (id : ℕ) (r : Settings) → Sized s → Wrote s id r → ((t : ValueType) (z : ℤ) → parameter_of id ≡ Parameter.ReadWrite t → inside_of id z ≡ true → P id z)
    → (j : ℕ) → P j (setting_of s j) → P j (setting_of r j)
wrote_each P s id r k nothing f j h = h
wrote_each P s id r k (one t z e i) f j h = elim (ℕ_discrete j id) [
  | yes q ↦ subst (λ (a : ℕ). P a (setting_of r a)) (sym q) (subst (P id) (sym (number_same s id t z k e (in_fits id t z e i))) (f t z e i))
  | no n ↦ subst (P j) (sym (number_other s id j t z n e (in_fits id t z e i))) h
]

wrote_in_range : (s r : Settings) (id : ℕ) → Sized s → Wrote s id r → in_range_of s ≡ true → in_range_of r ≡ true
wrote_in_range s r id k w h =
    each_in_range r (λ j t e. wrote_each (λ j z. inside_of j z ≡ true) s id r k w (λ t z e i. i) j (in_range_each s h j t e))

pub set_in_range : (s : Settings) (id : ℕ) (v : ParamValue) → Sized s → in_range_of s ≡ true → in_range_of (set_of s id v) ≡ true
set_in_range s id v k h = wrote_in_range s (set_of s id v) id k (set_wrote s id v) h

pub reset_in_range : (kind : Kind) (s : Settings) (id : ℕ) → Sized s → in_range_of s ≡ true → in_range_of (reset_of kind s id) ≡ true
reset_in_range kind s id k h = wrote_in_range s (reset_of kind s id) id k (reset_wrote kind s id) h

pub defaults_in_range : (kind : Kind) → in_range_of (defaults_of kind) ≡ true
defaults_in_range kind = each_in_range (defaults_of kind) (λ id t e. subst (λ (z : ℤ). inside_of id z ≡ true) (sym (default_number kind id t e)) (default_inside kind id))

-- ---- each number fits its type, in range or not
abbrev pub Fitting : Settings → Type 0
Fitting s = (id : ℕ) (t : ValueType) → parameter_of id ≡ Parameter.ReadWrite t → Fit t (setting_of s id)

pub in_range_fitting : (s : Settings) → in_range_of s ≡ true → Fitting s
in_range_fitting s h id t e = in_fits id t (setting_of s id) e (in_range_each s h id t e)

wrote_fitting : (s r : Settings) (id : ℕ) → Sized s → Wrote s id r → Fitting s → Fitting r
wrote_fitting s r id k w f j t e =
    wrote_each (λ a z. (u : ValueType) → parameter_of a ≡ Parameter.ReadWrite u → Fit u z) s id r k w (λ t z e i u q. in_fits id u z q i) j (f j) t e

pub set_fitting : (s : Settings) (id : ℕ) (v : ParamValue) → Sized s → Fitting s → Fitting (set_of s id v)
set_fitting s id v k f = wrote_fitting s (set_of s id v) id k (set_wrote s id v) f

pub reset_fitting : (kind : Kind) (s : Settings) (id : ℕ) → Sized s → Fitting s → Fitting (reset_of kind s id)
reset_fitting kind s id k f = wrote_fitting s (reset_of kind s id) id k (reset_wrote kind s id) f

pub defaults_fitting : (kind : Kind) → Fitting (defaults_of kind)
defaults_fitting kind = in_range_fitting (defaults_of kind) (defaults_in_range kind)

-- ---- every default that the page gives lies in its range
pub defaults_given : (kind : Kind) → map (default_of kind) ids ≡ map (λ id. pos (given_in (row_of id) kind)) ids
unfolding default_of clamp_of at_least at_most low_of high_of row_of find lies read_write_rows read_only_rows ids ids_of from column
defaults_given Distribution = refl
defaults_given (Battery abf) = refl
defaults_given (Integrated daughterboard) = refl
