-- What a set stores, and that it stores nothing elsewhere. Assumes nothing.
use mathlib.Core.Path.{◌≡◌, refl, sym, ap, ◌∙◌, subst}
use mathlib.Core.Bool.{Bool, true, false, cond}
use mathlib.Core.List.{List, [], ◌∷◌, map}
use Prim.Native.Nat.{ℕ, zero, suc, ◌+◌, ◌-◌, ◌≤◌, ◌<◌}
use native.Mathlib.Omega.{arith}
use borrow.Author.Tests.{eq-eqb}
use lib.Dec.{T, eqb, eqb→eq}
use lib.IntN.{ℤ, pos, negsuc, nat_abs}
use lib.Signed.{le_z}
use lib.ListN.{length, length-map, get_or, set}
use lib.Seq.{get_or-set_same, get_or-set_other}
use Rattle.kinds.specs.declared.Kind.{Kind}
use Rattle.value.specs.Types.{code_of, type_of}
use Rattle.value.specs.declared.ValueType.{ValueType}
use Rattle.value.specs.declared.ValueType.TheVariants.{Int8, Uint8, Int16, Uint16, Int32, Uint32, Float, Int64, Uint64, Double}
use Rattle.value.specs.declared.ParamValue.{ParamValue}
use Rattle.settings.specs.declared.Parameter.{Parameter}
use Rattle.settings.specs.declared.Settings.{Settings}
use Rattle.settings.specs.Table.{same, lowest, parameter_of, inside_of, clamp_of, default_of}
use Rattle.settings.specs.Places.{place_in, place_as, place_of}
use Rattle.settings.specs.Values.{number_in, numbers, number_as, setting_of, stored, stored_n, with_number, store_as, set_of, reset_as, reset_of}
use Rattle.settings.proofs.Rows.{count_of, held}
use Rattle.settings.proofs.Places.{At, at, number_at}
use Rattle.settings.proofs.Ranges.{Fit, clamp_in}

-- ---- a type and its code
pub same_itself : (t : ValueType) → same t t ≡ true
unfolding same
same_itself t = eq-eqb (code_of t) (code_of t) refl

type_at : ℕ → ValueType
type_at n =
    cond (eqb n 0x1000) Int8 (cond (eqb n 0x2000) Uint8 (cond (eqb n 0x3000) Int16 (cond (eqb n 0x4000) Uint16 (cond (eqb n 0x5000) Int32
    (cond (eqb n 0x6000) Uint32 (cond (eqb n 0x7000) Float (cond (eqb n 0x8000) Int64 (cond (eqb n 0x9000) Uint64 Double))))))))

type_at_lem : (t : ValueType) → type_at (code_of t) ≡ t
unfolding type_at
type_at_lem Int8 = refl
type_at_lem Uint8 = refl
type_at_lem Int16 = refl
type_at_lem Uint16 = refl
type_at_lem Int32 = refl
type_at_lem Uint32 = refl
type_at_lem Float = refl
type_at_lem Int64 = refl
type_at_lem Uint64 = refl
type_at_lem Double = refl

-- no two types have one code
pub same_type : (t u : ValueType) → same t u ≡ true → t ≡ u
unfolding same
same_type t u h = sym (type_at_lem t) ∙ ap type_at (eqb→eq (code_of t) (code_of u) (subst T (sym h) tt)) ∙ type_at_lem u

-- ---- a value of the id's type is stored at its place
pub set_at : (s : Settings) (v : ParamValue) {id i : ℕ} {t : ValueType} → At id i t → type_of v ≡ t → set_of s id v ≡ with_number s t i (clamp_of id (number_in v))
unfolding set_of
set_at s v {id} {i} {t} a e =
    let p : id - code_of t ≡ i = omega (arith, a.id_is) in
    rw (a.is, e, same_itself t) (ap (λ (j : ℕ). with_number s t j (clamp_of id (number_in v))) p)

-- a value changes nothing where the id is not among the ids of its type
pub set_off : (s : Settings) (id : ℕ) (v : ParamValue) → (code_of (type_of v) ≤ id → id < code_of (type_of v) + count_of (type_of v) → ⊥) → set_of s id v ≡ s
unfolding set_of
set_off s id v n = go (parameter_of id) refl
  where
    no : (t : ValueType) → parameter_of id ≡ Parameter.ReadWrite t → (x : Bool) → same t (type_of v) ≡ x → cond x (with_number s t (id - code_of t) (clamp_of id (number_in v))) s ≡ s
    no t e true q = let h = held id (type_of v) (e ∙ ap Parameter.ReadWrite (same_type t (type_of v) q)) in absurd (n h.first h.last)
    no t e false q = refl

    go : (p : Parameter) → parameter_of id ≡ p → store_as s id p (type_of v) (clamp_of id (number_in v)) ≡ s
    go (Parameter.ReadWrite t) e = no t e (same t (type_of v)) refl
    go (Parameter.ReadOnly t) e = refl
    go Parameter.Unknown e = refl

-- nor where the id's place is none of its type
pub set_apart : (s : Settings) (id : ℕ) (v : ParamValue) → ((i : ℕ) → place_of id ≡ place_in (type_of v) i → ⊥) → set_of s id v ≡ s
unfolding set_of place_of
set_apart s id v n = go (parameter_of id) refl
  where
    no : (t : ValueType) → parameter_of id ≡ Parameter.ReadWrite t → (x : Bool) → same t (type_of v) ≡ x → cond x (with_number s t (id - code_of t) (clamp_of id (number_in v))) s ≡ s
    no t e true q = absurd (n (id - code_of t) (ap (place_as id) e ∙ ap (λ (u : ValueType). place_in u (id - code_of t)) (same_type t (type_of v) q)))
    no t e false q = refl

    go : (p : Parameter) → parameter_of id ≡ p → store_as s id p (type_of v) (clamp_of id (number_in v)) ≡ s
    go (Parameter.ReadWrite t) e = no t e (same t (type_of v)) refl
    go (Parameter.ReadOnly t) e = refl
    go Parameter.Unknown e = refl

-- and a value of a type that no parameter has is stored nowhere
pub set_elsewhere : (s : Settings) (id : ℕ) (v : ParamValue) → ((x : ℤ) → v ≡ ParamValue.Int8 x → ⊥) → ((x : ℕ) → v ≡ ParamValue.Uint8 x → ⊥)
    → ((x : ℤ) → v ≡ ParamValue.Int16 x → ⊥) → ((x : ℕ) → v ≡ ParamValue.Uint16 x → ⊥) → ((x : ℕ) → v ≡ ParamValue.Uint32 x → ⊥) → set_of s id v ≡ s
set_elsewhere s id (ParamValue.Int8 x) a b c d e = absurd (a x refl)
set_elsewhere s id (ParamValue.Uint8 x) a b c d e = absurd (b x refl)
set_elsewhere s id (ParamValue.Int16 x) a b c d e = absurd (c x refl)
set_elsewhere s id (ParamValue.Uint16 x) a b c d e = absurd (d x refl)
set_elsewhere s id (ParamValue.Int32 x) a b c d e = set_off s id (ParamValue.Int32 x) (λ p q. omega arith)
set_elsewhere s id (ParamValue.Uint32 x) a b c d e = absurd (e x refl)
set_elsewhere s id (ParamValue.Float x) a b c d e = set_off s id (ParamValue.Float x) (λ p q. omega arith)
set_elsewhere s id (ParamValue.Int64 x) a b c d e = set_off s id (ParamValue.Int64 x) (λ p q. omega arith)
set_elsewhere s id (ParamValue.Uint64 x) a b c d e = set_off s id (ParamValue.Uint64 x) (λ p q. omega arith)
set_elsewhere s id (ParamValue.Double x) a b c d e = set_off s id (ParamValue.Double x) (λ p q. omega arith)

-- ---- the numbers after one was stored
map_set : (xs : List ℕ) (i x : ℕ) → map pos (set xs i x) ≡ set (map pos xs) i (pos x)
map_set [] i x = refl
map_set (y ∷ xs) zero x = refl
map_set (y ∷ xs) (suc i) x = ap (λ (l : List ℤ). pos y ∷ l) (map_set xs i x)

pub not_below : (z : ℤ) → le_z (pos 0) z ≡ true → pos (nat_abs z) ≡ z
not_below (pos n) h = refl
not_below (negsuc n) h = absurd (subst T (sym h) tt)

unsigned : (b : Bool) (xs : List ℕ) (i : ℕ) (z : ℤ) → (b ≡ true → le_z (pos 0) z ≡ true) → map pos (stored_n b xs i z) ≡ stored b (map pos xs) i z
unsigned true xs i z h = map_set xs i (nat_abs z) ∙ ap (set (map pos xs) i) (not_below z (h refl))
unsigned false xs i z h = refl

nowhere : (b : Bool) (i : ℕ) (z : ℤ) → [] ≡ stored b [] i z
nowhere true i z = refl
nowhere false i z = refl

-- the numbers of the type have z at the place, and those of any other type are as they were
pub numbers_with : (s : Settings) (t : ValueType) (i : ℕ) (z : ℤ) → Fit t z → (u : ValueType) → numbers (with_number s t i z) u ≡ stored (same t u) (numbers s u) i z
unfolding with_number
numbers_with s t i z f Int8 = refl
numbers_with s t i z f Uint8 = unsigned (same t Uint8) s.u8s i z (λ e. subst (λ (u : ValueType). le_z (lowest u) z ≡ true) (same_type t Uint8 e) f.low)
numbers_with s t i z f Int16 = refl
numbers_with s t i z f Uint16 = unsigned (same t Uint16) s.u16s i z (λ e. subst (λ (u : ValueType). le_z (lowest u) z ≡ true) (same_type t Uint16 e) f.low)
numbers_with s t i z f Int32 = nowhere (same t Int32) i z
numbers_with s t i z f Uint32 = unsigned (same t Uint32) s.u32s i z (λ e. subst (λ (u : ValueType). le_z (lowest u) z ≡ true) (same_type t Uint32 e) f.low)
numbers_with s t i z f Float = nowhere (same t Float) i z
numbers_with s t i z f Int64 = nowhere (same t Int64) i z
numbers_with s t i z f Uint64 = nowhere (same t Uint64) i z
numbers_with s t i z f Double = nowhere (same t Double) i z

-- ---- the arrays have their lengths
pub record Sized (s : Settings) : Type 0 where
  pub u32_size : length s.u32s ≡ 6
  pub u16_size : length s.u16s ≡ 68
  pub i16_size : length s.i16s ≡ 42
  pub i8_size : length s.i8s ≡ 21
  pub u8_size : length s.u8s ≡ 3

pub sized_at : (s : Settings) → Sized s → (t : ValueType) → length (numbers s t) ≡ count_of t
sized_at s z Int8 = z.i8_size
sized_at s z Uint8 = length-map s.u8s pos ∙ z.u8_size
sized_at s z Int16 = z.i16_size
sized_at s z Uint16 = length-map s.u16s pos ∙ z.u16_size
sized_at s z Int32 = refl
sized_at s z Uint32 = length-map s.u32s pos ∙ z.u32_size
sized_at s z Float = refl
sized_at s z Int64 = refl
sized_at s z Uint64 = refl
sized_at s z Double = refl

-- ---- what a command on one id does: nothing, or it stores a number that lies in the id's range
pub data Wrote (s : Settings) (id : ℕ) : Settings → Type 0 where
  nothing : Wrote s id s
  one : (t : ValueType) (z : ℤ) → parameter_of id ≡ Parameter.ReadWrite t → inside_of id z ≡ true → Wrote s id (with_number s t (id - code_of t) z)

pub set_wrote : (s : Settings) (id : ℕ) (v : ParamValue) → Wrote s id (set_of s id v)
unfolding set_of
set_wrote s id v = go (parameter_of id) refl
  where
    z : ℤ
    z = clamp_of id (number_in v)

    at_type : (t : ValueType) → parameter_of id ≡ Parameter.ReadWrite t → (x : Bool) → Wrote s id (cond x (with_number s t (id - code_of t) z) s)
    at_type t e true = one t z e (clamp_in id (number_in v))
    at_type t e false = nothing

    go : (p : Parameter) → parameter_of id ≡ p → Wrote s id (store_as s id p (type_of v) z)
    go (Parameter.ReadWrite t) e = at_type t e (same t (type_of v))
    go (Parameter.ReadOnly t) e = nothing
    go Parameter.Unknown e = nothing

pub reset_wrote : (kind : Kind) (s : Settings) (id : ℕ) → Wrote s id (reset_of kind s id)
unfolding reset_of default_of
reset_wrote kind s id = go (parameter_of id) refl
  where
    go : (p : Parameter) → parameter_of id ≡ p → Wrote s id (reset_as kind s id p)
    go (Parameter.ReadWrite t) e = one t (default_of kind id) e (clamp_in id _)
    go (Parameter.ReadOnly t) e = nothing
    go Parameter.Unknown e = nothing

-- ---- its own number, and every other
pub number_same : (s : Settings) (id : ℕ) (t : ValueType) (z : ℤ) → Sized s → parameter_of id ≡ Parameter.ReadWrite t → Fit t z → setting_of (with_number s t (id - code_of t) z) id ≡ z
number_same s id t z k e f =
    let a = at id t e in
    let l = sized_at s k t in
    number_at (with_number s t (id - code_of t) z) a ∙ ap (λ (l : List ℤ). get_or l (id - code_of t) (pos 0)) (numbers_with s t (id - code_of t) z f t)
    ∙ rw (same_itself t) (get_or-set_same (numbers s t) (id - code_of t) z (pos 0) (omega (arith, a.below)))

pub number_other : (s : Settings) (id other : ℕ) (t : ValueType) (z : ℤ) → (other ≡ id → ⊥) → parameter_of id ≡ Parameter.ReadWrite t → Fit t z
    → setting_of (with_number s t (id - code_of t) z) other ≡ setting_of s other
unfolding setting_of
number_other s id other t z n e f = go (parameter_of other) refl
  where
    i : ℕ
    i = id - code_of t

    by_type : (u : ValueType) → parameter_of other ≡ Parameter.ReadWrite u → (x : Bool) → same t u ≡ x → get_or (stored x (numbers s u) i z) (other - code_of u) (pos 0) ≡ get_or (numbers s u) (other - code_of u) (pos 0)
    by_type u q false w = refl
    by_type u q true w =
        let c = ap code_of (same_type t u w) in
        let a = held id t e in
        let b = held other u q in
        get_or-set_other (numbers s u) i (other - code_of u) z (pos 0) (λ h. n (omega arith))

    go : (p : Parameter) → parameter_of other ≡ p → number_as (with_number s t i z) other p ≡ number_as s other p
    go (Parameter.ReadWrite u) q = ap (λ (l : List ℤ). get_or l (other - code_of u) (pos 0)) (numbers_with s t i z f u) ∙ by_type u q (same t u) refl
    go (Parameter.ReadOnly u) q = refl
    go Parameter.Unknown q = refl
