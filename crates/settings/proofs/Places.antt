-- What is known of an id by the place of its value. Assumes nothing.
use mathlib.Core.Path.{◌≡◌, refl, ap, ◌∙◌, subst}
use mathlib.Core.Bool.{Bool, true, ◌&&◌, ◌||◌}
use mathlib.Core.List.{List, map}
use Prim.Native.Nat.{ℕ, ◌+◌, ◌-◌, ◌≤◌, ◌<◌}
use native.Mathlib.Omega.{arith}
use lib.Dec.{ltb}
use borrow.Author.Tests.{ltb-true}
use Rattle.laws.proofs.Cases.{cases}
use lib.ListN.{get_or, get_or-map}
use lib.IntN.{pos, nat_abs}
use Rattle.value.specs.Types.{code_of}
use Rattle.value.specs.declared.ValueType.{ValueType}
use Rattle.value.specs.declared.ValueType.TheVariants.{Int8, Uint8, Int16, Uint16, Int32, Uint32, Float, Int64, Uint64, Double}
use Rattle.value.specs.declared.ParamValue.{ParamValue}
use Rattle.settings.specs.declared.Parameter.{Parameter}
use Rattle.settings.specs.declared.Place.{Place}
use Rattle.settings.specs.Table.{parameter_of}
use Rattle.settings.specs.Places.{place_as, place_of}
use Rattle.settings.specs.declared.Got.{Got}
use Rattle.settings.specs.declared.Settings.{Settings}
use Rattle.settings.specs.Values.{numbers, setting_of, got_value, get_of}
use Rattle.settings.proofs.Rows.{and_true, count_of, held, shown, int8s, uint8s, int16s, uint16s, uint32s}

-- the id is a parameter of the type, and the place is within the type's array
pub record At (id i : ℕ) (t : ValueType) : Type 0 where
  pub is : parameter_of id ≡ Parameter.ReadWrite t
  pub id_is : code_of t + i ≡ id
  pub below : i < count_of t

abbrev pub Stands : ℕ → Place → Type 0
Stands id (Place.Int8 i) = At id i Int8
Stands id (Place.Uint8 i) = At id i Uint8
Stands id (Place.Int16 i) = At id i Int16
Stands id (Place.Uint16 i) = At id i Uint16
Stands id (Place.Uint32 i) = At id i Uint32
Stands id (Place.ReadOnly t) = parameter_of id ≡ Parameter.ReadOnly t
Stands id Place.Unknown = parameter_of id ≡ Parameter.Unknown

pub at : (id : ℕ) (t : ValueType) → parameter_of id ≡ Parameter.ReadWrite t → At id (id - code_of t) t
at id t e = let h = held id t e in record { is = e; id_is = omega arith; below = omega arith }

-- no parameter has one of the other types
pub none : {A : Type 0} (id : ℕ) (t : ValueType) → count_of t ≡ 0 → parameter_of id ≡ Parameter.ReadWrite t → A
none id t z e = let h = held id t e in absurd (omega arith)

pub stands : (id : ℕ) → Stands id (place_of id)
unfolding place_of
stands id = go (parameter_of id) refl
  where
    go : (p : Parameter) → parameter_of id ≡ p → Stands id (place_as id p)
    go (Parameter.ReadWrite Int8) e = at id Int8 e
    go (Parameter.ReadWrite Uint8) e = at id Uint8 e
    go (Parameter.ReadWrite Int16) e = at id Int16 e
    go (Parameter.ReadWrite Uint16) e = at id Uint16 e
    go (Parameter.ReadWrite Int32) e = none id Int32 refl e
    go (Parameter.ReadWrite Uint32) e = at id Uint32 e
    go (Parameter.ReadWrite Float) e = none id Float refl e
    go (Parameter.ReadWrite Int64) e = none id Int64 refl e
    go (Parameter.ReadWrite Uint64) e = none id Uint64 refl e
    go (Parameter.ReadWrite Double) e = none id Double refl e
    go (Parameter.ReadOnly t) e = e
    go Parameter.Unknown e = e

pub stands_at : (id : ℕ) {p : Place} → place_of id ≡ p → Stands id p
stands_at id e = subst (Stands id) e (stands id)

-- ---- an id outside all ten blocks has no place
abbrev pub Out : ℕ → ℕ → ℕ → Type 0
Out first last id = first ≤ id → id ≤ last → ⊥

pub nowhere : (id : ℕ) → Out 0x1000 0x1014 id → Out 0x2000 0x2002 id → Out 0x3000 0x3029 id → Out 0x4000 0x4043 id → Out 0x6000 0x6005 id
    → Out 0x1800 0x1800 id → Out 0x2800 0x2803 id → Out 0x3800 0x3801 id → Out 0x4800 0x4813 id → Out 0x6800 0x6814 id → Place.Unknown ≡ place_of id
nowhere id a b c d e f g h i j = go (place_of id) (stands id)
  where
    go : (p : Place) → Stands id p → Place.Unknown ≡ p
    go (Place.Int8 k) w = absurd (a (omega arith) (omega arith))
    go (Place.Uint8 k) w = absurd (b (omega arith) (omega arith))
    go (Place.Int16 k) w = absurd (c (omega arith) (omega arith))
    go (Place.Uint16 k) w = absurd (d (omega arith) (omega arith))
    go (Place.Uint32 k) w = absurd (e (omega arith) (omega arith))
    go (Place.ReadOnly Int8) w = let k = shown id Int8 w in absurd (f (omega arith) (omega arith))
    go (Place.ReadOnly Uint8) w = let k = shown id Uint8 w in absurd (g (omega arith) (omega arith))
    go (Place.ReadOnly Int16) w = let k = shown id Int16 w in absurd (h (omega arith) (omega arith))
    go (Place.ReadOnly Uint16) w = let k = shown id Uint16 w in absurd (i (omega arith) (omega arith))
    go (Place.ReadOnly Uint32) w = let k = shown id Uint32 w in absurd (j (omega arith) (omega arith))
    go (Place.ReadOnly Int32) w = let k = shown id Int32 w in absurd (omega arith)
    go (Place.ReadOnly Float) w = let k = shown id Float w in absurd (omega arith)
    go (Place.ReadOnly Int64) w = let k = shown id Int64 w in absurd (omega arith)
    go (Place.ReadOnly Uint64) w = let k = shown id Uint64 w in absurd (omega arith)
    go (Place.ReadOnly Double) w = let k = shown id Double w in absurd (omega arith)
    go Place.Unknown w = refl

-- so every id from lo to hi is unknown, where the blocks lie apart from these
abbrev apart : ℕ → ℕ → ℕ → ℕ → Bool
apart lo hi first last = ltb last lo || ltb hi first

abbrev pub gap : ℕ → ℕ → Bool
gap lo hi =
    apart lo hi 0x1000 0x1014 && (apart lo hi 0x2000 0x2002 && (apart lo hi 0x3000 0x3029 && (apart lo hi 0x4000 0x4043 && (apart lo hi 0x6000 0x6005
    && (apart lo hi 0x1800 0x1800 && (apart lo hi 0x2800 0x2803 && (apart lo hi 0x3800 0x3801 && (apart lo hi 0x4800 0x4813 && apart lo hi 0x6800 0x6814))))))))

out : (lo hi first last id : ℕ) → apart lo hi first last ≡ true → lo ≤ id → id ≤ hi → Out first last id
out lo hi first last id e p q a b =
    cases (ltb last lo)
    (λ t. let h = ltb-true last lo t in omega arith)
    (λ f. let h = ltb-true hi first (rw f at e) in omega arith)

pub in_gap : (id lo hi : ℕ) → lo ≤ id → id ≤ hi → gap lo hi ≡ true → Place.Unknown ≡ place_of id
in_gap id lo hi p q e =
    let a = and_true _ _ e in
    let b = and_true _ _ a.1 in
    let c = and_true _ _ b.1 in
    let d = and_true _ _ c.1 in
    let f = and_true _ _ d.1 in
    let g = and_true _ _ f.1 in
    let h = and_true _ _ g.1 in
    let i = and_true _ _ h.1 in
    let j = and_true _ _ i.1 in
    nowhere id (out lo hi _ _ id a.0 p q) (out lo hi _ _ id b.0 p q) (out lo hi _ _ id c.0 p q) (out lo hi _ _ id d.0 p q) (out lo hi _ _ id f.0 p q)
    (out lo hi _ _ id g.0 p q) (out lo hi _ _ id h.0 p q) (out lo hi _ _ id i.0 p q) (out lo hi _ _ id j.0 p q) (out lo hi _ _ id j.1 p q)

-- ---- what is read of an id by what it is
pub gets : (s : Settings) (id : ℕ) (t : ValueType) → parameter_of id ≡ Parameter.ReadWrite t → get_of s id ≡ got_value t (setting_of s id)
unfolding get_of
gets s id t e = rw e

pub gets_read_only : (s : Settings) (id : ℕ) (t : ValueType) → parameter_of id ≡ Parameter.ReadOnly t → get_of s id ≡ Got.ReadOnly t
unfolding get_of
gets_read_only s id t e = rw e

pub gets_unknown : (s : Settings) (id : ℕ) → parameter_of id ≡ Parameter.Unknown → get_of s id ≡ Got.Unknown
unfolding get_of
gets_unknown s id e = rw e

-- ---- what is read of an id is what stands at its place
pub number_at : (s : Settings) {id i : ℕ} {t : ValueType} → At id i t → setting_of s id ≡ get_or (numbers s t) i (pos 0)
unfolding setting_of
number_at s {id} {i} {t} a = let e : id - code_of t ≡ i = omega (arith, a.id_is) in rw a.is (ap (λ (j : ℕ). get_or (numbers s t) j (pos 0)) e)

pub reads : (s : Settings) {id i : ℕ} {t : ValueType} → At id i t → get_of s id ≡ got_value t (get_or (numbers s t) i (pos 0))
reads s {id} {i} {t} a = gets s id t a.is ∙ ap (got_value t) (number_at s a)

pub reads_n : (xs : List ℕ) (i : ℕ) → nat_abs (get_or (map pos xs) i (pos 0)) ≡ get_or xs i 0
reads_n xs i = rw (get_or-map pos xs i 0)

-- ---- type by type
module _ (s : Settings) (i : ℕ) where
  place : (t : ValueType) → i < count_of t → parameter_of (code_of t + i) ≡ Parameter.ReadWrite t → At (code_of t + i) i t
  place t h e = record { is = e; id_is = refl; below = h }

  pub int8_number : i < 21 → setting_of s (0x1000 + i) ≡ get_or s.i8s i (pos 0)
  int8_number h = number_at s (place Int8 h (int8s (0x1000 + i) (omega arith) (omega arith)))

  pub int8_get : i < 21 → get_of s (0x1000 + i) ≡ Got.Value (ParamValue.Int8 (get_or s.i8s i (pos 0)))
  int8_get h = gets s (0x1000 + i) Int8 (int8s (0x1000 + i) (omega arith) (omega arith)) ∙ ap (got_value Int8) (int8_number h)

  pub uint8_number : i < 3 → setting_of s (0x2000 + i) ≡ pos (get_or s.u8s i 0)
  uint8_number h = number_at s (place Uint8 h (uint8s (0x2000 + i) (omega arith) (omega arith))) ∙ get_or-map pos s.u8s i 0

  pub uint8_get : i < 3 → get_of s (0x2000 + i) ≡ Got.Value (ParamValue.Uint8 (get_or s.u8s i 0))
  uint8_get h = gets s (0x2000 + i) Uint8 (uint8s (0x2000 + i) (omega arith) (omega arith)) ∙ ap (got_value Uint8) (uint8_number h)

  pub int16_number : i < 42 → setting_of s (0x3000 + i) ≡ get_or s.i16s i (pos 0)
  int16_number h = number_at s (place Int16 h (int16s (0x3000 + i) (omega arith) (omega arith)))

  pub int16_get : i < 42 → get_of s (0x3000 + i) ≡ Got.Value (ParamValue.Int16 (get_or s.i16s i (pos 0)))
  int16_get h = gets s (0x3000 + i) Int16 (int16s (0x3000 + i) (omega arith) (omega arith)) ∙ ap (got_value Int16) (int16_number h)

  pub uint16_number : i < 68 → setting_of s (0x4000 + i) ≡ pos (get_or s.u16s i 0)
  uint16_number h = number_at s (place Uint16 h (uint16s (0x4000 + i) (omega arith) (omega arith))) ∙ get_or-map pos s.u16s i 0

  pub uint16_get : i < 68 → get_of s (0x4000 + i) ≡ Got.Value (ParamValue.Uint16 (get_or s.u16s i 0))
  uint16_get h = gets s (0x4000 + i) Uint16 (uint16s (0x4000 + i) (omega arith) (omega arith)) ∙ ap (got_value Uint16) (uint16_number h)

  pub uint32_number : i < 6 → setting_of s (0x6000 + i) ≡ pos (get_or s.u32s i 0)
  uint32_number h = number_at s (place Uint32 h (uint32s (0x6000 + i) (omega arith) (omega arith))) ∙ get_or-map pos s.u32s i 0

  pub uint32_get : i < 6 → get_of s (0x6000 + i) ≡ Got.Value (ParamValue.Uint32 (get_or s.u32s i 0))
  uint32_get h = gets s (0x6000 + i) Uint32 (uint32s (0x6000 + i) (omega arith) (omega arith)) ∙ ap (got_value Uint32) (uint32_number h)
