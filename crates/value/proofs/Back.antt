-- Values and their bytes undo each other. Assumes nothing.
use Prim.Native.Nat.{ℕ, ◌≤◌, ◌<◌, ◌^◌, ◌+◌}
use mathlib.Core.Bool.{Bool, true, false, cond}
use mathlib.Core.List.{List, ◌++◌}
use mathlib.Core.Logic.{⊎_elim}
use mathlib.Core.Path.{◌≡◌, refl, sym, ap, ◌∙◌}
use native.Mathlib.Nat.{mod-eq_of_lt}
use native.Mathlib.Omega.{arith}
use lib.Ieee.{binary32, binary64, of_bits}
use lib.ListN.{length, take, drop, length-append, length-take, take-append-drop, get_or-eq_default}
use lib.Seq.{get_or-take, length-take-le}
use mir.Syntax.{w8, w16, w32, w64}
use Rattle.laws.proofs.Lists.{lt_or_le}
use Rattle.wire.proofs.LittleEndian.{number_append, number_lt, length_bytes_of, bytes_of_number}
use Rattle.wire.proofs.Patterns.{float_bits_of_bits, nan_float_bits, of_bits_float_bits, float_bits_lt}
use Rattle.wire.proofs.Rows.{number_front}
use Rattle.wire.proofs.TwosComplement.{signed_pattern, pattern_signed, pattern_fits}
use Rattle.wire.specs.Floats.{nan_pattern}
use Rattle.wire.specs.Numbers.{Bytes, number, bytes_of, signed}
use Rattle.value.proofs.Reading.{too_short, long_enough}
use Rattle.value.specs.Types.{width, type_of}
use Rattle.value.specs.Answers.{read_number}
use Rattle.value.specs.Values.{spelt, wire_bytes, value_of, read_of, Proper}
use Rattle.value.specs.declared.ParamValue.{ParamValue}
use Rattle.value.specs.declared.ParamValue.TheVariants.{Int8, Uint8, Int16, Uint16, Int32, Uint32, Float, Int64, Uint64, Double}
use Rattle.std.specs.Prelude.{Result, Ok, Err}
use Rattle.value.specs.declared.ValueRefusal.{ValueRefusal}
use Rattle.value.specs.declared.ValueRefusal.TheVariants.{TooShort, NotANumber}
use Rattle.value.specs.declared.ValueType.{ValueType}

-- ---- a value that fits its type: its bytes hold it, and spell it

pub spelt_lt : (v : ParamValue) → Proper v → spelt v < 256 ^ width (type_of v)
unfolding Proper spelt width
spelt_lt (Int8 x) f = (pattern_fits w8 x f).fits
spelt_lt (Uint8 x) f = f.fits
spelt_lt (Int16 x) f = (pattern_fits w16 x f).fits
spelt_lt (Uint16 x) f = f.fits
spelt_lt (Int32 x) f = (pattern_fits w32 x f).fits
spelt_lt (Uint32 x) f = f.fits
spelt_lt (Float x) f = float_bits_lt binary32 x f.0
spelt_lt (Int64 x) f = (pattern_fits w64 x f).fits
spelt_lt (Uint64 x) f = f.fits
spelt_lt (Double x) f = float_bits_lt binary64 x f.0

pub spelt_back : (v : ParamValue) → Proper v → value_of (type_of v) (spelt v) ≡ Ok v
unfolding Proper spelt value_of
spelt_back (Int8 x) f = rw (signed_pattern w8 x f)
spelt_back (Uint8 x) f = refl
spelt_back (Int16 x) f = rw (signed_pattern w16 x f)
spelt_back (Uint16 x) f = refl
spelt_back (Int32 x) f = rw (signed_pattern w32 x f)
spelt_back (Uint32 x) f = refl
spelt_back (Float x) f = rw (nan_float_bits binary32 x f.0, f.1, of_bits_float_bits binary32 x f.0 f.1)
spelt_back (Int64 x) f = rw (signed_pattern w64 x f)
spelt_back (Uint64 x) f = refl
spelt_back (Double x) f = rw (nan_float_bits binary64 x f.0, f.1, of_bits_float_bits binary64 x f.0 f.1)

-- ---- what the bytes of a number are read as, whatever stands behind them

pub read_number_lem : (t : ValueType) (x : ℕ) (rest : List ℕ) → x < 256 ^ width t → read_of t (bytes_of (width t) x ++ rest) ≡ value_of t x
read_number_lem t x rest h =
    let s = bytes_of (width t) x ++ rest in
    let l : length s ≡ length (bytes_of (width t) x) + length rest = length-append (bytes_of (width t) x) rest in
    long_enough t t s refl (omega (arith, length_bytes_of (width t) x))
    ∙ ap (value_of t) (number_front (width t) x rest ∙ mod-eq_of_lt h)

-- the bytes of a value are read as that value
pub read_back : (v : ParamValue) (rest : List ℕ) → Proper v → read_of (type_of v) (wire_bytes v ++ rest) ≡ Ok v
unfolding wire_bytes
read_back v rest f = read_number_lem (type_of v) (spelt v) rest (spelt_lt v f) ∙ spelt_back v f

-- ---- and every number is read as the value that it spells, or refused as a NaN

module _ (t : ValueType) (x : ℕ) where
  Kept : ParamValue → Type 0
  Kept v = (type_of v ≡ t) × (spelt v ≡ x)

  agree : (w v : ParamValue) → ◌≡◌ {A = Result ParamValue ValueRefusal} (Ok w) (Ok v) → Kept w → Kept v
  agree w v e p = let q : w ≡ v = cc in rw (← q) p

-- a float's answer that is a value is so because its pattern is no NaN's
numbered : (b : Bool) (w v : ParamValue) → cond b (Err NotANumber) (Ok w) ≡ Ok v → (b ≡ false) × (◌≡◌ {A = Result ParamValue ValueRefusal} (Ok w) (Ok v))
numbered true w v e = absurd (let z : ◌≡◌ {A = ℕ} 0 1 = cc in omega arith)
numbered false w v e = (refl, e)

pub value_spelt : (t : ValueType) (x : ℕ) (v : ParamValue) → x < 256 ^ width t → value_of t x ≡ Ok v → (type_of v ≡ t) × (spelt v ≡ x)
unfolding value_of spelt width Kept
value_spelt ValueType.Int8 x v h e = agree ValueType.Int8 x (Int8 (signed 1 x)) v e (refl, pattern_signed w8 x (record { fits = h }))
value_spelt ValueType.Uint8 x v h e = agree ValueType.Uint8 x (Uint8 x) v e (refl, refl)
value_spelt ValueType.Int16 x v h e = agree ValueType.Int16 x (Int16 (signed 2 x)) v e (refl, pattern_signed w16 x (record { fits = h }))
value_spelt ValueType.Uint16 x v h e = agree ValueType.Uint16 x (Uint16 x) v e (refl, refl)
value_spelt ValueType.Int32 x v h e = agree ValueType.Int32 x (Int32 (signed 4 x)) v e (refl, pattern_signed w32 x (record { fits = h }))
value_spelt ValueType.Uint32 x v h e = agree ValueType.Uint32 x (Uint32 x) v e (refl, refl)
value_spelt ValueType.Float x v h e =
    let n = numbered (nan_pattern binary32 x) (Float (of_bits binary32 x)) v e in
    agree ValueType.Float x (Float (of_bits binary32 x)) v n.1 (refl, float_bits_of_bits binary32 x h n.0)
value_spelt ValueType.Int64 x v h e = agree ValueType.Int64 x (Int64 (signed 8 x)) v e (refl, pattern_signed w64 x (record { fits = h }))
value_spelt ValueType.Uint64 x v h e = agree ValueType.Uint64 x (Uint64 x) v e (refl, refl)
value_spelt ValueType.Double x v h e =
    let n = numbered (nan_pattern binary64 x) (Double (of_bits binary64 x)) v e in
    agree ValueType.Double x (Double (of_bits binary64 x)) v n.1 (refl, float_bits_of_bits binary64 x h n.0)

-- ---- too short exactly where there are fewer bytes than the type has

never_short : (b : Bool) (w : ParamValue) → cond b (Err NotANumber) (Ok w) ≡ Err TooShort → ⊥
never_short true w e = let z : ◌≡◌ {A = ℕ} 0 1 = cc in omega arith
never_short false w e = let z : ◌≡◌ {A = ℕ} 0 1 = cc in omega arith

value_long : (t : ValueType) (x : ℕ) → value_of t x ≡ Err TooShort → ⊥
unfolding value_of
value_long ValueType.Int8 x e = never_short false (Int8 (signed 1 x)) e
value_long ValueType.Uint8 x e = never_short false (Uint8 x) e
value_long ValueType.Int16 x e = never_short false (Int16 (signed 2 x)) e
value_long ValueType.Uint16 x e = never_short false (Uint16 x) e
value_long ValueType.Int32 x e = never_short false (Int32 (signed 4 x)) e
value_long ValueType.Uint32 x e = never_short false (Uint32 x) e
value_long ValueType.Float x e = never_short (nan_pattern binary32 x) (Float (of_bits binary32 x)) e
value_long ValueType.Int64 x e = never_short false (Int64 (signed 8 x)) e
value_long ValueType.Uint64 x e = never_short false (Uint64 x) e
value_long ValueType.Double x e = never_short (nan_pattern binary64 x) (Double (of_bits binary64 x)) e

pub short_is_short : (t : ValueType) (s : List ℕ) → read_of t s ≡ Err TooShort → length s < width t
short_is_short t s e =
    ⊎_elim
    (λ (h : length s < width t). h)
    (λ (h : width t ≤ length s). absurd (value_long t (number (width t) s) (sym (long_enough t t s refl h) ∙ e)))
    (lt_or_le (length s) (width t))

-- ---- what was read keeps the type that was asked for, and has those very bytes

front_bytes : (n : ℕ) (s : List ℕ) → Bytes s → Bytes (take n s)
front_bytes n s b i =
    ⊎_elim
    (λ (h : i < n). rw (get_or-take n s i 0 h) (b i))
    (λ (h : n ≤ i). rw (get_or-eq_default (take n s) 0 {n = i} (simp length-take (omega arith))) (omega arith))
    (lt_or_le i n)

front_number : (n : ℕ) (s : List ℕ) → n ≤ length s → number n (take n s) ≡ number n s
front_number n s h =
    sym (number_append n (take n s) (drop n s) (omega (arith, length-take-le n s h))) ∙ ap (number n) (take-append-drop n s)

pub read_bytes : (t : ValueType) (s : List ℕ) (v : ParamValue) → Bytes s → read_of t s ≡ Ok v → (type_of v ≡ t) × (wire_bytes v ≡ take (width t) s)
unfolding wire_bytes
read_bytes t s v b e =
    ⊎_elim
    (λ (h : length s < width t). absurd (let p = too_short t s h in let z : ◌≡◌ {A = ℕ} 0 1 = cc in omega arith))
    (λ (h : width t ≤ length s).
    let n = width t in
    let k = value_spelt t (number n s) v (number_lt n s b) (sym (long_enough t t s refl h) ∙ e) in (
      k.0,
      rw (k.0, k.1)
          (ap (bytes_of n) (sym (front_number n s h)) ∙ bytes_of_number n (take n s) (length-take-le n s h) (front_bytes n s b)),
    ))
    (lt_or_le (length s) (width t))

-- ---- floats: every pattern of bits is refused as a NaN's, or is that of the value read

module _ (x : ℕ) (rest : List ℕ) where
  pub float_refused : x < 2 ^ 32 → nan_pattern binary32 x ≡ true → read_of ValueType.Float (bytes_of 4 x ++ rest) ≡ Err NotANumber
  unfolding value_of width
  float_refused h n = rw n at (read_number_lem ValueType.Float x rest h)

  pub double_refused : x < 2 ^ 64 → nan_pattern binary64 x ≡ true → read_of ValueType.Double (bytes_of 8 x ++ rest) ≡ Err NotANumber
  unfolding value_of width
  double_refused h n = rw n at (read_number_lem ValueType.Double x rest h)

  pub float_taken : x < 2 ^ 32 → nan_pattern binary32 x ≡ false
      → (read_of ValueType.Float (bytes_of 4 x ++ rest) ≡ Ok (Float (of_bits binary32 x))) × (wire_bytes (Float (of_bits binary32 x)) ≡ bytes_of 4 x)
  unfolding value_of wire_bytes spelt width
  float_taken h n = (rw n at (read_number_lem ValueType.Float x rest h), ap (bytes_of 4) (float_bits_of_bits binary32 x h n))

  pub double_taken : x < 2 ^ 64 → nan_pattern binary64 x ≡ false
      → (read_of ValueType.Double (bytes_of 8 x ++ rest) ≡ Ok (Double (of_bits binary64 x))) × (wire_bytes (Double (of_bits binary64 x)) ≡ bytes_of 8 x)
  unfolding value_of wire_bytes spelt width
  double_taken h n = (rw n at (read_number_lem ValueType.Double x rest h), ap (bytes_of 8) (float_bits_of_bits binary64 x h n))

-- ---- document 01's numbers: 5 where bytes are missing, 7 for a NaN, and no other
pub read_5 : (t : ValueType) (s : List ℕ) → length s < width t → read_number (read_of t s) ≡ 5
read_5 t s h = ap read_number (too_short t s h)

pub float_7 : (x : ℕ) (rest : List ℕ) → x < 2 ^ 32 → nan_pattern binary32 x ≡ true → read_number (read_of ValueType.Float (bytes_of 4 x ++ rest)) ≡ 7
float_7 x rest h n = ap read_number (float_refused x rest h n)

pub double_7 : (x : ℕ) (rest : List ℕ) → x < 2 ^ 64 → nan_pattern binary64 x ≡ true → read_number (read_of ValueType.Double (bytes_of 8 x ++ rest)) ≡ 7
double_7 x rest h n = ap read_number (double_refused x rest h n)
