-- Values and their bytes undo each other. Assumes nothing.
use Prim.Native.Nat.{ℕ, zero, suc, ◌+◌, ◌-◌, ◌*◌, ◌/◌, ◌%◌, ◌^◌, ◌≤◌, ◌<◌}
use mathlib.Core.Bool.{Bool, true, false, cond}
use mathlib.Core.List.{List, ◌∷◌, ◌++◌}
use mathlib.Core.Path.{◌≡◌, refl, ap, ◌∙◌}
use native.Mathlib.Nat.{zero-add, suc-add, pow-suc}
use native.Mathlib.Omega.{arith}
use lib.Dec.{ltb}
use lib.Ieee.{Float, binary32, binary64, of_bits}
use lib.ListN.{length, replicate}
use borrow.Author.Tests.{lt-ltb, le-ltb}
use Rattle.std.specs.Prelude.{Option, Some, None, Result, Ok, Err}
use Rattle.wire.proofs.LittleEndian.{bytes_of_zero}
use Rattle.wire.specs.Floats.{nan_pattern, float_of}
use Rattle.wire.specs.Numbers.{number, bytes_of}
use Rattle.value.specs.Types.{width, type_of}
use Rattle.value.specs.Answers.{read_number, is_nan_value, spelt_number, value_number}
use Rattle.value.specs.Values.{spelt, wire_bytes, value_bytes, value_of, read_of}
use Rattle.value.specs.declared.ParamValue.{ParamValue}
use Rattle.value.specs.declared.ValueRefusal.{ValueRefusal}
use Rattle.value.specs.declared.ValueRefusal.TheVariants.{TooShort, NotANumber}
use Rattle.value.specs.declared.ValueBytes.{ValueBytes}
use Rattle.value.specs.declared.ValueType.{ValueType}

-- ---- what the code makes of a float

abbrev pub floating : (Float → ParamValue) → Option Float → Result ParamValue ValueRefusal
floating value (Some x) = Ok (value x)
floating value None = Err NotANumber

chosen : (value : Float → ParamValue) (b : Bool) (y : Float) → floating value (cond b None (Some y)) ≡ cond b (Err NotANumber) (Ok (value y))
chosen value true y = refl
chosen value false y = refl

pub float_value : (x : ℕ) → floating ParamValue.Float (float_of binary32 x) ≡ value_of ValueType.Float x
unfolding float_of value_of
float_value x = chosen ParamValue.Float (nan_pattern binary32 x) (of_bits binary32 x)

pub double_value : (x : ℕ) → floating ParamValue.Double (float_of binary64 x) ≡ value_of ValueType.Double x
unfolding float_of value_of
double_value x = chosen ParamValue.Double (nan_pattern binary64 x) (of_bits binary64 x)

-- ---- a value's bytes in their room: past those that it needs stands 0

wider : (n k x : ℕ) → x < 256 ^ n → bytes_of (n + k) x ≡ bytes_of n x ++ replicate k 0
unfolding bytes_of
wider zero k x h =
    let e : x ≡ 0 = omega arith in
    rw (zero-add k, e) (bytes_of_zero k)
wider (suc n) k x h =
    let p : x < 256 ^ n * 256 = rw (pow-suc 256 n) at h in
    rw (suc-add n k) (ap (λ (l : List ℕ). x % 256 ∷ l) (wider n k (x / 256) (omega arith)))

pub width_room : (t : ValueType) → width t ≤ 8
unfolding width
width_room ValueType.Int8 = omega arith
width_room ValueType.Uint8 = omega arith
width_room ValueType.Int16 = omega arith
width_room ValueType.Uint16 = omega arith
width_room ValueType.Int32 = omega arith
width_room ValueType.Uint32 = omega arith
width_room ValueType.Float = omega arith
width_room ValueType.Int64 = omega arith
width_room ValueType.Uint64 = omega arith
width_room ValueType.Double = omega arith

pub in_room : (v : ParamValue) (n x : ℕ) (b : List ℕ) → n ≡ width (type_of v) → b ≡ bytes_of 8 x → x ≡ spelt v → x < 256 ^ width (type_of v)
    → ◌≡◌ {A = ValueBytes} (record { len = n; bytes = b }) (value_bytes v)
unfolding value_bytes wire_bytes
in_room v n x b en eb ex h =
    let w = width (type_of v) in
    let e : w + (8 - w) ≡ 8 = omega (arith, width_room (type_of v)) in
    let l : bytes_of 8 x ≡ bytes_of w x ++ replicate (8 - w) 0 = rw e at (wider w (8 - w) x h) in
    rw (en, eb, l, ex)

-- ---- what a reader answers

pub too_short : (t : ValueType) (s : List ℕ) → length s < width t → read_of t s ≡ Err TooShort
unfolding read_of
too_short t s h = rw (lt-ltb (length s) (width t) h)

pub long_enough : (t u : ValueType) (s : List ℕ) → t ≡ u → width t ≤ length s → read_of t s ≡ value_of u (number (width u) s)
unfolding read_of
long_enough t u s e h = rw (le-ltb (length s) (width t) h, e)

-- ---- and the number that its answer has

refused : (b : Bool) (v : ParamValue) → read_number (cond b (Err NotANumber) (Ok v)) ≡ cond b 7 0
refused true v = refl
refused false v = refl

pub spelt_number_lem : (t : ValueType) (x : ℕ) → read_number (value_of t x) ≡ spelt_number t x
unfolding value_of is_nan_value
spelt_number_lem ValueType.Int8 x = refl
spelt_number_lem ValueType.Uint8 x = refl
spelt_number_lem ValueType.Int16 x = refl
spelt_number_lem ValueType.Uint16 x = refl
spelt_number_lem ValueType.Int32 x = refl
spelt_number_lem ValueType.Uint32 x = refl
spelt_number_lem ValueType.Float x = refused (nan_pattern binary32 x) _
spelt_number_lem ValueType.Int64 x = refl
spelt_number_lem ValueType.Uint64 x = refl
spelt_number_lem ValueType.Double x = refused (nan_pattern binary64 x) _

pub value_number_lem : (t : ValueType) (s : List ℕ) → read_number (read_of t s) ≡ value_number t s
unfolding read_of value_number
value_number_lem t s = go (ltb (length s) (width t)) (value_of t (number (width t) s)) ∙ ap (cond (ltb (length s) (width t)) 5) (spelt_number_lem t (number (width t) s))
  where
    go : (b : Bool) (p : Result ParamValue ValueRefusal) → read_number (cond b (Err TooShort) p) ≡ cond b 5 (read_number p)
    go true p = refl
    go false p = refl

pub with_value_number : {r : Result ParamValue ValueRefusal} (t : ValueType) (s : List ℕ) → r ≡ read_of t s → record { value : r ≡ read_of t s; number : read_number r ≡ value_number t s }
with_value_number t s e = record { value = e; number = ap read_number e ∙ value_number_lem t s }
