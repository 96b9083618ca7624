-- Values on the wire: the least significant byte first, signed ones in two's complement, floats as their patterns of
-- bits.
use Rattle.std.specs.Prelude.{ℕ, ◌-◌, length, replicate, Result, Ok, Err}
use mathlib.Core.{Bool.cond, Bool.false, List.List, List.◌++◌, Path.◌≡◌}
use lib.{Dec.T, Dec.ltb, Ieee.binary32, Ieee.binary64, Ieee.of_bits, Ieee.is_nan, Ieee.fits}
use Rattle.std.specs.Int.{w8, w16, w32, w64}
use Rattle.std.proofs.Common.{Fits, SFits}
use Rattle.wire.specs.{Numbers.number, Numbers.bytes_of, Numbers.signed, Numbers.pattern, Floats.nan_pattern, Floats.float_bits}
use Rattle.value.specs.{Types.width, Types.type_of, declared.ParamValue.ParamValue, declared.ValueRefusal.ValueRefusal}
use Rattle.value.specs.{declared.ValueBytes.ValueBytes, declared.ValueType.ValueType}
use Rattle.value.specs.declared.ValueRefusal.TheVariants.{TooShort, NotANumber}
use Rattle.value.specs.declared.ParamValue.TheVariants.{Int8, Uint8, Int16, Uint16, Int32, Uint32, Float, Int64, Uint64, Double}

-- The number that a value's bytes spell.
unfoldable pub spelt : ParamValue → ℕ
spelt (Int8 x) = pattern 1 x
spelt (Uint8 x) = x
spelt (Int16 x) = pattern 2 x
spelt (Uint16 x) = x
spelt (Int32 x) = pattern 4 x
spelt (Uint32 x) = x
spelt (Float x) = float_bits binary32 x
spelt (Int64 x) = pattern 8 x
spelt (Uint64 x) = x
spelt (Double x) = float_bits binary64 x

-- A value's bytes, as many as Table 3-24 gives its type.
unfoldable pub wire_bytes : ParamValue → List ℕ
wire_bytes v = bytes_of (width (type_of v)) (spelt v)

-- Those bytes in a room of eight, the rest of it 0.
unfoldable pub value_bytes : ParamValue → ValueBytes
value_bytes v = record { len = width (type_of v); bytes = wire_bytes v ++ replicate (8 - width (type_of v)) 0 }

-- The value of a type whose bytes spell x. A NaN's pattern is no value.
unfoldable pub value_of : ValueType → ℕ → Result ParamValue ValueRefusal
value_of ValueType.Int8 x = Ok (Int8 (signed 1 x))
value_of ValueType.Uint8 x = Ok (Uint8 x)
value_of ValueType.Int16 x = Ok (Int16 (signed 2 x))
value_of ValueType.Uint16 x = Ok (Uint16 x)
value_of ValueType.Int32 x = Ok (Int32 (signed 4 x))
value_of ValueType.Uint32 x = Ok (Uint32 x)
value_of ValueType.Float x = cond (nan_pattern binary32 x) (Err NotANumber) (Ok (Float (of_bits binary32 x)))
value_of ValueType.Int64 x = Ok (Int64 (signed 8 x))
value_of ValueType.Uint64 x = Ok (Uint64 x)
value_of ValueType.Double x = cond (nan_pattern binary64 x) (Err NotANumber) (Ok (Double (of_bits binary64 x)))

-- The value of a type at the front of a list of bytes. Bytes past it are ignored.
unfoldable pub read_of : ValueType → List ℕ → Result ParamValue ValueRefusal
read_of t s = cond (ltb (length s) (width t)) (Err TooShort) (value_of t (number (width t) s))

-- A value fits its type, and is no NaN.
unfoldable pub Proper : ParamValue → Type 0
Proper (Int8 x) = SFits w8 x
Proper (Uint8 x) = Fits w8 x
Proper (Int16 x) = SFits w16 x
Proper (Uint16 x) = Fits w16 x
Proper (Int32 x) = SFits w32 x
Proper (Uint32 x) = Fits w32 x
Proper (Float x) = T (fits binary32 x) × (is_nan x ≡ false)
Proper (Int64 x) = SFits w64 x
Proper (Uint64 x) = Fits w64 x
Proper (Double x) = T (fits binary64 x) × (is_nan x ≡ false)
