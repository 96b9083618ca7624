-- Document 01's number for each answer of this crate; 0 is no refusal. Assumes nothing: these are definitions.
use Rattle.std.specs.Prelude.{ℕ, Result, Ok, Err}
use mathlib.Core.{Bool.Bool, Bool.false, Bool.cond, List.List}
use lib.{Dec.ltb, Ieee.binary32, Ieee.binary64, ListN.length}
use Rattle.wire.specs.{Numbers.number, Floats.nan_pattern}
use Rattle.value.specs.{Types.width, declared.ValueType.ValueType, declared.ParamValue.ParamValue, declared.ValueRefusal.ValueRefusal}
use Rattle.value.specs.declared.ValueType.TheVariants.{Int8, Uint8, Int16, Uint16, Int32, Uint32, Float, Int64, Uint64, Double}
use Rattle.value.specs.declared.ValueRefusal.TheVariants.{TooShort, NotANumber}

-- a set command with fewer bytes than its value has is 5, a NaN is 7
abbrev pub read_number : Result ParamValue ValueRefusal → ℕ
read_number (Ok v) = 0
read_number (Err TooShort) = 5
read_number (Err NotANumber) = 7

-- ---- when each number is given

-- the bytes spell a NaN, which only the two float types have
unfoldable pub is_nan_value : ValueType → ℕ → Bool
is_nan_value Int8 x = false
is_nan_value Uint8 x = false
is_nan_value Int16 x = false
is_nan_value Uint16 x = false
is_nan_value Int32 x = false
is_nan_value Uint32 x = false
is_nan_value Float x = nan_pattern binary32 x
is_nan_value Int64 x = false
is_nan_value Uint64 x = false
is_nan_value Double x = nan_pattern binary64 x

-- 7 where the bytes of a value spell a NaN
abbrev pub spelt_number : ValueType → ℕ → ℕ
spelt_number t x = cond (is_nan_value t x) 7 0

-- 5 where there are fewer bytes than the type has, and then 7 where they spell a NaN
unfoldable pub value_number : ValueType → List ℕ → ℕ
value_number t s =
    cond (ltb (length s) (width t)) 5
    (spelt_number t (number (width t) s))
