-- The types of the ICD's Table 3-24.
use Rattle.std.specs.Prelude.{ℕ}
use Rattle.value.specs.{declared.ValueType.ValueType, declared.ParamValue.ParamValue}
use Rattle.value.specs.declared.ValueType.TheVariants.{Int8, Uint8, Int16, Uint16, Int32, Uint32, Float, Int64, Uint64, Double}

pub data Sign : Type 0 where
  Signed Unsigned : Sign

-- A row of Table 3-24: the sign, the bytes and the code of a type.
pub data Row : Type 0 where
  row : Sign → ℕ → ℕ → Row

abbrev pub type_table : ValueType → Row
type_table Int8 = row Signed 1 0x1000
type_table Uint8 = row Unsigned 1 0x2000
type_table Int16 = row Signed 2 0x3000
type_table Uint16 = row Unsigned 2 0x4000
type_table Int32 = row Signed 4 0x5000
type_table Uint32 = row Unsigned 4 0x6000
type_table Float = row Signed 4 0x7000
type_table Int64 = row Signed 8 0x8000
type_table Uint64 = row Unsigned 8 0x9000
type_table Double = row Signed 8 0xA000

abbrev pub sign_in : Row → Sign
sign_in (row sign bytes code) = sign

abbrev pub bytes_in : Row → ℕ
bytes_in (row sign bytes code) = bytes

abbrev pub code_in : Row → ℕ
code_in (row sign bytes code) = code

-- The code of a type, from which the ids of its parameters count.
abbrev pub code_of : ValueType → ℕ
code_of t = code_in (type_table t)

-- How many bytes a value of a type has.
unfoldable pub width : ValueType → ℕ
width t = bytes_in (type_table t)

-- The type that a value keeps.
abbrev pub type_of : ParamValue → ValueType
type_of (ParamValue.Int8 x) = Int8
type_of (ParamValue.Uint8 x) = Uint8
type_of (ParamValue.Int16 x) = Int16
type_of (ParamValue.Uint16 x) = Uint16
type_of (ParamValue.Int32 x) = Int32
type_of (ParamValue.Uint32 x) = Uint32
type_of (ParamValue.Float x) = Float
type_of (ParamValue.Int64 x) = Int64
type_of (ParamValue.Uint64 x) = Uint64
type_of (ParamValue.Double x) = Double
