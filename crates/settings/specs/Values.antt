-- What the read/write parameters hold, read, set and reset by id. Assumes nothing.
use Rattle.std.specs.Prelude.{ℕ, ◌-◌}
use mathlib.Core.{Bool.Bool, Bool.true, Bool.cond, Bool.◌&&◌, List.List, List.[], List.◌∷◌, List.map}
use lib.{ListN.get_or, ListN.set, IntN.ℤ, IntN.pos, IntN.nat_abs}
use Rattle.kinds.specs.declared.Kind.{Kind}
use Rattle.value.specs.{Types.code_of, Types.type_of, declared.ValueType.ValueType, declared.ParamValue.ParamValue}
use Rattle.value.specs.declared.ValueType.TheVariants.{Int8, Uint8, Int16, Uint16, Int32, Uint32, Float, Int64, Uint64, Double}
use Rattle.settings.specs.Table.{same, parameter_of, inside_of, clamp_of, default_of, column, ids}
use Rattle.settings.specs.{declared.Parameter.Parameter, declared.Got.Got, declared.Settings.Settings}

-- ---- a value and its number
-- a float or a double is stored nowhere, and what stands there is not used
abbrev pub number_in : ParamValue → ℤ
number_in (ParamValue.Int8 x) = x
number_in (ParamValue.Uint8 x) = pos x
number_in (ParamValue.Int16 x) = x
number_in (ParamValue.Uint16 x) = pos x
number_in (ParamValue.Int32 x) = x
number_in (ParamValue.Uint32 x) = pos x
number_in (ParamValue.Float x) = pos 0
number_in (ParamValue.Int64 x) = x
number_in (ParamValue.Uint64 x) = pos x
number_in (ParamValue.Double x) = pos 0

-- the value of a type that a number is; the settings hold no other types
abbrev pub got_value : ValueType → ℤ → Got
got_value Int8 z = Got.Value (ParamValue.Int8 z)
got_value Uint8 z = Got.Value (ParamValue.Uint8 (nat_abs z))
got_value Int16 z = Got.Value (ParamValue.Int16 z)
got_value Uint16 z = Got.Value (ParamValue.Uint16 (nat_abs z))
got_value Int32 z = Got.Unknown
got_value Uint32 z = Got.Value (ParamValue.Uint32 (nat_abs z))
got_value Float z = Got.Unknown
got_value Int64 z = Got.Unknown
got_value Uint64 z = Got.Unknown
got_value Double z = Got.Unknown

-- ---- the numbers held
-- those of a type, from the lowest id of the type on
abbrev pub numbers : Settings → ValueType → List ℤ
numbers s Int8 = s.i8s
numbers s Uint8 = map pos s.u8s
numbers s Int16 = s.i16s
numbers s Uint16 = map pos s.u16s
numbers s Int32 = []
numbers s Uint32 = map pos s.u32s
numbers s Float = []
numbers s Int64 = []
numbers s Uint64 = []
numbers s Double = []

-- the number of an id: its place among those of its type is the id less the type's code
abbrev pub number_as : Settings → ℕ → Parameter → ℤ
number_as s id (Parameter.ReadWrite t) = get_or (numbers s t) (id - code_of t) (pos 0)
number_as s id (Parameter.ReadOnly t) = pos 0
number_as s id Parameter.Unknown = pos 0

unfoldable pub setting_of : Settings → ℕ → ℤ
setting_of s id = number_as s id (parameter_of id)

-- an array with z at the place i where it is the one that is meant, and as it was where it is not; `stored_n` is for
-- unsigned types
abbrev pub stored : Bool → List ℤ → ℕ → ℤ → List ℤ
stored b xs i z = cond b (set xs i z) xs

abbrev pub stored_n : Bool → List ℕ → ℕ → ℤ → List ℕ
stored_n b xs i z = cond b (set xs i (nat_abs z)) xs

-- the settings with z at the place i of the type t, and all else as it was
unfoldable pub with_number : Settings → ValueType → ℕ → ℤ → Settings
with_number s t i z = record {
  u32s = stored_n (same t Uint32) s.u32s i z;
  u16s = stored_n (same t Uint16) s.u16s i z;
  i16s = stored (same t Int16) s.i16s i z;
  i8s = stored (same t Int8) s.i8s i z;
  u8s = stored_n (same t Uint8) s.u8s i z;
}

-- ---- get, set, reset of one, defaults
-- an id reads its value where it is a read/write parameter
abbrev pub got_as : Parameter → ℤ → Got
got_as (Parameter.ReadWrite t) z = got_value t z
got_as (Parameter.ReadOnly t) z = Got.ReadOnly t
got_as Parameter.Unknown z = Got.Unknown

unfoldable pub get_of : Settings → ℕ → Got
get_of s id = got_as (parameter_of id) (setting_of s id)

-- a number stored for an id, where it is a read/write parameter of that type
abbrev pub store_as : Settings → ℕ → Parameter → ValueType → ℤ → Settings
store_as s id (Parameter.ReadWrite t) u z = cond (same t u) (with_number s t (id - code_of t) z) s
store_as s id (Parameter.ReadOnly t) u z = s
store_as s id Parameter.Unknown u z = s

-- a value is stored at the nearer end of the id's range; one of another type changes nothing
unfoldable pub set_of : Settings → ℕ → ParamValue → Settings
set_of s id v = store_as s id (parameter_of id) (type_of v) (clamp_of id (number_in v))

-- a reset stores the default of the kind of board
abbrev pub reset_as : Kind → Settings → ℕ → Parameter → Settings
reset_as kind s id (Parameter.ReadWrite t) = with_number s t (id - code_of t) (default_of kind id)
reset_as kind s id (Parameter.ReadOnly t) = s
reset_as kind s id Parameter.Unknown = s

unfoldable pub reset_of : Kind → Settings → ℕ → Settings
reset_of kind s id = reset_as kind s id (parameter_of id)

-- every parameter at its default; `default_n` is for unsigned types
unfoldable pub default_n : Kind → ℕ → ℕ
default_n kind id = nat_abs (default_of kind id)

unfoldable pub defaults_of : Kind → Settings
defaults_of kind = record {
  u32s = column (default_n kind) 0x6000 6;
  u16s = column (default_n kind) 0x4000 68;
  i16s = column (default_of kind) 0x3000 42;
  i8s = column (default_of kind) 0x1000 21;
  u8s = column (default_n kind) 0x2000 3;
}

-- ---- every read/write parameter's number lies in its range
unfoldable pub all_inside : Settings → List ℕ → Bool
all_inside s [] = true
all_inside s (id ∷ more) = inside_of id (setting_of s id) && all_inside s more

unfoldable pub in_range_of : Settings → Bool
in_range_of s = all_inside s ids
