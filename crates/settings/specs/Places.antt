-- Where the value of an id stands: in the array of its type, at the id less the type's code. Only private functions'
-- contracts cite this. Assumes nothing.
use Rattle.std.specs.Prelude.{ℕ, ◌-◌, ◌≤◌, ◌⊎◌}
use Rattle.value.specs.{Types.code_of, declared.ValueType.ValueType}
use Rattle.value.specs.declared.ValueType.TheVariants.{Int8, Uint8, Int16, Uint16, Int32, Uint32, Float, Int64, Uint64, Double}
use Rattle.settings.specs.{Table.parameter_of, declared.Parameter.Parameter, declared.Place.Place}

-- the settings hold an array of each of five types, and of no other
abbrev pub place_in : ValueType → ℕ → Place
place_in Int8 i = Place.Int8 i
place_in Uint8 i = Place.Uint8 i
place_in Int16 i = Place.Int16 i
place_in Uint16 i = Place.Uint16 i
place_in Int32 i = Place.Unknown
place_in Uint32 i = Place.Uint32 i
place_in Float i = Place.Unknown
place_in Int64 i = Place.Unknown
place_in Uint64 i = Place.Unknown
place_in Double i = Place.Unknown

abbrev pub place_as : ℕ → Parameter → Place
place_as id (Parameter.ReadWrite t) = place_in t (id - code_of t)
place_as id (Parameter.ReadOnly t) = Place.ReadOnly t
place_as id Parameter.Unknown = Place.Unknown

unfoldable pub place_of : ℕ → Place
place_of id = place_as id (parameter_of id)

-- an id of an int16 or a uint16 parameter: the types with ranges narrower than the type
abbrev pub HasEnds : ℕ → Type 0
HasEnds id = ((0x3000 ≤ id) × (id ≤ 0x3029)) ⊎ ((0x4000 ≤ id) × (id ≤ 0x4043))
