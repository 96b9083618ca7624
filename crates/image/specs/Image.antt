-- The settings as bytes: what the checksum is taken over, what is stored, and how it is read back.
-- Assumes nothing: these are definitions.
use Rattle.std.specs.Prelude.{ℕ, zero, suc, List, [], ◌∷◌, ◌++◌}
use lib.{ListN.drop}
use Rattle.wire.specs.Numbers.{number, signed, itself}
use Rattle.crc.specs.Division.{checksum_of}
use Rattle.value.specs.Values.{wire_bytes}
use Rattle.settings.specs.{Table.ids, Values.get_of, declared.Got.Got, declared.Settings.Settings}

-- the bytes of one parameter's value, little endian, as many as its type has
abbrev pub got_bytes : Got → List ℕ
got_bytes (Got.Value v) = wire_bytes v
got_bytes (Got.ReadOnly t) = []
got_bytes Got.Unknown = []

unfoldable pub parameter_bytes : Settings → ℕ → List ℕ
parameter_bytes s id = got_bytes (get_of s id)

-- the bytes of one id after another
unfoldable pub in_row : (ℕ → List ℕ) → List ℕ → List ℕ
in_row f [] = []
in_row f (id ∷ more) = f id ++ in_row f more

-- all read/write values, from the lowest id to the highest
unfoldable pub image_of : Settings → List ℕ
image_of s = in_row (parameter_bytes s) ids

-- the checksum of the settings is that of their image
unfoldable pub settings_checksum : Settings → ℕ
settings_checksum s = checksum_of (image_of s)

-- ---- and back

-- n numbers of w bytes, one after another, each taken as f says
unfoldable pub numbers_of : {A : Type 0} → (ℕ → A) → ℕ → ℕ → List ℕ → List A
numbers_of f w zero bytes = []
numbers_of f w (suc n) bytes = f (number w bytes) ∷ numbers_of f w n (drop w bytes)

-- the settings whose image some bytes are: 21 int8, 3 uint8, 42 int16, 68 uint16 and 6 uint32, as the ids rise.
-- A byte past the end counts as 0, and bytes past the image are not looked at.
unfoldable pub settings_of : List ℕ → Settings
settings_of bytes =
    record {
      u32s = numbers_of itself 4 6 (drop 244 bytes);
      u16s = numbers_of itself 2 68 (drop 108 bytes);
      i16s = numbers_of (signed 2) 2 42 (drop 24 bytes);
      i8s = numbers_of (signed 1) 1 21 bytes;
      u8s = numbers_of itself 1 3 (drop 21 bytes);
    }
