-- What callers of the checksum cite. Assumes nothing.
use mathlib.Core.Path.{◌≡◌, refl}
use mathlib.Core.List.{List, [], ◌∷◌, ◌++◌}
use Prim.Native.Nat.{ℕ}
use Rattle.crc.specs.Division.{divided, along_bits, bits_of, continued_of, checksum_of}

-- a list can be walked in parts
pub in_parts : (left : ℕ) (a b : List ℕ) → continued_of left (a ++ b) ≡ continued_of (continued_of left a) b
unfolding continued_of
in_parts left [] b = refl
in_parts left (x ∷ a) b = in_parts (along_bits left (bits_of x)) a b

pub checksum_in_parts : (a b : List ℕ) → checksum_of (a ++ b) ≡ continued_of (checksum_of a) b
unfolding checksum_of
checksum_in_parts a b = in_parts 0xFFFF a b

-- the ASCII digits 1 to 9
abbrev digits : List ℕ
digits = 0x31 ∷ 0x32 ∷ 0x33 ∷ 0x34 ∷ 0x35 ∷ 0x36 ∷ 0x37 ∷ 0x38 ∷ 0x39 ∷ []

pub check_value : checksum_of digits ≡ 0x29B1
unfolding checksum_of continued_of along_bits divided
check_value = refl
