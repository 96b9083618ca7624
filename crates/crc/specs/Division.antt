-- The checksum of document 01: what is left of the bytes, high bit first and times x^16, on division by x^16 + x^12 +
-- x^5 + 1, from a start of 0xFFFF. A polynomial over the two-element field is a number: the coefficient of x^k is its
-- binary digit k. There a sum and a difference are both `bit_xor`. Assumes nothing: these are definitions.
use Rattle.std.specs.Prelude.{ℕ, ◌+◌, ◌*◌, ◌/◌, ◌%◌, ◌^◌}
use mathlib.Core.{Bool.cond, List.List, List.[], List.◌∷◌}
use lib.{Bits.bit_xor, Dec.leb}

-- x^16 + x^12 + x^5 + 1
abbrev pub polynomial : ℕ
polynomial = 2 ^ 16 + 2 ^ 12 + 2 ^ 5 + 1

-- a remainder times x, and the message's next bit, which for the factor x^16 stands there
abbrev pub raised : ℕ → ℕ → ℕ
raised left bit = bit_xor (left * 2) (bit * 2 ^ 16)

-- what division leaves of a polynomial below x^17: where x^16 is in it, the divisor is taken off once
abbrev pub reduced : ℕ → ℕ
reduced p = cond (leb (2 ^ 16) p) (bit_xor p polynomial) p

-- the remainder once one bit more of the message was divided
unfoldable pub divided : ℕ → ℕ → ℕ
divided left bit = reduced (raised left bit)

-- a byte's bits, the high one first
abbrev pub bits_of : ℕ → List ℕ
bits_of b = b / 128 % 2 ∷ b / 64 % 2 ∷ b / 32 % 2 ∷ b / 16 % 2 ∷ b / 8 % 2 ∷ b / 4 % 2 ∷ b / 2 % 2 ∷ b % 2 ∷ []

-- bit after bit
unfoldable pub along_bits : ℕ → List ℕ → ℕ
along_bits left [] = left
along_bits left (bit ∷ bits) = along_bits (divided left bit) bits

-- byte after byte, from the remainder of what came before
unfoldable pub continued_of : ℕ → List ℕ → ℕ
continued_of left [] = left
continued_of left (b ∷ bytes) = continued_of (along_bits left (bits_of b)) bytes

-- the checksum of bytes: start 0xFFFF, no final change
unfoldable pub checksum_of : List ℕ → ℕ
checksum_of bytes = continued_of 0xFFFF bytes
