-- Document 01's number for each answer of this crate; 0 is no refusal. Assumes nothing: these are definitions.
use Rattle.std.specs.Prelude.{ℕ, Bool, true, false, cond, not, ◌&&◌, List, [], ◌∷◌, Option, Some, None, Result, Ok, Err, is_some}
use lib.{Dec.eqb, Dec.ltb, ListN.length}
use Rattle.hexadecimal.specs.{Hex.digit_of, Hex.payload_of, declared.PayloadRefusal.PayloadRefusal, declared.WriteRefusal.WriteRefusal}
use Rattle.hexadecimal.specs.declared.PayloadRefusal.TheVariants.{NotOfForm, TooShort}
use Rattle.hexadecimal.specs.declared.WriteRefusal.TheVariants.{NoRoom}

-- an ASCII payload that is not of the form is 12, a scratch buffer too short for its bytes 13
abbrev pub read_number : Result ℕ PayloadRefusal → ℕ
read_number (Ok n) = 0
read_number (Err NotOfForm) = 12
read_number (Err TooShort) = 13

-- an output too short for what is written is 13
abbrev pub write_number : Result ℕ WriteRefusal → ℕ
write_number (Ok n) = 0
write_number (Err NoRoom) = 13

-- eight digits stand only in the session sheet, which is refused with 14 where they are none
abbrev pub word_number : Option ℕ → ℕ
word_number (Some x) = 0
word_number None = 14

-- ---- when each number is given

-- 13 where there is less room than is needed
abbrev pub short_number : ℕ → ℕ → ℕ
short_number needed room = cond (ltb room needed) 13 0

-- a hex digit, of either case
abbrev pub is_digit : ℕ → Bool
is_digit x = is_some (digit_of x)

-- one or more pairs of hex digits, one space (32) between pairs and none elsewhere
unfoldable pub is_of_form : List ℕ → Bool
is_of_form [] = false
is_of_form (a ∷ []) = false
is_of_form (a ∷ b ∷ []) = is_digit a && is_digit b
is_of_form (a ∷ b ∷ c ∷ text) = is_digit a && is_digit b && eqb c 32 && is_of_form text

-- how many bytes are read of what a text spells
abbrev pub bytes_in : Option (List ℕ) → ℕ
bytes_in None = 0
bytes_in (Some bytes) = length bytes

-- 12 where a payload is not of the form, and then 13 where the room is too short for the bytes read
unfoldable pub payload_number : List ℕ → ℕ → ℕ
payload_number text room =
    cond (not (is_of_form text)) 12
    (short_number (bytes_in (payload_of text)) room)

-- hex digits and nothing else
unfoldable pub are_digits : List ℕ → Bool
are_digits [] = true
are_digits (x ∷ text) = is_digit x && are_digits text

-- eight of them
unfoldable pub is_eight_digits : List ℕ → Bool
is_eight_digits text = eqb (length text) 8 && are_digits text
