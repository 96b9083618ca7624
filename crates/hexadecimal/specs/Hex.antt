-- Bytes as text: pairs of hex digits. Characters are their ASCII codes; a text and a buffer are lists of bytes.
-- Assumes nothing: these are definitions.
use Rattle.std.specs.Prelude.{ℕ, ◌+◌, ◌-◌, ◌*◌, ◌/◌, ◌%◌, List, [], ◌∷◌, ◌++◌, Option, Some, None, Result, Ok, Err}
use mathlib.Core.{Bool.Bool, Bool.cond, Bool.◌&&◌}
use lib.{Dec.eqb, Dec.leb, Dec.ltb, ListN.length, ListN.drop, ListN.get_or}
use Rattle.hexadecimal.specs.{declared.PayloadRefusal.PayloadRefusal, declared.WriteRefusal.WriteRefusal}
use Rattle.hexadecimal.specs.declared.PayloadRefusal.TheVariants.{NotOfForm, TooShort}
use Rattle.hexadecimal.specs.declared.WriteRefusal.TheVariants.{NoRoom}

-- ---- reading

-- lo ≤ x ≤ hi
unfoldable pub between : ℕ → ℕ → ℕ → Bool
between lo hi x = leb lo x && leb x hi

-- a digit of either case: 0 to 9 (48 to 57), A to F (65 to 70) or a to f (97 to 102)
abbrev pub digit_of : ℕ → Option ℕ
digit_of x =
    cond (between 48 57 x) (Some (x - 48))
    (cond (between 65 70 x) (Some (x - 55))
    (cond (between 97 102 x) (Some (x - 87)) None))

abbrev pub joined : Option ℕ → Option ℕ → Option ℕ
joined (Some h) (Some l) = Some (h * 16 + l)
joined (Some h) None = None
joined None l = None

-- a pair of digits, the upper first
unfoldable pub pair_of : ℕ → ℕ → Option ℕ
pair_of a b = joined (digit_of a) (digit_of b)

-- a pair in front of the bytes of the pairs behind it
abbrev pub led : Option ℕ → Option (List ℕ) → Option (List ℕ)
led (Some v) None = None
led (Some v) (Some vs) = Some (v ∷ vs)
led None o = None

-- pairs, at least one, and a space (32) between each and the next: the bytes that they spell; none where a text is not
-- of this form
unfoldable pub payload_of : List ℕ → Option (List ℕ)
payload_of [] = None
payload_of (a ∷ []) = None
payload_of (a ∷ b ∷ []) = led (pair_of a b) (Some [])
payload_of (a ∷ b ∷ c ∷ rest) = led (pair_of a b) (cond (eqb c 32) (payload_of rest) None)

-- what a read answers where the buffer has that much room
abbrev pub read_of : Option (List ℕ) → ℕ → Result ℕ PayloadRefusal
read_of None room = Err NotOfForm
read_of (Some bytes) room = cond (leb (length bytes) room) (Ok (length bytes)) (Err TooShort)

-- what a buffer holds once bytes were laid at its front: those behind them stay; with no room for all of them it keeps
-- what it held
abbrev pub laid : List ℕ → List ℕ → List ℕ
laid bytes held = cond (leb (length bytes) (length held)) (bytes ++ drop (length bytes) held) held

abbrev pub held_after : Option (List ℕ) → List ℕ → List ℕ
held_after None held = held
held_after (Some bytes) held = laid bytes held

-- ---- writing

-- 0 to 9, A to F
abbrev pub capital_of : ℕ → ℕ
capital_of v = cond (ltb v 10) (v + 48) (v + 55)

-- a byte's two digits
abbrev pub digits_of : ℕ → List ℕ
digits_of b = capital_of (b / 16) ∷ capital_of (b % 16) ∷ []

-- each byte's digits, a space before each
unfoldable pub spaced : List ℕ → List ℕ
spaced [] = []
spaced (b ∷ bytes) = 32 ∷ digits_of b ++ spaced bytes

-- the bytes' digits in capitals, pairs with one space between
unfoldable pub text_of : List ℕ → List ℕ
text_of [] = []
text_of (b ∷ bytes) = digits_of b ++ spaced bytes

-- what a write answers where the buffer has that much room
abbrev pub written_of : List ℕ → ℕ → Result ℕ WriteRefusal
written_of text room = cond (leb (length text) room) (Ok (length text)) (Err NoRoom)

-- ---- a 32-bit number as eight digits, the uppermost first

abbrev pub four_pairs : Option ℕ → Option ℕ → Option ℕ → Option ℕ → Option ℕ
four_pairs None b c d = None
four_pairs (Some a) None c d = None
four_pairs (Some a) (Some b) None d = None
four_pairs (Some a) (Some b) (Some c) None = None
four_pairs (Some a) (Some b) (Some c) (Some d) = Some (((a * 256 + b) * 256 + c) * 256 + d)

unfoldable pub word_of : List ℕ → Option ℕ
word_of s =
    cond (eqb (length s) 8)
    (four_pairs
    (pair_of (get_or s 0 0) (get_or s 1 0))
    (pair_of (get_or s 2 0) (get_or s 3 0))
    (pair_of (get_or s 4 0) (get_or s 5 0))
    (pair_of (get_or s 6 0) (get_or s 7 0)))
    None

unfoldable pub word_text : ℕ → List ℕ
word_text x = digits_of (x / 16777216 % 256) ++ digits_of (x / 65536 % 256) ++ digits_of (x / 256 % 256) ++ digits_of (x % 256)
