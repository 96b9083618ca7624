-- The numbers of a text: decimal ones, with and without a sign, and hex ones. Assumes nothing: these are definitions.
use Rattle.std.specs.Prelude.{ℕ, zero, suc, ◌+◌, ◌-◌, ◌*◌, Option, Some, None}
use mathlib.Core.{Bool.Bool, Bool.true, Bool.false, Bool.cond, Bool.not, List.List, List.[], List.◌∷◌}
use lib.{Dec.eqb, Dec.leb, IntN.ℤ, IntN.pos, IntN.negsuc, ListN.length, ListN.drop}
use Rattle.hexadecimal.specs.{Hex.between, Hex.digit_of}
use Rattle.grammar.specs.Grammar.{Read, fails, reads, Parser, ◌>>=◌, ◌>>◌, pure, ◌<|>◌, peek_at, byte}

-- ---- decimal

-- what the digits in front of a text are worth, 0 to 9 (48 to 57)
unfoldable pub digits : List ℕ → List ℕ
digits [] = []
digits (x ∷ s) = cond (between 48 57 x) ((x - 48) ∷ digits s) []

-- the number that digits spell behind v
unfoldable pub spells : ℕ → List ℕ → ℕ
spells v [] = v
spells v (d ∷ ds) = spells (v * 10 + d) ds

-- there is a digit, and no 0 in front of another one
abbrev pub plain : List ℕ → Bool
plain [] = false
plain (d ∷ []) = true
plain (d ∷ e ∷ ds) = not (eqb d 0)

-- the number of digits that stand at i
abbrev pub within : ℕ → ℕ → List ℕ → Read ℕ
within limit i ds = cond (plain ds) (cond (leb (spells 0 ds) limit) (reads (spells 0 ds) (i + length ds)) fails) fails

-- all digits that stand here: a number of at most limit, without leading zeros
unfoldable pub number : ℕ → Parser ℕ
number limit s i = within limit i (digits (drop i s))

-- ---- with a sign

-- -0 is no number
abbrev pub negative : ℕ → Parser ℤ
negative zero s i = fails
negative (suc n) s i = reads (negsuc n) i

-- -32768 to 32767, with a - (45) if below 0
unfoldable pub signed : Parser ℤ
signed = (byte 45 >> number 32768 >>= negative) <|> (number 32767 >>= λ v. pure (pos v))

-- ---- hex

abbrev pub value_at : ℕ → Option ℕ → Read ℕ
value_at i (Some d) = reads d (i + 1)
value_at i None = fails

-- one digit of either case
unfoldable pub hex_digit : Parser ℕ
hex_digit s i = value_at i (digit_of (peek_at s i))

-- n digits, behind those that spelt v
unfoldable pub word : ℕ → ℕ → Parser ℕ
word zero v = pure v
word (suc n) v = do
  d ← hex_digit
  word n (v * 16 + d)

-- ---- one decimal digit, as the code asks for it

-- what the digit at a place is worth; 10 where none stands
unfoldable pub digit_at : List ℕ → ℕ → ℕ
digit_at s i = cond (between 48 57 (peek_at s i)) (peek_at s i - 48) 10
