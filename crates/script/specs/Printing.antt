-- How a line is printed. A page is a buffer and the place behind what was put there; characters are their ASCII codes.
-- A legend for the signs: [] is no character, c ∷ cs the character c and then cs, xs ++ ys is xs and then ys.
-- Assumes nothing: these are definitions.
use Rattle.std.specs.Prelude.{ℕ, zero, suc, ◌+◌, ◌/◌, ◌%◌}
use mathlib.Core.{Bool.cond, List.List, List.[], List.◌∷◌, List.◌++◌}
use lib.{Dec.ltb, ListN.length, ListN.set}
use Rattle.hexadecimal.specs.Hex.{capital_of}

pub data Page : Type 0 where
  page : List ℕ → ℕ → Page

-- one character more; a full buffer takes none
unfoldable pub and : Page → ℕ → Page
and (page held at) c = cond (ltb at (length held)) (page (set held at c) (at + 1)) (page held at)

-- a text more
unfoldable pub typed : Page → List ℕ → Page
typed p [] = p
typed p (c ∷ cs) = typed (and p c) cs

-- ---- numbers: hexadecimal, in capitals, the uppermost digit first

-- a number without its lowest k digits
unfoldable pub over : ℕ → ℕ → ℕ
over zero n = n
over (suc k) n = over k (n / 16)

-- its lowest k digits
unfoldable pub digits_of : ℕ → ℕ → List ℕ
digits_of zero n = []
digits_of (suc k) n = capital_of (over k n % 16) ∷ digits_of k n

-- a space and a number of k digits
abbrev pub field_of : ℕ → ℕ → List ℕ
field_of k n = 32 ∷ digits_of k n

-- numbers of k digits each, with nothing between them
unfoldable pub row : ℕ → List ℕ → List ℕ
row k [] = []
row k (n ∷ ns) = digits_of k n ++ row k ns

-- bytes are pairs of digits, and `-` (45) where there are none
unfoldable pub hex_of : List ℕ → List ℕ
hex_of [] = 45 ∷ []
hex_of (b ∷ bs) = row 2 (b ∷ bs)
