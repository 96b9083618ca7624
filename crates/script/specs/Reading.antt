-- The fields of a script line. Characters are their ASCII codes; a place past the end of a text counts as the character
-- 0, which is no digit. Assumes nothing: these are definitions.
use Rattle.std.specs.Prelude.{ℕ, zero, suc, ◌+◌, ◌*◌, ◌%◌, Option, Some, None, unwrap_or}
use mathlib.Core.{Bool.cond, List.List, List.[], List.◌∷◌}
use lib.{Dec.ltb, ListN.get_or, ListN.take, ListN.drop}
use Rattle.hexadecimal.specs.{Hex.digit_of, Hex.pair_of, Passes.worth}

-- the line in a buffer that was filled so far; one that was too long counts as empty
abbrev pub line_of : List ℕ → Option ℕ → List ℕ
line_of line filled = take (unwrap_or filled 0) line

-- what holds where a digit is one
abbrev pub where_one : {A : Type 0} → Option ℕ → A → A → A
where_one (Some d) a bad = a
where_one None a bad = bad

-- the number of k digits in front of a text, behind the digits of n; of more than eight digits the lowest eight count
unfoldable pub field_of : ℕ → ℕ → List ℕ → Option ℕ
field_of n zero text = Some n
field_of n (suc k) text = where_one (digit_of (get_or text 0 0)) (field_of (n % 268435456 * 16 + worth (digit_of (get_or text 0 0))) k (drop 1 text)) None

-- how many bytes a text spells behind k that it spelt, in a buffer of so much room: pairs of digits with nothing
-- between and nothing left over
unfoldable pub count_of : ℕ → ℕ → List ℕ → Option ℕ
count_of k room [] = Some k
count_of k room (a ∷ []) = None
count_of k room (a ∷ b ∷ rest) = where_one (pair_of a b) (cond (ltb k room) (count_of (k + 1) room rest) None) None

-- the bytes of the pairs before the first that is none
unfoldable pub sound : List ℕ → List ℕ
sound [] = []
sound (a ∷ []) = []
sound (a ∷ b ∷ rest) = where_one (pair_of a b) (worth (pair_of a b) ∷ sound rest) []

-- n words of two bytes, the upper first
unfoldable pub words_of : ℕ → List ℕ → List ℕ
words_of zero bytes = []
words_of (suc n) bytes = (get_or bytes 0 0 * 256 + get_or bytes 1 0) ∷ words_of n (drop 2 bytes)
