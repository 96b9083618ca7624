-- What the two passes over a payload answer: the first tells whether it is of the form and how many bytes it spells,
-- the second stores what its pairs are worth. Assumes nothing: these are definitions.
use Rattle.std.specs.Prelude.{ℕ, ◌+◌, length, Option, Some, None, List, [], ◌∷◌}
use Rattle.hexadecimal.specs.{Hex.pair_of}

-- how many pairs, after k of them
abbrev pub form_of : ℕ → Option (List ℕ) → Option ℕ
form_of k None = None
form_of k (Some bytes) = Some (k + length bytes)

abbrev pub worth : Option ℕ → ℕ
worth (Some v) = v
worth None = 0

-- what the pairs of a text are worth, whether or not it is of the form
unfoldable pub values : List ℕ → List ℕ
values [] = []
values (a ∷ []) = []
values (a ∷ b ∷ []) = worth (pair_of a b) ∷ []
values (a ∷ b ∷ c ∷ rest) = worth (pair_of a b) ∷ values rest
