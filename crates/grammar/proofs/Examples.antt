-- Numbers of the session sheet, computed. Characters are their ASCII codes. Assumes nothing.
use mathlib.Core.Path.{◌≡◌, refl}
use mathlib.Core.List.{[], ◌∷◌}
use lib.IntN.{pos, negsuc}
use Rattle.hexadecimal.specs.Hex.{between}
use Rattle.grammar.specs.Grammar.{fails, reads, peek_at, byte, text, first_from, up_to}
use Rattle.grammar.specs.Numbers.{digits, spells, number, signed, hex_digit, word}

-- ---- decimal, at most 4096

-- 0
zero_alone : number 4096 (48 ∷ []) 0 ≡ reads 0 1
unfolding between digits spells number
zero_alone = refl

-- 7 behind a space, with a space behind it
one_digit : number 4096 (32 ∷ 55 ∷ 32 ∷ []) 1 ≡ reads 7 2
unfolding between digits spells number
one_digit = refl

-- 4096
the_limit : number 4096 (52 ∷ 48 ∷ 57 ∷ 54 ∷ []) 0 ≡ reads 4096 4
unfolding between digits spells number
the_limit = refl

-- 4097
past_the_limit : number 4096 (52 ∷ 48 ∷ 57 ∷ 55 ∷ []) 0 ≡ fails
unfolding between digits spells number
past_the_limit = refl

-- 01
leading_zero : number 4096 (48 ∷ 49 ∷ []) 0 ≡ fails
unfolding between digits spells number
leading_zero = refl

-- x, and past the end
no_digit : number 4096 (120 ∷ []) 0 ≡ fails
unfolding between digits spells number
no_digit = refl

past_the_end : number 4096 (49 ∷ []) 5 ≡ fails
unfolding between digits spells number
past_the_end = refl

-- ---- with a sign

-- -20
below_zero : signed (45 ∷ 50 ∷ 48 ∷ []) 0 ≡ reads (negsuc 19) 3
unfolding between peek_at byte digits spells number signed
below_zero = refl

-- -0
minus_zero : signed (45 ∷ 48 ∷ []) 0 ≡ fails
unfolding between peek_at byte digits spells number signed
minus_zero = refl

-- +1
with_a_plus : signed (43 ∷ 49 ∷ []) 0 ≡ fails
unfolding between peek_at byte digits spells number signed
with_a_plus = refl

-- -32768
lowest : signed (45 ∷ 51 ∷ 50 ∷ 55 ∷ 54 ∷ 56 ∷ []) 0 ≡ reads (negsuc 32767) 6
unfolding between peek_at byte digits spells number signed
lowest = refl

-- -32769
too_low : signed (45 ∷ 51 ∷ 50 ∷ 55 ∷ 54 ∷ 57 ∷ []) 0 ≡ fails
unfolding between peek_at byte digits spells number signed
too_low = refl

-- 32767
highest : signed (51 ∷ 50 ∷ 55 ∷ 54 ∷ 55 ∷ []) 0 ≡ reads (pos 32767) 5
unfolding between peek_at byte digits spells number signed
highest = refl

-- 32768
too_high : signed (51 ∷ 50 ∷ 55 ∷ 54 ∷ 56 ∷ []) 0 ≡ fails
unfolding between peek_at byte digits spells number signed
too_high = refl

-- ---- hex

-- DEADbeef
both_cases : word 8 0 (68 ∷ 69 ∷ 65 ∷ 68 ∷ 98 ∷ 101 ∷ 101 ∷ 102 ∷ []) 0 ≡ reads 3735928559 8
unfolding between peek_at hex_digit word
both_cases = refl

-- seven digits
too_few : word 8 0 (48 ∷ 48 ∷ 48 ∷ 48 ∷ 48 ∷ 48 ∷ 48 ∷ 10 ∷ []) 0 ≡ fails
unfolding between peek_at hex_digit word
too_few = refl

-- ---- bytes

-- for
a_literal : text (102 ∷ 111 ∷ 114 ∷ []) (10 ∷ 102 ∷ 111 ∷ 114 ∷ 32 ∷ []) 1 ≡ reads tt 4
unfolding peek_at byte text
a_literal = refl

-- what stands before the next line feed
a_line : up_to 10 (45 ∷ 10 ∷ 49 ∷ 49 ∷ 10 ∷ 10 ∷ []) 2 ≡ reads (49 ∷ 49 ∷ []) 4
unfolding first_from up_to
a_line = refl

-- an empty one
an_empty_line : up_to 10 (45 ∷ 10 ∷ []) 1 ≡ reads [] 1
unfolding first_from up_to
an_empty_line = refl

-- and one that does not end
no_line : up_to 10 (45 ∷ 45 ∷ []) 0 ≡ fails
unfolding first_from up_to
no_line = refl
