-- What a text says from a place on. A text is a list of bytes; a parser takes a text and a place in it, and gives what
-- it reads there with the place behind it, or fails. Assumes nothing: these are definitions.
use Rattle.std.specs.Prelude.{ℕ, zero, suc, ◌+◌, ◌-◌}
use mathlib.Core.{Bool.cond, Option.Option, Option.none, Option.some, List.List, List.[], List.◌∷◌}
use lib.{Dec.eqb, ListN.length, ListN.get_or, ListN.take, ListN.drop}

infixl 20 ◌>>=◌ ◌>>◌
infixr 10 ◌<|>◌
pub data Read (A : Type 0) : Type 0 where
  fails : Read A
  reads : A → ℕ → Read A

abbrev pub Parser : Type 0 → Type 0
Parser A = List ℕ → ℕ → Read A

-- ---- putting parsers together

-- go on with what was read, from the place behind it
abbrev pub on : {A B : Type 0} → Read A → (A → ℕ → Read B) → Read B
on fails k = fails
on (reads a j) k = k a j

abbrev pub ◌>>=◌ : {A B : Type 0} → Parser A → (A → Parser B) → Parser B
◌>>=◌ p f s i = on (p s i) (λ a j. f a s j)

abbrev pub ◌>>◌ : {A B : Type 0} → Parser A → Parser B → Parser B
◌>>◌ p q s i = on (p s i) (λ a j. q s j)

abbrev pub pure : {A : Type 0} → A → Parser A
pure a s i = reads a i

-- the second from the same place where the first fails
abbrev pub either : {A : Type 0} → Read A → Read A → Read A
either fails r = r
either (reads a j) r = reads a j

abbrev pub ◌<|>◌ : {A : Type 0} → Parser A → Parser A → Parser A
◌<|>◌ p q s i = either (p s i) (q s i)

-- n times over
unfoldable pub times : {A : Type 0} → ℕ → Parser A → Parser (List A)
times zero p = pure []
times (suc n) p = do
  a ← p
  rest ← times n p
  pure (a ∷ rest)

-- ---- bytes

-- the byte at a place; past the end 256, which no byte is
unfoldable pub peek_at : List ℕ → ℕ → ℕ
peek_at s i = get_or s i 256

unfoldable pub byte : ℕ → Parser (Unit {0})
byte b s i = cond (eqb (peek_at s i) b) (reads tt (i + 1)) fails

-- nothing comes any more
unfoldable pub end : Parser (Unit {0})
end s i = cond (eqb i (length s)) (reads tt i) fails

-- these bytes, one after the other
unfoldable pub text : List ℕ → Parser (Unit {0})
text [] = pure tt
text (b ∷ bs) = byte b >> text bs

-- the first place at which b stands in s, where s itself begins at place i
unfoldable pub first_from : ℕ → ℕ → List ℕ → Option ℕ
first_from b i [] = none
first_from b i (x ∷ s) = cond (eqb x b) (some i) (first_from b (i + 1) s)

-- the bytes of s from i up to a place, where there is one
abbrev pub part_to : List ℕ → ℕ → Option ℕ → Read (List ℕ)
part_to s i none = fails
part_to s i (some place) = reads (take (place - i) (drop i s)) place

-- all bytes in front of the first b, which itself is not read; without a b there is no such part
unfoldable pub up_to : ℕ → Parser (List ℕ)
up_to b s i = part_to s i (first_from b i (drop i s))
