-- The whole number nearest to an exact fraction n / d, halves away from zero, and what an int16 holds of it. `pos n` is
-- the integer n and `negsuc n` is -1 - n, `nat_abs z` is z without its sign, `a / b` the whole part of a quotient. A
-- distance from n / d is told times d, and a half is told as d of twice that, so that all numbers are whole. Assumes
-- nothing: these are definitions.
use Rattle.std.specs.Prelude.{ℕ, suc, ◌+◌, ◌*◌, ◌/◌, ◌≤◌, min, ◌≡◌, ℤ, pos, negsuc, neg_ℤ, nat_abs, ◌-ℤ◌, ◌*ℤ◌}

-- how far q lies from n / d, times d
abbrev pub distance : ℤ → ℤ → ℕ → ℕ
distance q n d = nat_abs (q *ℤ pos d -ℤ n)

-- q is the nearest one: it lies at most half a unit from n / d, and where it lies a whole half from it, it is the one
-- of the two that is farther from zero
pub record Nearest (n : ℤ) (d : ℕ) (q : ℤ) : Type 0 where
  pub close : 2 * distance q n d ≤ d
  pub away : 2 * distance q n d ≡ d → nat_abs n ≤ nat_abs (q *ℤ pos d)

-- the nearest one of a number that is not negative: the whole part of what is half a unit more
abbrev pub up : ℕ → ℕ → ℕ
up n d = (2 * n + d) / (2 * d)

-- and of any number: its sign makes no difference to how far it goes
unfoldable pub nearest : ℤ → ℕ → ℤ
nearest (pos n) d = pos (up n d)
nearest (negsuc n) d = neg_ℤ (pos (up (suc n) d))

-- held to the ends of int16, -32768 and 32767
unfoldable pub held : ℤ → ℤ
held (pos n) = pos (min n 32767)
held (negsuc n) = negsuc (min n 32767)
