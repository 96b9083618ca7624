-- One turn of a loop is one step of a definition. Assumes nothing.
use Rattle.std.proofs.Common.{◌≡◌, ℕ, ◌+◌, ◌-◌, ◌*◌, ◌%◌, ◌<◌, List, length, get_or, drop, cond, ltb, add-one, drop-cons}
use Rattle.std.specs.Prelude.{None}
use Rattle.pattern.specs.Line.{number_of}

-- the digits of a number
pub number_step : (n : ℕ) (s : List ℕ) (i : ℕ) → i < length s → number_of n (drop i s) ≡ cond (ltb (get_or s i 0) 48) None (cond (ltb 57 (get_or s i 0)) None (number_of (n % 100000000 * 10 + (get_or s i 0 - 48)) (drop (i + 1) s)))
unfolding number_of
number_step n s i h = rw (add-one, drop-cons s i 0)
