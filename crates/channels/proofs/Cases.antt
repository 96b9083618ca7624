-- The laws by which a set that is computed says what it holds of one channel. Assumes nothing.
use mathlib.Core.Path.{◌≡◌}
use mathlib.Core.Bool.{not, and-true, and-false, or-true, or-false}
use Prim.Native.Nat.{ℕ, ◌-◌, ◌^◌, ◌%◌, ◌<◌}
use native.Mathlib.Nat.{mod-lt}
use lib.Bits as B
use lib.Bits.{bit_and, bit_or}
use lib.Pow.{ones_sub-lt, pow_pos}
use Rattle.channels.specs.Sets.{has}
use Rattle.channels.proofs.Sets.{has_and, has_or, has_not, has_none, and_below}

pub not_has : (a c : ℕ) → a < 2 ^ 32 → c < 32 → has ((2 ^ 32 - 1) - a) c ≡ not (has a c)
not_has = has_not 32

pub and_fits : (a b : ℕ) → a < 2 ^ 32 → bit_and a b < 2 ^ 32
and_fits = and_below 32

pub or_fits : (a b : ℕ) → a < 2 ^ 32 → b < 2 ^ 32 → bit_or a b < 2 ^ 32
or_fits = B.or_lt 32

pub not_fits : (a : ℕ) → (2 ^ 32 - 1) - a < 2 ^ 32
not_fits = ones_sub-lt 32

pub shifted_fits : (x : ℕ) → x % 2 ^ 32 < 2 ^ 32
shifted_fits x = mod-lt x (pow_pos 32)

-- which channels a computed set holds
pub ruleset holds = (has_and, has_or, not_has, has_none, and-true, and-false, or-true, or-false)

-- a computed set is a set of 32 channels
pub ruleset fits = (and_fits, or_fits, not_fits, shifted_fits)
