-- A set of channels is a number whose bit c says whether channel c is in it. The channels are 0 to 31, so a set is
-- below 2 ^ 32 and holds none above 31. Assumes nothing.
use Rattle.std.specs.Prelude.{ℕ, zero, suc, ◌+◌, ◌*◌, ◌/◌, ◌%◌, ◌^◌, eqb}
use mathlib.Core.{Bool.Bool, Bool.true, Bool.false, Bool.not, Bool.◌&&◌, Bool.◌||◌, List.List, List.[], List.◌∷◌}

-- channel c is in the set s: bit c of s is 1
unfoldable pub has : ℕ → ℕ → Bool
has s c = eqb (s / 2 ^ c % 2) 1

abbrev pub bit : Bool → ℕ
bit true = 1
bit false = 0

-- the set of those channels below n that p picks
unfoldable pub set_of : ℕ → (ℕ → Bool) → ℕ
set_of zero p = 0
set_of (suc n) p = bit (p n) * 2 ^ n + set_of n p

-- p holds of every channel below n
unfoldable pub all_below : ℕ → (ℕ → Bool) → Bool
all_below zero p = true
all_below (suc n) p = p n && all_below n p

-- every channel of inner is in outer: each channel is not in inner, or it is in outer
unfoldable pub is_within : ℕ → ℕ → Bool
is_within inner outer = all_below 32 (λ c. not (has inner c) || has outer c)

-- the channels of s, and channel c besides, where there is such a channel
unfoldable pub with_channel : ℕ → ℕ → ℕ
with_channel s c = set_of 32 (λ k. has s k || eqb k c)

-- the list f 0, f 1, .. of n numbers
unfoldable pub list_of : ℕ → (ℕ → ℕ) → List ℕ
list_of zero f = []
list_of (suc n) f = f 0 ∷ list_of n (λ k. f (suc k))
