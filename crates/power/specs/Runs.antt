-- Runs of any machine, and what is said of a channel over a run. Nothing here knows what the machine does. Assumes
-- nothing: these are definitions.
use mathlib.Core.{Path.◌≡◌, Bool.Bool, Bool.true, Bool.false, Bool.cond, List.List, List.[], List.◌∷◌, List.◌++◌}
use Rattle.std.specs.Prelude.{ℕ, ◌≤◌, length, take, replicate}

-- `call` is what the machine does with an input, `is_tick` says which inputs are ticks, and `on` whether the channel is
-- on
module _ {S I : Type 0} (call : S → I → S) (is_tick : I → Bool) (on : S → Bool) where
  -- the channel at the end of each tick of a run from s
  abbrev pub ends : S → List I → List Bool
  ends s [] = []
  ends s (i ∷ is) =
      let after = call s i in
      let rest = ends after is in
      cond (is_tick i) (on after ∷ rest) rest

  -- the same, with the channel before the run in front
  abbrev pub channel : S → List I → List Bool
  channel s is = on s ∷ ends s is

-- each input of the run is allowed in the state that it meets
module _ {S I : Type 0} (call : S → I → S) (Allowed : S → I → Type 0) where
  abbrev pub Stretch : S → List I → Type 0
  Stretch s [] = Unit {0}
  Stretch s (i ∷ is) = Allowed s i × Stretch (call s i) is

-- P holds of each element
module _ {A : Type 0} where
  abbrev pub All : (A → Type 0) → List A → Type 0
  All P [] = Unit {0}
  All P (x ∷ xs) = P x × All P xs

abbrev pub Off : Bool → Type 0
Off b = b ≡ false

abbrev pub On : Bool → Type 0
On b = b ≡ true

-- off for at most n ticks in a row: no part of the list that is off throughout is longer than n
pub record OffAtMost (n : ℕ) (channel : List Bool) : Type 0 where
  pub shown : (before during after : List Bool) → channel ≡ before ++ during ++ after → All Off during → length during ≤ n

-- on for at least n ticks each time that it comes on, or to the end of the run: where an on follows an off, the list is
-- on for n places from there, or for all that are left
pub record OnAtLeast (n : ℕ) (channel : List Bool) : Type 0 where
  pub shown : (before since : List Bool) → channel ≡ before ++ false ∷ true ∷ since → All On (take n (true ∷ since))

-- off for a places, on for b, off for c, on for d, and off again
unfoldable pub turns : ℕ → ℕ → ℕ → ℕ → List Bool
turns a b c d = replicate a false ++ (replicate b true ++ (replicate c false ++ (replicate d true ++ (false ∷ []))))
