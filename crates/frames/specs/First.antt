-- What a frame is, said of every place and without a search: the laws in `Search` prove that the search of `Frames`
-- finds just this. Assumes nothing: these are definitions.
use Rattle.std.specs.Prelude.{ℕ, ◌+◌, ◌≤◌, ◌<◌, drop}
use mathlib.Core.{Path.◌≡◌, Bool.true, List.List}
use Rattle.frames.specs.Frames.{starts_with, opening_tag, closing_tag}

-- a tag stands at a place of s
unfoldable pub StandsAt : List ℕ → List ℕ → ℕ → Type 0
StandsAt tag s place = starts_with tag (drop place s) ≡ true

-- it stands there, and at no place from `from` on that comes before
pub record FirstFrom (tag s : List ℕ) (from place : ℕ) : Type 0 where
  pub after : from ≤ place
  pub here : StandsAt tag s place
  pub none_before : (m : ℕ) → from ≤ m → m < place → StandsAt tag s m → ⊥

-- the payload lies from start up to end: the first opening tag ends at start, the first closing tag after it begins at
-- end and ends at behind
pub record FrameAt (s : List ℕ) (start end behind : ℕ) : Type 0 where
  pub opening : ℕ
  pub opened : FirstFrom opening_tag s 0 opening
  pub begins : start ≡ opening + 5
  pub closed : FirstFrom closing_tag s start end
  pub ends : behind ≡ end + 6

-- a complete frame is there: an opening tag, and a closing tag behind its end
pub record Complete (s : List ℕ) : Type 0 where
  pub opening : ℕ
  pub closing : ℕ
  pub opened : StandsAt opening_tag s opening
  pub closed : StandsAt closing_tag s closing
  pub behind : opening + 5 ≤ closing
