-- Where a tag first stands, and the frame in what was received. Characters are their ASCII codes. Assumes nothing:
-- these are definitions.
use Rattle.std.specs.Prelude.{ℕ, ◌+◌, ◌≤◌, List, [], ◌∷◌, Option, Some, None}
use mathlib.Core.{Bool.Bool, Bool.true, Bool.false, Bool.cond, Bool.◌&&◌}
use lib.{Dec.eqb, ListN.drop}
use Rattle.frames.specs.{declared.Place.Place, declared.Frame.Frame}

-- <cmd>
abbrev pub opening_tag : List ℕ
opening_tag = 60 ∷ 99 ∷ 109 ∷ 100 ∷ 62 ∷ []

-- </cmd>
abbrev pub closing_tag : List ℕ
closing_tag = 60 ∷ 47 ∷ 99 ∷ 109 ∷ 100 ∷ 62 ∷ []

-- a tag stands at the front of s
unfoldable pub starts_with : List ℕ → List ℕ → Bool
starts_with [] s = true
starts_with (t ∷ tag) [] = false
starts_with (t ∷ tag) (x ∷ s) = eqb x t && starts_with tag s

-- the first place at which a tag stands in s, where s itself begins at place i
unfoldable pub first_at : List ℕ → ℕ → List ℕ → Option ℕ
unfolding starts_with
first_at tag i [] = cond (starts_with tag []) (Some i) None
first_at tag i (x ∷ s) = cond (starts_with tag (x ∷ s)) (Some i) (first_at tag (i + 1) s)

-- from the opening tag's end, all up to the first closing tag after it; the place behind that tag is told
abbrev pub lying : ℕ → ℕ → ℕ → Frame
lying start end behind = record { start = start; end = end; behind = behind }

abbrev pub found : ℕ → ℕ → ℕ → Option Frame
found start end behind = Some (lying start end behind)

abbrev pub closed_at : ℕ → Option ℕ → Option Frame
closed_at start None = None
closed_at start (Some end) = found start end (end + 6)

abbrev pub opened_at : List ℕ → Option ℕ → Option Frame
opened_at s None = None
opened_at s (Some i) = closed_at (i + 5) (first_at closing_tag (i + 5) (drop (i + 5) s))

-- the frame: the first opening tag, and the first closing tag after it
unfoldable pub frame_of : List ℕ → Option Frame
unfolding first_at
frame_of s = opened_at s (first_at opening_tag 0 s)

-- ---- what a search for one tag of n bytes answers, and where its answers lie

abbrev pub stands : ℕ → ℕ → Option Place
stands start behind = Some (record { start = start; behind = behind })

abbrev pub place_of : ℕ → Option ℕ → Option Place
place_of n None = None
place_of n (Some i) = stands i (i + n)

-- between from and n
abbrev pub Sits : Option Place → ℕ → ℕ → Type 0
Sits None from n = Unit {0}
Sits (Some place) from n = (from ≤ place.start) × (place.start ≤ place.behind) × (place.behind ≤ n)

-- within n bytes
abbrev pub Inside : Option Frame → ℕ → Type 0
Inside None n = Unit {0}
Inside (Some frame) n = (frame.start ≤ frame.end) × (frame.end ≤ frame.behind) × (frame.behind ≤ n)
