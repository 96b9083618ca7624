-- The counts alone, for the two private functions that `overcurrent` is made of: no contract outside this crate cites
-- anything here. Assumes nothing.
use mathlib.Core.{Bool.Bool, List.List}
use Rattle.std.specs.Prelude.{ℕ, ◌+◌, if◌then◌else◌, min, get_or}
use Rattle.channels.specs.{Sets.has, Sets.list_of}

-- a count, after its channel tripped or did not
abbrev pub count_one : Bool → ℕ → ℕ
count_one trips count = if trips then min (count + 1) 65535 else count

-- the 32 counts, after the channels in `tripping` tripped
unfoldable pub count_all : ℕ → List ℕ → List ℕ
count_all tripping counts = list_of 32 (λ c. count_one (has tripping c) (get_or counts c 0))
