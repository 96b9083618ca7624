-- Document 01's number for the answer of a scan, and when it is given. 0 stands for an answer that is no refusal.
-- Assumes nothing: these are definitions.
use Rattle.std.specs.Prelude.{ℕ, Bool, false, cond, ◌&&◌, ◌||◌, List, [], ◌∷◌, drop, Option, Some, None}
use Rattle.frames.specs.{Frames.starts_with, Frames.opening_tag, Frames.closing_tag, declared.Frame.Frame}

-- a scan that finds nothing
abbrev pub frame_number : Option Frame → ℕ
frame_number (Some frame) = 0
frame_number None = 10

-- ---- when it is given

-- a tag stands somewhere
unfoldable pub holds : List ℕ → List ℕ → Bool
holds tag [] = starts_with tag []
holds tag (x ∷ s) = starts_with tag (x ∷ s) || holds tag s

-- a complete frame is there: behind an opening tag, which has 5 characters, a closing tag stands
unfoldable pub has_frame : List ℕ → Bool
has_frame [] = false
has_frame (x ∷ s) = starts_with opening_tag (x ∷ s) && holds closing_tag (drop 5 (x ∷ s)) || has_frame s

-- 10 where no complete frame is there
abbrev pub scan_number : List ℕ → ℕ
scan_number s = cond (has_frame s) 0 10
