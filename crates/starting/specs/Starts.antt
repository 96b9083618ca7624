-- What a start is given, and what comes of it. Characters are their ASCII codes: 10 ends a line. Assumes nothing: these
-- are definitions.
use Rattle.std.specs.Prelude.{ℕ, Option, Some, None, Ok, Err}
use mathlib.Core.{List.List, List.[], List.◌∷◌}
use Rattle.image.specs.Image.{settings_of}
use Rattle.memory.specs.Memory.{Store}
use Rattle.state.specs.Start.{StartAnswer}
use Rattle.state.specs.declared.starting.StartRefusal.{StartRefusal}

-- settings stored under a save count, or nothing
abbrev pub store_of : Option ℕ → List ℕ → Store
store_of (Some count) image = Some (record { settings = settings_of image; save_count = count })
store_of None image = None

-- ok; refused 8
abbrev pub ok_text : List ℕ
ok_text = 111 ∷ 107 ∷ 10 ∷ []

abbrev pub refused_text : List ℕ
refused_text = 114 ∷ 101 ∷ 102 ∷ 117 ∷ 115 ∷ 101 ∷ 100 ∷ 32 ∷ 56 ∷ 10 ∷ []

abbrev pub start_text : StartAnswer → List ℕ
start_text (Ok done) = ok_text
start_text (Err StartRefusal.ProfileBreaksARule) = refused_text
