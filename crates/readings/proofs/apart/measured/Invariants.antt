-- After i turns the first i words stand in the room as raw readings.
use mathlib.Core.Path.{◌≡◌}
use mathlib.Core.List.{map}
use lib.Seq.{paste}
use Rattle.readings.specs.Readings.{raw_of, none_measured}
use Rattle.readings.proofs.apart.measured.Given as goal

abbrev pub invariant-loop-i : goal.invariant-loop-i
invariant-loop-i l = l.raws ≡ paste none_measured 0 (map raw_of l.fn.words) l.i
