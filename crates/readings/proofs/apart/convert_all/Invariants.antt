-- What is passed stands in the units of its fields.
use mathlib.Core.Path.{◌≡◌}
use lib.IntN.{pos}
use lib.ListN.{length, replicate}
use Rattle.readings.specs.Layout.{layout, converted_by}
use Rattle.readings.proofs.Filling.{Filled}
use Rattle.readings.proofs.apart.convert_all.Given as goal

abbrev pub invariant-loop-i : goal.invariant-loop-i
invariant-loop-i l = (length l.raws ≡ 130) × Filled 122 (replicate 122 (record { 0 = pos 0 })) (converted_by layout l.raws) l.reading-items l.i
