-- What is passed stands as the words on the wire.
use mathlib.Core.Path.{◌≡◌}
use lib.ListN.{length, replicate}
use Rattle.readings.specs.Readings.{engineering_words}
use Rattle.readings.proofs.Filling.{Filled}
use Rattle.readings.proofs.apart.patterns.Given as goal

abbrev pub invariant-loop-i : goal.invariant-loop-i
invariant-loop-i l = (length l.readings ≡ 122) × Filled 122 (replicate 122 0) (engineering_words l.readings) l.word-items l.i
