-- What is passed stands as the words that were measured.
use mathlib.Core.Path.{◌≡◌}
use lib.ListN.{length, replicate}
use Rattle.readings.specs.Readings.{raw_words}
use Rattle.readings.proofs.Filling.{Filled}
use Rattle.readings.proofs.apart.words.Given as goal

abbrev pub invariant-loop-i : goal.invariant-loop-i
invariant-loop-i l = (length l.raws ≡ 130) × Filled 130 (replicate 130 0) (raw_words l.raws) l.word-items l.i
