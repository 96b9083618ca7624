-- What is passed stands as 0x62 tells it.
use mathlib.Core.Path.{◌≡◌}
use lib.ListN.{length, replicate}
use Rattle.readings.specs.Packs.{packs, told_by}
use Rattle.readings.proofs.Filling.{Filled}
use Rattle.readings.proofs.apart.packs_told.Given as goal

abbrev pub invariant-loop-i : goal.invariant-loop-i
invariant-loop-i l = (length l.raws ≡ 130) × Filled 39 (replicate 39 0) (told_by packs l.raws) l.word-items l.i
