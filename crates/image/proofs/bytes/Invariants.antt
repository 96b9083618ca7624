-- After each turn the image begins with the bytes of the ids walked so far. Assumes nothing.
use Rattle.image.proofs.Writing.{Walked}
use Rattle.image.proofs.bytes.Given as goal

abbrev pub invariant-loop-place : goal.invariant-loop-place
invariant-loop-place l = Walked l.s l.image l.at l.place
