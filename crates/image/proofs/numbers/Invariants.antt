-- The first i values are the first i numbers from the place on.
use lib.ListN.{drop}
use Rattle.image.proofs.Reading.{SoFar}
use Rattle.image.proofs.numbers.Given as goal

abbrev pub invariant-loop-i : goal.invariant-loop-i
invariant-loop-i g l = SoFar g.T.Travels.meaning g.T.Travels.WIDTH g.row.N (drop l.at l.image) l.value-items l.i
