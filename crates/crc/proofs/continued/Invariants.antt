-- The checksum of what is left, from the remainder so far, is the checksum of the whole. Assumes nothing.
use mathlib.Core.Path.{◌≡◌}
use lib.ListN.{drop}
use Rattle.crc.specs.Division.{continued_of}
use Rattle.crc.proofs.continued.Given as goal

abbrev pub invariant-loop-b : goal.invariant-loop-b
invariant-loop-b l = continued_of l.left (drop l.b-index l.bytes) ≡ continued_of l.from l.bytes
