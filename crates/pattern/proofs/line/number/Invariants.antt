-- The digits that are left, behind the number so far, make what all of them make. Assumes nothing.
use Rattle.std.proofs.Common.{◌≡◌, drop}
use Rattle.pattern.specs.Line.{number_of}
use Rattle.pattern.proofs.line.number.Given as goal

abbrev pub invariant-loop-c : goal.invariant-loop-c
invariant-loop-c l = number_of l.n (drop l.c-index l.digits) ≡ number_of 0 l.digits
