-- The digits that are left, behind the number so far, spell what all of them spell. Assumes nothing.
use Rattle.std.proofs.Common.{◌≡◌, ◌-◌, drop}
use Rattle.script.specs.Reading.{field_of}
use Rattle.script.proofs.reading.number.Given as goal

abbrev pub invariant-loop-i : goal.invariant-loop-i
invariant-loop-i l = field_of l.n (l.digits - l.i) (drop l.i l.text) ≡ field_of 0 l.digits l.text
