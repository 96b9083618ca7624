-- What is left to drop, dropped from what the number is now. Assumes nothing.
use Rattle.std.proofs.Common.{◌≡◌, ◌-◌}
use Rattle.script.specs.Printing.{over}
use Rattle.script.proofs.printing.over.Given as goal

abbrev pub invariant-loop : goal.invariant-loop
invariant-loop l = over (l.digits - l.counter) l.rest ≡ over l.digits l.n
