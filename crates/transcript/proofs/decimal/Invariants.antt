-- The digits that are left, put behind what stands on the page now. Assumes nothing.
use Prim.Native.Nat.{◌-◌, ◌^◌}
use mathlib.Core.Path.{◌≡◌}
use Rattle.script.specs.Printing.{page, typed}
use Rattle.transcript.specs.Transcript.{digits_for}
use Rattle.transcript.proofs.decimal.Given as goal

abbrev pub invariant-loop : goal.invariant-loop
invariant-loop l = record {
  same : l.line.out.ghost_name ≡ l.initial.line.out.ghost_name;
  tens : l.power ≡ 10 ^ (9 - l.counter);
  digits : typed (page l.line.out.now l.line.at) (digits_for (9 - l.counter) l.n) ≡ typed (page l.initial.line.out.now l.initial.line.at) (digits_for 9 l.n);
}
