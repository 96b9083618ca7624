-- The bytes that are left, put behind what stands on the page now. Assumes nothing.
use Rattle.std.proofs.Common.{◌≡◌, drop}
use Rattle.script.specs.Printing.{page, typed, row}
use Rattle.script.proofs.printing.Page.bytes.Given as goal

abbrev pub invariant-loop-b : goal.invariant-loop-b
invariant-loop-b l = record {
  same : l.self.out.ghost_name ≡ l.initial.self.out.ghost_name;
  left : typed (page l.self.out.now l.self.at) (row 2 (drop l.b-index l.s)) ≡ typed (page l.initial.self.out.now l.initial.self.at) (row 2 l.s);
}
