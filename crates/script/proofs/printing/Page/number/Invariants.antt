-- The digits that are left, put behind what stands on the page now. Assumes nothing.
use Rattle.std.proofs.Common.{◌≡◌}
use Rattle.script.specs.Printing.{page, typed, digits_of}
use Rattle.script.proofs.printing.Page.number.Given as goal

abbrev pub invariant-loop-left : goal.invariant-loop-left
invariant-loop-left l = record {
  same : l.self.out.ghost_name ≡ l.initial.self.out.ghost_name;
  left : typed (page l.self.out.now l.self.at) (digits_of l.left l.n) ≡ typed (page l.initial.self.out.now l.initial.self.at) (digits_of l.digits l.n);
}
