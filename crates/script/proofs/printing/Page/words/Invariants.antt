-- The words that are left, put behind what stands on the page now. Assumes nothing.
use Rattle.std.proofs.Common.{◌≡◌, drop}
use Rattle.script.specs.Printing.{page, typed, row}
use Rattle.script.proofs.printing.Page.words.Given as goal

abbrev pub invariant-loop-w : goal.invariant-loop-w
invariant-loop-w l = record {
  same : l.self.out.ghost_name ≡ l.initial.self.out.ghost_name;
  left : typed (page l.self.out.now l.self.at) (row 4 (drop l.w-index l.ws)) ≡ typed (page l.initial.self.out.now l.initial.self.at) (row 4 l.ws);
}
