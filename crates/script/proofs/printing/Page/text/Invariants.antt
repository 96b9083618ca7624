-- What is left of the text, put behind what stands on the page now, gives what all of it gives on the page at first.
-- Assumes nothing.
use Rattle.std.proofs.Common.{◌≡◌, drop}
use Rattle.script.specs.Printing.{page, typed}
use Rattle.script.proofs.printing.Page.text.Given as goal

abbrev pub invariant-loop-c : goal.invariant-loop-c
invariant-loop-c l = record {
  same : l.self.out.ghost_name ≡ l.initial.self.out.ghost_name;
  left : typed (page l.self.out.now l.self.at) (drop l.c-index l.s) ≡ typed (page l.initial.self.out.now l.initial.self.at) l.s;
}
