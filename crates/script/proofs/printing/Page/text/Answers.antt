-- What is left of the text, put behind what stands on the page now, gives what all of it gives on the page at first.
-- Assumes nothing.
use Rattle.std.proofs.Common.{◌+◌, ◌∷◌, [], get_or, drop, sym, ap, ◌∙◌, arith}
use Rattle.laws.proofs.Lists.{drop_step, drop_end}
use Rattle.script.specs.Printing.{page, typed}
use Rattle.script.proofs.Turns.{turn}
use Rattle.script.proofs.printing.Page.text.Goals as goal

pub loop-c-preserved : goal.loop-c-preserved
loop-c-preserved c =
    let l = c.loop-c in
    let s = c.args.s.now in
    record {
      same = c.put.ensures.same_reference ∙ l.invariant.same;
      left = turn (page l.self.out.now l.self.at) _ (get_or s l.c-index 0 ∷ []) (drop (l.c-index + 1) s) (drop l.c-index s) c.put.ensures.typed (drop_step s l.c-index (omega arith)) ∙ l.invariant.left;
    }

pub returns-clause-typed : goal.returns-clause-typed
unfolding typed
returns-clause-typed c =
    let l = c.loop-c in
    sym (ap (typed (page l.self.out.now l.self.at)) (drop_end c.args.s.now l.c-index (omega arith))) ∙ l.invariant.left
