-- The words that are left, put behind what stands on the page now. Assumes nothing.
use Rattle.std.proofs.Common.{◌+◌, get_or, drop, sym, ap, ◌∙◌, arith}
use Rattle.script.specs.Printing.{Page, page, typed, digits_of, row}
use Rattle.script.proofs.Turns.{turn, row_turn, row_end}
use Rattle.script.proofs.printing.Page.words.Goals as goal

pub loop-w-preserved : goal.loop-w-preserved
loop-w-preserved c =
    let l = c.loop-w in
    let s = c.args.ws.now in
    record {
      same = c.number.ensures.same_reference ∙ l.invariant.same;
      left = turn (page l.self.out.now l.self.at) _ (digits_of 4 (get_or s l.w-index 0)) (row 4 (drop (l.w-index + 1) s)) (row 4 (drop l.w-index s)) c.number.ensures.typed (row_turn 4 s l.w-index (omega arith)) ∙ l.invariant.left;
    }

pub returns-clause-typed : goal.returns-clause-typed
unfolding typed
returns-clause-typed c =
    let l = c.loop-w in
    let s = c.args.ws.now in
    sym (ap (typed (page l.self.out.now l.self.at)) (row_end 4 s l.w-index (omega arith))) ∙ l.invariant.left ∙ ap (λ (p : Page). typed p (row 4 s)) c.put.ensures.typed
