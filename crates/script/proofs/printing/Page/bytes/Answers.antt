-- The bytes that are left, put behind what stands on the page now. Assumes nothing.
use Rattle.std.proofs.Common.{◌+◌, get_or, drop, sym, ap, ◌∙◌, arith, rules}
use Rattle.script.specs.Printing.{page, typed, digits_of, row}
use Rattle.script.proofs.Turns.{turn, row_turn, row_end, hex_none, hex_some}
use Rattle.script.proofs.printing.Page.bytes.Goals as goal

pub returns-then-is_empty-clause-typed : goal.returns-then-is_empty-clause-typed
returns-then-is_empty-clause-typed c =
    let p = c.args.self.now in
    c.put.ensures.typed ∙ ap (typed (page p.out.now p.at)) (sym (hex_none c.args.s.now (search rules)))

pub loop-b-preserved : goal.loop-b-preserved
loop-b-preserved c =
    let l = c.loop-b in
    let s = c.args.s.now in
    record {
      same = c.number.ensures.same_reference ∙ l.invariant.same;
      left = turn (page l.self.out.now l.self.at) _ (digits_of 2 (get_or s l.b-index 0)) (row 2 (drop (l.b-index + 1) s)) (row 2 (drop l.b-index s)) c.number.ensures.typed (row_turn 2 s l.b-index (omega arith)) ∙ l.invariant.left;
    }

pub returns-clause-typed : goal.returns-clause-typed
unfolding typed
returns-clause-typed c =
    let l = c.loop-b in
    let p = c.args.self.now in
    let s = c.args.s.now in
    sym (ap (typed (page l.self.out.now l.self.at)) (row_end 2 s l.b-index (omega arith))) ∙ l.invariant.left ∙ ap (typed (page p.out.now p.at)) (sym (hex_some s (search rules)))
