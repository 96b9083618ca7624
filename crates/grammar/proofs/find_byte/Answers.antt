-- The first place from here on is the first place from `at` on. Assumes nothing.
use native.Mathlib.Omega.{arith}
use mathlib.Core.Path.{sym, ap, ◌∙◌}
use Rattle.grammar.specs.Views.{refusal_of}
use Rattle.grammar.proofs.Bytes.{first_none, first_here, first_next, up_to_place, up_to_never}
use Rattle.grammar.proofs.find_byte.Goals as goal

pub returns-then-s-i : goal.returns-then-s-i
returns-then-s-i c =
    let a = c.args in
    let l = c.loop-i in
    let found = up_to_place _ a.s.now a.at l.i (sym l.invariant.1 ∙ first_here _ a.s.now l.i (omega arith) c.if-s-i.true) in
    record { is = found; lies = (omega arith, omega arith); number = ap refusal_of found }

pub loop-i-preserved : goal.loop-i-preserved
loop-i-preserved c =
    let l = c.loop-i in
    (omega arith, sym (first_next _ c.args.s.now l.i (omega arith) c.if-s-i.false) ∙ l.invariant.1)

pub returns : goal.returns
returns c =
    let a = c.args in
    let l = c.loop-i in
    let never = up_to_never _ a.s.now a.at (sym l.invariant.1 ∙ first_none _ a.s.now l.i (omega arith)) in
    record { is = never; lies = tt; number = ap refusal_of never }
