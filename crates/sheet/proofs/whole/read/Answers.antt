-- The head is answered where the lines behind it stand. Assumes nothing.
use native.Mathlib.Omega.{arith}
use mathlib.Core.Path.{sym, ap, ◌∙◌}
use Rattle.sheet.specs.Answers.{sheet_head}
use Rattle.sheet.proofs.Sheets.{head_if, sheet_long, sheet_told_lem, with_number}
use Rattle.sheet.proofs.whole.read.Goals as goal

pub returns-then-s-gt-LONGEST : goal.returns-then-s-gt-LONGEST
returns-then-s-gt-LONGEST c = with_number _ c.args.s.now (sym (ap sheet_head (sheet_long c.args.s.now (omega arith))))

pub returns-in_err-head : goal.returns-in_err-head
returns-in_err-head c =
    let s = c.args.s.now in
    with_number _ s (c.from_residual.ensures ∙ ap (head_if s) c.in_err-head.ensures.answer ∙ sheet_told_lem s (omega arith))

pub returns-then-are_ticks : goal.returns-then-are_ticks
returns-then-are_ticks c =
    let s = c.args.s.now in
    let behind = ap (head_if s) c.in_ok-head.ensures.answer ∙ sheet_told_lem s (omega arith) in
    with_number _ s (rw (sym c.are_ticks.ensures ∙ c.if-are_ticks.true) at behind)

pub returns-else-are_ticks : goal.returns-else-are_ticks
returns-else-are_ticks c =
    let s = c.args.s.now in
    let behind = ap (head_if s) c.in_ok-head.ensures.answer ∙ sheet_told_lem s (omega arith) in
    with_number _ s (rw (sym c.are_ticks.ensures ∙ c.if-are_ticks.false) at behind)
