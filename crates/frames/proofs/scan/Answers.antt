-- `scan` meets its contract. Assumes nothing.
use mathlib.Core.Path.{sym, ap, ◌∙◌}
use Rattle.frames.specs.Answers.{frame_number}
use Rattle.frames.proofs.Scanning.{unopened, unclosed, whole}
use Rattle.frames.proofs.Numbers.{scan_number_lem}
use Rattle.frames.proofs.scan.Goals as goal

pub returns-in_err-opening-clause-is : goal.returns-in_err-opening-clause-is
returns-in_err-opening-clause-is c = c.from_residual.ensures ∙ unopened c.args.received.now (sym c.find.ensures.is ∙ c.in_err-opening.was)

pub returns-in_err-opening-clause-number : goal.returns-in_err-opening-clause-number
returns-in_err-opening-clause-number c = ap frame_number (returns-in_err-opening-clause-is c) ∙ scan_number_lem c.args.received.now

pub returns-in_err-closing-clause-is : goal.returns-in_err-closing-clause-is
returns-in_err-closing-clause-is c =
    c.from_residual-in_err-closing.ensures ∙ unclosed c.args.received.now _ (sym c.find.ensures.is ∙ c.in_ok-opening.was) (sym c.find-2.ensures.is ∙ c.in_err-closing.was)

pub returns-in_err-closing-clause-number : goal.returns-in_err-closing-clause-number
returns-in_err-closing-clause-number c = ap frame_number (returns-in_err-closing-clause-is c) ∙ scan_number_lem c.args.received.now

pub returns-clause-is : goal.returns-clause-is
returns-clause-is c = whole c.args.received.now _ (sym c.find.ensures.is ∙ c.in_ok-opening.was) _ (sym c.find-2.ensures.is ∙ c.in_ok-closing.was)

pub returns-clause-number : goal.returns-clause-number
returns-clause-number c = ap frame_number (returns-clause-is c) ∙ scan_number_lem c.args.received.now
