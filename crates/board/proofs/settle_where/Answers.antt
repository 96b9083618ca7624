-- Where the tick happens, what steps 1 to 3 make; else the parts as they are.
use mathlib.Core.Bool.{true, false}
use mathlib.Core.Path.{◌≡◌}
use mir.Syntax.{w16}
use mir.ValLaws.{to_z-of_z}
use borrow.Author.Rules.{rules}
use borrow.Author.Tests.{not-true}
use Rattle.board.proofs.settle_where.Goals as goal

pub returns-then-happens : goal.returns-then-happens
returns-then-happens c =
    let h : c.args.happens ≡ true = search rules in
    rw (c.settle.ensures, h, to_z-of_z w16 c.args.rail c.ranges.rail)

pub returns : goal.returns
returns c =
    let h : c.args.happens ≡ false = search (not-true, rules) in
    rw h
