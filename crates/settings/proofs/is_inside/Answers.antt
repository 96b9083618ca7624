-- The tests are those of the two ends.
use mathlib.Core.Path.{◌∙◌}
use mir.Syntax.{w32}
use mir.Val.{SFits}
use mir.ValLaws.{to_z-of_z}
use borrow.Author.Rules.{rules}
use Rattle.settings.specs.Table.{inside_of}
use Rattle.settings.proofs.is_inside.Goals as goal

pub returns-then-ends-x : goal.returns-then-ends-x
unfolding inside_of
returns-then-ends-x c =
    let ends = c.ends_of-ends.result in
    let f : SFits w32 ends.low = search rules in
    let g : SFits w32 ends.high = search rules in
    let x = to_z-of_z w32 c.args.x c.ranges.x in
    let l = to_z-of_z w32 ends.low f ∙ c.ends_of-ends.ensures.low in
    let h = to_z-of_z w32 ends.high g ∙ c.ends_of-ends.ensures.high in
    let t = rw (l, x) at c.if-ends-x.true in
    rw (x, h, t)

pub returns-else-ends-x : goal.returns-else-ends-x
unfolding inside_of
returns-else-ends-x c =
    let ends = c.ends_of-ends.result in
    let f : SFits w32 ends.low = search rules in
    let x = to_z-of_z w32 c.args.x c.ranges.x in
    let l = to_z-of_z w32 ends.low f ∙ c.ends_of-ends.ensures.low in
    let t = rw (l, x) at c.if-ends-x.false in
    rw (l, x, t)
