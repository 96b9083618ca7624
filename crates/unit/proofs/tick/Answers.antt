-- The tick's own answer says what is due. Assumes nothing.
use mir.Syntax.{w16}
use mir.ValLaws.{to_z-of_z}
use Rattle.unit.specs.Machine.{told_of}
use Rattle.unit.proofs.tick.Goals as goal

pub returns-clause-value : goal.returns-clause-value
unfolding told_of
returns-clause-value c =
    let ticked = rw (to_z-of_z w16 c.args.rail c.ranges.rail) at c.tick-t.ensures.value in
    rw (c.due_after-due.ensures, ← ticked)
