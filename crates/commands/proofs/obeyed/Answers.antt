use mir.Syntax.{w16}
use mir.ValLaws.{to_z-of_z}
use Rattle.commands.specs.Parts.{asked_in}
use Rattle.commands.proofs.obeyed.Goals as goal

pub returns-in-Silence : goal.returns-in-Silence
unfolding asked_in
returns-in-Silence c = rw (c.in-Silence.is, c.silent.ensures)

pub returns-in-Refusal : goal.returns-in-Refusal
unfolding asked_in
returns-in-Refusal c = rw (c.in-Refusal.is, c.refused.ensures)

pub returns-in-Run : goal.returns-in-Run
unfolding asked_in
returns-in-Run c = rw (c.in-Run.is, c.run.ensures, to_z-of_z w16 c.args.rail c.ranges.rail)
