-- One tick of the machine, and its line. Assumes nothing.
use native.Mathlib.Omega.{arith}
use mir.Syntax.{w16}
use mir.ValLaws.{to_z-of_z}
use Rattle.session.specs.Sessions.{ticked_of}
use Rattle.session.proofs.ticked.Goals as goal

pub returns : goal.returns
unfolding ticked_of
returns c =
    let told = rw (to_z-of_z w16 c.args.line.rail (record { sfits = omega arith })) at c.tick-told.ensures.value in
    rw (c.tick_line.ensures, told)
