-- The tick is the machine's, at the rail and with the words of the line. Assumes nothing.
use Rattle.std.proofs.Common.{sym, ◌∙◌, rules}
use mir.Val.{SFits}
use mir.Syntax.{w16}
use mir.ValLaws.{to_z-of_z}
use Rattle.wire.proofs.TwosComplement.{signed_to_z}
use Rattle.handling.specs.Benches.{ticked_of}
use Rattle.handling.proofs.ticked.Goals as goal

pub returns : goal.returns
unfolding ticked_of
returns c =
    let f : SFits w16 c.cast_signed.result = search rules in
    let s = c.cast_signed.ensures ∙ sym (signed_to_z w16 c.args.rail c.ranges.rail) in
    let e = rw (to_z-of_z w16 c.cast_signed.result f, s, c.first.ensures) at c.tick-told.ensures.value in
    rw (c.ticked.ensures, ← e)
