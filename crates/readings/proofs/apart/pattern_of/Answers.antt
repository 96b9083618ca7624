-- The pattern that the language takes a signed number for.
use borrow.Author.Rules.{rules}
use mir.Syntax.{w16}
use mir.Val.{SFits}
use Rattle.wire.proofs.TwosComplement.{taken_unsigned}
use Rattle.readings.proofs.apart.pattern_of.Goals as goal

pub returns : goal.returns
returns c =
    let f : SFits w16 c.args.reading.0 = search rules in
    taken_unsigned w16 c.args.reading.0 c.cast_unsigned.result f c.cast_unsigned.ensures
