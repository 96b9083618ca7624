-- The pattern that stands there, taken as signed.
use mir.Syntax.{w16}
use Rattle.wire.proofs.TwosComplement.{taken_signed}
use Rattle.wire.proofs.numbers.I16Travels.read_at.Goals as goal

pub returns : goal.returns
returns c = taken_signed w16 c.cast_signed.result c.read_at.result _ c.cast_signed.ensures c.read_at.ensures (record { fits = c.read_at.type_inv })
