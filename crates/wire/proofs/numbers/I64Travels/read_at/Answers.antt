-- The pattern that stands there, taken as signed.
use mir.Syntax.{w64}
use Rattle.wire.proofs.TwosComplement.{taken_signed}
use Rattle.wire.proofs.numbers.I64Travels.read_at.Goals as goal

pub returns : goal.returns
returns c = taken_signed w64 c.cast_signed.result c.read_at.result _ c.cast_signed.ensures c.read_at.ensures (record { fits = c.read_at.type_inv })
