-- A byte is the number of one.
use mathlib.Core.Path.{◌∙◌}
use Rattle.wire.proofs.LittleEndian.{byte_number}
use Rattle.wire.proofs.numbers.U8Travels.read_at.Goals as goal

pub returns : goal.returns
returns c = c.byte.ensures ∙ byte_number c.args.s.now c.args.at
