-- Eight bytes of the number are those of the value and then zeros.
use mathlib.Core.Path.{ap, ◌∙◌}
use mir.Syntax.{w64}
use Rattle.wire.proofs.LittleEndian.{to_le_bytes_lem}
use Rattle.value.proofs.Reading.{in_room}
use Rattle.value.specs.Types.{width}
use Rattle.value.proofs.bytes.Goals as goal

pub returns : goal.returns
returns c =
    in_room c.args.v c.width.result c.spelt.result c.to_le_bytes.result (c.width.ensures ∙ ap width c.type_of.ensures)
    (c.to_le_bytes.ensures ∙ to_le_bytes_lem w64 c.spelt.result) c.spelt.ensures.0 c.spelt.ensures.1
