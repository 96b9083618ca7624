-- By what the id is.
use mathlib.Core.Path.{sym, ◌∙◌}
use mir.Syntax.{w64}
use Rattle.wire.proofs.LittleEndian.{to_le_bytes_lem}
use Rattle.answers.proofs.Values.{cut_at_width, value_taken}
use Rattle.answers.specs.Parameters.{value_read, room_read}
use Rattle.answers.proofs.parameters.value_read.Goals as goal

pub returns-in-Value-clause-read : goal.returns-in-Value-clause-read
unfolding value_read room_read
returns-in-Value-clause-read c = rw (sym c.get.ensures.value ∙ c.in-Value.is, c.bytes.ensures) (value_taken _)

pub returns-in-Value-clause-room : goal.returns-in-Value-clause-room
unfolding value_read room_read
returns-in-Value-clause-room c = rw (sym c.get.ensures.value ∙ c.in-Value.is, c.bytes.ensures)

pub returns-in-ReadOnly-clause-read : goal.returns-in-ReadOnly-clause-read
unfolding value_read room_read
returns-in-ReadOnly-clause-read c = rw (sym c.get.ensures.value ∙ c.in-ReadOnly.is, c.to_le_bytes.ensures, to_le_bytes_lem w64 c.read_only_number.result, c.read_only_number.ensures, c.width.ensures) (cut_at_width _ _)

pub returns-in-ReadOnly-clause-room : goal.returns-in-ReadOnly-clause-room
unfolding value_read room_read
returns-in-ReadOnly-clause-room c = rw (sym c.get.ensures.value ∙ c.in-ReadOnly.is, c.to_le_bytes.ensures, to_le_bytes_lem w64 c.read_only_number.result, c.read_only_number.ensures, c.width.ensures)

pub returns-in-Unknown-clause-read : goal.returns-in-Unknown-clause-read
unfolding value_read room_read
returns-in-Unknown-clause-read c = rw (sym c.get.ensures.value ∙ c.in-Unknown.is)

pub returns-in-Unknown-clause-room : goal.returns-in-Unknown-clause-room
unfolding value_read room_read
returns-in-Unknown-clause-room c = rw (sym c.get.ensures.value ∙ c.in-Unknown.is)
