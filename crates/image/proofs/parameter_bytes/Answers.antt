-- By what is read of the id. Assumes nothing.
use mathlib.Core.Path.{sym, ◌∙◌}
use Rattle.image.proofs.Writing.{room_value, room_none, got_is}
use Rattle.image.proofs.parameter_bytes.Goals as goal

pub returns-in-Value : goal.returns-in-Value
returns-in-Value c = got_is c.args.s c.args.id _ _ (sym c.in-Value.is ∙ c.get.ensures.value) (c.bytes.ensures ∙ room_value _)

pub returns-in-ReadOnly : goal.returns-in-ReadOnly
returns-in-ReadOnly c = got_is c.args.s c.args.id _ _ (sym c.in-ReadOnly.is ∙ c.get.ensures.value) room_none

pub returns-in-Unknown : goal.returns-in-Unknown
returns-in-Unknown c = got_is c.args.s c.args.id _ _ (sym c.in-Unknown.is ∙ c.get.ensures.value) room_none
