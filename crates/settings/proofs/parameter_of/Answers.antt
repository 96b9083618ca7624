-- The place of an id's value says what the id is.
use mathlib.Core.Path.{sym, ◌∙◌}
use Rattle.settings.proofs.Places.{stands_at}
use Rattle.settings.proofs.Numbers.{with_set_number}
use Rattle.settings.proofs.parameter_of.Goals as goal

pub returns-in-Int8-clause-value : goal.returns-in-Int8-clause-value
returns-in-Int8-clause-value c = (let a = stands_at c.args.id (sym c.place_of.ensures ∙ c.in-Int8.is) in with_set_number c.args.id (sym a.is)).0

pub returns-in-Int8-clause-number : goal.returns-in-Int8-clause-number
returns-in-Int8-clause-number c = (let a = stands_at c.args.id (sym c.place_of.ensures ∙ c.in-Int8.is) in with_set_number c.args.id (sym a.is)).1

pub returns-in-Uint8-clause-value : goal.returns-in-Uint8-clause-value
returns-in-Uint8-clause-value c = (let a = stands_at c.args.id (sym c.place_of.ensures ∙ c.in-Uint8.is) in with_set_number c.args.id (sym a.is)).0

pub returns-in-Uint8-clause-number : goal.returns-in-Uint8-clause-number
returns-in-Uint8-clause-number c = (let a = stands_at c.args.id (sym c.place_of.ensures ∙ c.in-Uint8.is) in with_set_number c.args.id (sym a.is)).1

pub returns-in-Int16-clause-value : goal.returns-in-Int16-clause-value
returns-in-Int16-clause-value c = (let a = stands_at c.args.id (sym c.place_of.ensures ∙ c.in-Int16.is) in with_set_number c.args.id (sym a.is)).0

pub returns-in-Int16-clause-number : goal.returns-in-Int16-clause-number
returns-in-Int16-clause-number c = (let a = stands_at c.args.id (sym c.place_of.ensures ∙ c.in-Int16.is) in with_set_number c.args.id (sym a.is)).1

pub returns-in-Uint16-clause-value : goal.returns-in-Uint16-clause-value
returns-in-Uint16-clause-value c = (let a = stands_at c.args.id (sym c.place_of.ensures ∙ c.in-Uint16.is) in with_set_number c.args.id (sym a.is)).0

pub returns-in-Uint16-clause-number : goal.returns-in-Uint16-clause-number
returns-in-Uint16-clause-number c = (let a = stands_at c.args.id (sym c.place_of.ensures ∙ c.in-Uint16.is) in with_set_number c.args.id (sym a.is)).1

pub returns-in-Uint32-clause-value : goal.returns-in-Uint32-clause-value
returns-in-Uint32-clause-value c = (let a = stands_at c.args.id (sym c.place_of.ensures ∙ c.in-Uint32.is) in with_set_number c.args.id (sym a.is)).0

pub returns-in-Uint32-clause-number : goal.returns-in-Uint32-clause-number
returns-in-Uint32-clause-number c = (let a = stands_at c.args.id (sym c.place_of.ensures ∙ c.in-Uint32.is) in with_set_number c.args.id (sym a.is)).1

pub returns-in-ReadOnly-clause-value : goal.returns-in-ReadOnly-clause-value
returns-in-ReadOnly-clause-value c = (let a = stands_at c.args.id (sym c.place_of.ensures ∙ c.in-ReadOnly.is) in with_set_number c.args.id (sym a)).0

pub returns-in-ReadOnly-clause-number : goal.returns-in-ReadOnly-clause-number
returns-in-ReadOnly-clause-number c = (let a = stands_at c.args.id (sym c.place_of.ensures ∙ c.in-ReadOnly.is) in with_set_number c.args.id (sym a)).1

pub returns-in-Unknown-clause-value : goal.returns-in-Unknown-clause-value
returns-in-Unknown-clause-value c = (let a = stands_at c.args.id (sym c.place_of.ensures ∙ c.in-Unknown.is) in with_set_number c.args.id (sym a)).0

pub returns-in-Unknown-clause-number : goal.returns-in-Unknown-clause-number
returns-in-Unknown-clause-number c = (let a = stands_at c.args.id (sym c.place_of.ensures ∙ c.in-Unknown.is) in with_set_number c.args.id (sym a)).1
