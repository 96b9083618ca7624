-- The space, and the digits behind it. Assumes nothing.
use mathlib.Core.Path.{ap, ◌∙◌}
use Rattle.script.specs.Printing.{Page, typed, digits_of}
use Rattle.script.proofs.printing.Page.field.Goals as goal

pub returns-clause-typed : goal.returns-clause-typed
unfolding typed
returns-clause-typed c = c.number.ensures.typed ∙ ap (λ (p : Page). typed p (digits_of c.args.digits c.args.n)) c.put.ensures.typed
