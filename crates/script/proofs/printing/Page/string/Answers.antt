-- The space, and the bytes behind it. Assumes nothing.
use mathlib.Core.Path.{ap, ◌∙◌}
use Rattle.script.specs.Printing.{Page, typed, hex_of}
use Rattle.script.proofs.printing.Page.string.Goals as goal

pub returns-clause-typed : goal.returns-clause-typed
unfolding typed
returns-clause-typed c = c.bytes.ensures.typed ∙ ap (λ (p : Page). typed p (hex_of c.args.s.now)) c.put.ensures.typed
