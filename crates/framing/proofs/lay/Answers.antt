-- The text is copied over what lay at the place. Assumes nothing.
use mathlib.Core.Path.{◌∙◌}
use native.Mathlib.Omega.{arith}
use Rattle.framing.proofs.Enclosing.{copied}
use Rattle.framing.proofs.lay.Goals as goal

pub returns : goal.returns
returns c =
    let a = c.args in
    rw c.copy_from_slice.ensures.after (copied a.out.now a.text.now a.at c.requires (omega arith))
