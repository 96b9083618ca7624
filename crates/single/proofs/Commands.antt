-- The command step. Assumes nothing.
use mathlib.Core.Path.{sym, ◌∙◌}
use Rattle.single.specs.Single.{Single}
use Rattle.commands.proofs.commanded.Reads as commanded

pub single_commanded : Single commanded.Post (λ κ r s. r)
single_commanded κ a r r' s s' p q = p.0 ∙ sym q.0
