-- What a transfer asks. Assumes nothing.
use mathlib.Core.Path.{sym, ◌∙◌}
use Rattle.single.specs.Single.{Single}
use Rattle.asking.proofs.asked_of.Reads as asked_of

pub single_asked_of : Single asked_of.Post (λ κ r s. r)
single_asked_of κ a r r' s s' p q = p.0 ∙ sym q.0
