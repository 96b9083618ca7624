-- The nearest whole number, and its holding. Assumes nothing.
use mathlib.Core.Path.{sym, ◌∙◌}
use Rattle.single.specs.Single.{Single}
use Rattle.rounding.proofs.nearest.Reads as nearest
use Rattle.rounding.proofs.held.Reads as held

pub single_nearest : Single nearest.Post (λ κ r s. r)
single_nearest κ a r r' s s' p q = p ∙ sym q

pub single_held : Single held.Post (λ κ r s. r)
single_held κ a r r' s s' p q = p ∙ sym q
