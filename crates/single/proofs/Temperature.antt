-- The temperatures of the battery packs. Assumes nothing.
use mathlib.Core.Path.{sym, ◌∙◌}
use Rattle.single.specs.Single.{Single}
use Rattle.temperature.proofs.temperature.Reads as temperature

pub single_temperature : Single temperature.Post (λ κ r s. r)
single_temperature κ a r r' s s' p q = p ∙ sym q
