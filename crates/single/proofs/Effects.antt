-- What each command does, part by part. Assumes nothing.
use mathlib.Core.Path.{sym, ◌∙◌}
use Rattle.single.specs.Single.{Single}
use Rattle.effects.proofs.only_fed.Reads as only_fed
use Rattle.effects.proofs.run.Reads as run
use Rattle.effects.proofs.layout_of.Reads as layout_of
use Rattle.effects.proofs.memory_change_of.Reads as memory_change_of

pub single_only_fed : Single only_fed.Post (λ κ r s. r)
single_only_fed κ a r r' s s' p q = p ∙ sym q

pub single_run : Single run.Post (λ κ r s. r)
single_run κ a r r' s s' p q = p ∙ sym q

pub single_layout_of : Single layout_of.Post (λ κ r s. r)
single_layout_of κ a r r' s s' p q = p ∙ sym q

pub single_memory_change_of : Single memory_change_of.Post (λ κ r s. r)
single_memory_change_of κ a r r' s s' p q = p ∙ sym q
