-- What a change of mode brings with it. Assumes nothing.
use mathlib.Core.Path.{sym, ◌∙◌}
use Rattle.single.specs.Single.{Single}
use Rattle.change.proofs.entering.Reads as entering
use Rattle.change.proofs.timer_after.Reads as timer_after
use Rattle.change.proofs.resets_after.Reads as resets_after

pub single_entering : Single entering.Post (λ κ r s. r)
single_entering κ a r r' s s' p q = p ∙ sym q

pub single_timer_after : Single timer_after.Post (λ κ r s. r)
single_timer_after κ a r r' s s' p q = p ∙ sym q

pub single_resets_after : Single resets_after.Post (λ κ r s. r)
single_resets_after κ a r r' s s' p q = p ∙ sym q
