-- The lines that are printed. Assumes nothing.
use mathlib.Core.Path.{sym, ◌∙◌}
use Rattle.single.specs.Single.{Single}
use Rattle.single.proofs.Pages.{held_same, place_same}
use Rattle.showing.proofs.ticked.Reads as ticked
use Rattle.showing.proofs.state.Reads as state

pub single_ticked : Single ticked.Post (λ κ r s. r)
single_ticked κ a r r' s s' p q = place_same (p ∙ sym q)

pub held_ticked : Single ticked.Post (λ κ r s. s.1.1.1.1.0.now)
held_ticked κ a r r' s s' p q = held_same (p ∙ sym q)

pub single_state : Single state.Post (λ κ r s. r)
single_state κ a r r' s s' p q = place_same (p ∙ sym q)

pub held_state : Single state.Post (λ κ r s. s.1.0.now)
held_state κ a r r' s s' p q = held_same (p ∙ sym q)
