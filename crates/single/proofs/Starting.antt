-- What a start is given, and what comes of it. Assumes nothing.
use mathlib.Core.Path.{sym, ◌∙◌}
use Rattle.single.specs.Single.{Single}
use Rattle.single.proofs.Pages.{held_same, place_same}
use Rattle.starting.proofs.store_of.Reads as store_of
use Rattle.starting.proofs.start_line.Reads as start_line

pub single_store_of : Single store_of.Post (λ κ r s. r)
single_store_of κ a r r' s s' p q = p ∙ sym q

pub single_start_line : Single start_line.Post (λ κ r s. r)
single_start_line κ a r r' s s' p q = place_same (p ∙ sym q)

pub held_start_line : Single start_line.Post (λ κ r s. s.1.0.now)
held_start_line κ a r r' s s' p q = held_same (p ∙ sym q)
