-- The kinds of board. Assumes nothing.
use mathlib.Core.Path.{sym, ◌∙◌}
use Rattle.single.specs.Single.{Single}
use Rattle.kinds.proofs.stid.Reads as stid
use Rattle.kinds.proofs.last_bid.Reads as last_bid
use Rattle.kinds.proofs.word_count.Reads as word_count
use Rattle.kinds.proofs.places.Reads as places
use Rattle.kinds.proofs.lists.Reads as lists
use Rattle.kinds.proofs.is_served.Reads as is_served
use Rattle.kinds.proofs.abf_placed.Reads as abf_placed

pub single_stid : Single stid.Post (λ κ r s. r)
single_stid κ a r r' s s' p q = p ∙ sym q

pub single_last_bid : Single last_bid.Post (λ κ r s. r)
single_last_bid κ a r r' s s' p q = p ∙ sym q

pub single_word_count : Single word_count.Post (λ κ r s. r)
single_word_count κ a r r' s s' p q = p ∙ sym q

pub single_places : Single places.Post (λ κ r s. r)
single_places κ a r r' s s' p q = p ∙ sym q

pub single_lists : Single lists.Post (λ κ r s. r)
single_lists κ a r r' s s' p q = p ∙ sym q

pub single_is_served : Single is_served.Post (λ κ r s. r)
single_is_served κ a r r' s s' p q = p ∙ sym q

pub single_abf_placed : Single abf_placed.Post (λ κ r s. r)
single_abf_placed κ a r r' s s' p q = p ∙ sym q
