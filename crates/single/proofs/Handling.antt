-- What each kind of line that changes the bench does. Assumes nothing.
use mathlib.Core.Path.{sym, ◌∙◌}
use Rattle.single.specs.Single.{Single}
use Rattle.single.proofs.Left.{left_held, left_same}
use Rattle.handling.proofs.none.Reads as none
use Rattle.handling.proofs.started.Reads as started
use Rattle.handling.proofs.lent.Reads as lent
use Rattle.handling.proofs.ticked.Reads as ticked
use Rattle.handling.proofs.received.Reads as received

pub single_none : Single none.Post (λ κ r s. r)
single_none κ a r r' s s' p q = p ∙ sym q

pub single_started : Single started.Post (λ κ r s. r)
single_started κ a r r' s s' p q = left_same r r' (p ∙ sym q)

pub held_started : Single started.Post (λ κ r s. s.1.1.1.0.now)
held_started κ a r r' s s' p q = left_held r r' (p ∙ sym q)

pub single_lent : Single lent.Post (λ κ r s. r)
single_lent κ a r r' s s' p q = left_same r r' (p ∙ sym q)

pub held_lent : Single lent.Post (λ κ r s. s.1.1.1.0.now)
held_lent κ a r r' s s' p q = left_held r r' (p ∙ sym q)

pub single_ticked : Single ticked.Post (λ κ r s. r)
single_ticked κ a r r' s s' p q = left_same r r' (p ∙ sym q)

pub held_ticked : Single ticked.Post (λ κ r s. s.1.1.1.1.1.0.now)
held_ticked κ a r r' s s' p q = left_held r r' (p ∙ sym q)

pub single_received : Single received.Post (λ κ r s. r)
single_received κ a r r' s s' p q = left_same r r' (p ∙ sym q)

pub held_received : Single received.Post (λ κ r s. s.1.1.1.1.0.now)
held_received κ a r r' s s' p q = left_held r r' (p ∙ sym q)
