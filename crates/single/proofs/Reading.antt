-- A read of the text line. Assumes nothing.
use mathlib.Core.Path.{sym, ◌∙◌}
use Rattle.single.specs.Single.{Single}
use Rattle.reading.proofs.read.Reads as read
use Rattle.reading.proofs.payload.Reads as payload

pub single_read : Single read.Post (λ κ r s. r)
single_read κ a r r' s s' p q = p.0 ∙ sym q.0

pub held_read : Single read.Post (λ κ r s. s.1.1.0.now)
held_read κ a r r' s s' p q = p.1.0 ∙ sym q.1.0

pub single_payload : Single payload.Post (λ κ r s. r.now)
single_payload κ a r r' s s' p q = p ∙ sym q
