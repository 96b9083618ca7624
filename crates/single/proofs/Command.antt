-- The decoder. Assumes nothing.
use mathlib.Core.Path.{sym, ◌∙◌}
use Rattle.single.specs.Single.{Single}
use Rattle.command.proofs.RefusalFromValueRefusal.from.Reads as refusal_from
use Rattle.command.proofs.header_of.Reads as header_of
use Rattle.command.proofs.decode.Reads as decode

pub single_refusal_from : Single refusal_from.Post (λ κ r s. r)
single_refusal_from κ a r r' s s' p q = p ∙ sym q

pub single_header_of : Single header_of.Post (λ κ r s. r)
single_header_of κ a r r' s s' p q = p ∙ sym q

pub single_decode : Single decode.Post (λ κ r s. r)
single_decode κ a r r' s s' p q = p.0 ∙ sym q.0
