-- Parameter values. Assumes nothing.
use mathlib.Core.Path.{sym, ◌∙◌}
use Rattle.single.specs.Single.{Single}
use Rattle.value.proofs.width.Reads as width
use Rattle.value.proofs.type_of.Reads as type_of
use Rattle.value.proofs.bytes.Reads as bytes
use Rattle.value.proofs.read.Reads as read

pub single_width : Single width.Post (λ κ r s. r)
single_width κ a r r' s s' p q = p ∙ sym q

pub single_type_of : Single type_of.Post (λ κ r s. r)
single_type_of κ a r r' s s' p q = p ∙ sym q

pub single_bytes : Single bytes.Post (λ κ r s. r)
single_bytes κ a r r' s s' p q = p ∙ sym q

pub single_read : Single read.Post (λ κ r s. r)
single_read κ a r r' s s' p q = p.0 ∙ sym q.0
