-- The image of the settings. Assumes nothing.
use mathlib.Core.Path.{sym, ◌∙◌}
use Rattle.single.specs.Single.{Single}
use Rattle.image.proofs.bytes.Reads as bytes
use Rattle.image.proofs.checksum.Reads as checksum
use Rattle.image.proofs.read.Reads as read

pub single_bytes : Single bytes.Post (λ κ r s. r)
single_bytes κ a r r' s s' p q = p ∙ sym q

pub single_checksum : Single checksum.Post (λ κ r s. r)
single_checksum κ a r r' s s' p q = p ∙ sym q

pub single_read : Single read.Post (λ κ r s. r)
single_read κ a r r' s s' p q = p ∙ sym q
