-- The checksum. Assumes nothing.
use mathlib.Core.Path.{sym, ◌∙◌}
use Rattle.single.specs.Single.{Single}
use Rattle.crc.proofs.continued.Reads as continued
use Rattle.crc.proofs.checksum.Reads as checksum

pub single_continued : Single continued.Post (λ κ r s. r)
single_continued κ a r r' s s' p q = p ∙ sym q

pub single_checksum : Single checksum.Post (λ κ r s. r)
single_checksum κ a r r' s s' p q = p ∙ sym q
