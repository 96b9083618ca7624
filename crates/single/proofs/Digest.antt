-- What the digest of the speed measurement takes in. Assumes nothing.
use mathlib.Core.Path.{sym, ◌∙◌}
use Rattle.single.specs.Single.{Single}
use Rattle.digest.proofs.told.Reads as told
use Rattle.digest.proofs.timed.Reads as timed
use Rattle.digest.proofs.switched.Reads as switched
use Rattle.digest.proofs.waiting.Reads as waiting

pub single_told : Single told.Post (λ κ r s. r)
single_told κ a r r' s s' p q = p ∙ sym q

pub single_timed : Single timed.Post (λ κ r s. r)
single_timed κ a r r' s s' p q = p ∙ sym q

pub single_switched : Single switched.Post (λ κ r s. r)
single_switched κ a r r' s s' p q = p ∙ sym q

pub single_waiting : Single waiting.Post (λ κ r s. r)
single_waiting κ a r r' s s' p q = p ∙ sym q
