-- The lines of the text line, and the buffers that are lent for it. Assumes nothing.
use mathlib.Core.Path.{sym, ◌∙◌}
use Rattle.single.specs.Single.{Single}
use Rattle.single.proofs.Pages.{held_same, place_same}
use Rattle.speaking.proofs.heard.Reads as heard
use Rattle.speaking.proofs.framed.Reads as framed
use Rattle.speaking.proofs.untouched.Reads as untouched
use Rattle.speaking.proofs.within.Reads as within

pub single_heard : Single heard.Post (λ κ r s. r)
single_heard κ a r r' s s' p q = place_same (p ∙ sym q)

pub held_heard : Single heard.Post (λ κ r s. s.1.1.1.0.now)
held_heard κ a r r' s s' p q = held_same (p ∙ sym q)

pub single_framed : Single framed.Post (λ κ r s. r)
single_framed κ a r r' s s' p q = place_same (p ∙ sym q)

pub held_framed : Single framed.Post (λ κ r s. s.1.1.0.now)
held_framed κ a r r' s s' p q = held_same (p ∙ sym q)

pub single_untouched : Single untouched.Post (λ κ r s. r)
single_untouched κ a r r' s s' p q = p ∙ sym q

pub single_within : Single within.Post (λ κ r s. r)
single_within κ a r r' s s' p q = p ∙ sym q
