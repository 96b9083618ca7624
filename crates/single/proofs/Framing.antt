-- What the text line says. Assumes nothing.
use mathlib.Core.Path.{sym, ◌∙◌}
use Rattle.single.specs.Single.{Single}
use Rattle.framing.proofs.FrameRefusalFromWriteRefusal.from.Reads as frame_refusal_from
use Rattle.framing.proofs.frame.Reads as frame

pub single_frame_refusal_from : Single frame_refusal_from.Post (λ κ r s. r)
single_frame_refusal_from κ a r r' s s' p q = p ∙ sym q

pub single_frame : Single frame.Post (λ κ r s. r)
single_frame κ a r r' s s' p q = p.0 ∙ sym q.0

pub held_frame : Single frame.Post (λ κ r s. s.1.1.1.0.now)
held_frame κ a r r' s s' p q = p.1.0 ∙ sym q.1.0
