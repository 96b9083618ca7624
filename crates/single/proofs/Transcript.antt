-- The lines of a transcript. Assumes nothing.
use mathlib.Core.Path.{sym, ◌∙◌}
use Rattle.single.specs.Single.{Single}
use Rattle.single.proofs.Pages.{held_same, place_same}
use Rattle.transcript.proofs.ticks_line.Reads as ticks_line
use Rattle.transcript.proofs.tick_line.Reads as tick_line
use Rattle.transcript.proofs.refusal.Reads as refusal

pub single_ticks_line : Single ticks_line.Post (λ κ r s. r)
single_ticks_line κ a r r' s s' p q = place_same (p ∙ sym q)

pub held_ticks_line : Single ticks_line.Post (λ κ r s. s.0.now)
held_ticks_line κ a r r' s s' p q = held_same (p ∙ sym q)

pub single_tick_line : Single tick_line.Post (λ κ r s. r)
single_tick_line κ a r r' s s' p q = place_same (p ∙ sym q)

pub held_tick_line : Single tick_line.Post (λ κ r s. s.0.now)
held_tick_line κ a r r' s s' p q = held_same (p ∙ sym q)

pub single_refusal : Single refusal.Post (λ κ r s. r)
single_refusal κ a r r' s s' p q = place_same (p ∙ sym q)

pub held_refusal : Single refusal.Post (λ κ r s. s.1.0.now)
held_refusal κ a r r' s s' p q = held_same (p ∙ sym q)
