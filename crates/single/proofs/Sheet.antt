-- The session sheet. Assumes nothing.
use mathlib.Core.Path.{sym, ◌∙◌}
use Rattle.single.specs.Single.{Single}
use Rattle.sheet.proofs.ticks.TickRefusalFromPayloadRefusal.from.Reads as tick_refusal_from
use Rattle.sheet.proofs.read_tick.Reads as read_tick
use Rattle.sheet.proofs.read.Reads as read

pub single_tick_refusal_from : Single tick_refusal_from.Post (λ κ r s. r)
single_tick_refusal_from κ a r r' s s' p q = p ∙ sym q

pub single_read_tick : Single read_tick.Post (λ κ r s. r)
single_read_tick κ a r r' s s' p q = p.0 ∙ sym q.0

pub held_read_tick : Single read_tick.Post (λ κ r s. s.1.1.0.now)
held_read_tick κ a r r' s s' p q = p.1.0 ∙ sym q.1.0

pub single_read : Single read.Post (λ κ r s. r)
single_read κ a r r' s s' p q = p.0 ∙ sym q.0
