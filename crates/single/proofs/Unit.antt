-- What a bench calls. Assumes nothing.
use mathlib.Core.Path.{sym, ◌∙◌}
use Rattle.single.specs.Single.{Single}
use Rattle.unit.proofs.unstarted.Reads as unstarted
use Rattle.unit.proofs.start.Reads as start
use Rattle.unit.proofs.tick.Reads as tick
use Rattle.unit.proofs.bus_read.Reads as bus_read
use Rattle.unit.proofs.read_line.Reads as read_line
use Rattle.unit.proofs.payload.Reads as payload
use Rattle.unit.proofs.frame.Reads as frame

pub single_unstarted : Single unstarted.Post (λ κ r s. r)
single_unstarted κ a r r' s s' p q = p ∙ sym q

pub single_start : Single start.Post (λ κ r s. r)
single_start κ a r r' s s' p q = p.0 ∙ sym q.0

pub single_tick : Single tick.Post (λ κ r s. r)
single_tick κ a r r' s s' p q = p.0 ∙ sym q.0

pub held_bus_read : Single bus_read.Post (λ κ r s. s.1.0.now)
held_bus_read κ a r r' s s' p q = p ∙ sym q

pub single_read_line : Single read_line.Post (λ κ r s. r)
single_read_line κ a r r' s s' p q = p.0 ∙ sym q.0

pub held_read_line : Single read_line.Post (λ κ r s. s.1.1.0.now)
held_read_line κ a r r' s s' p q = p.1.0 ∙ sym q.1.0

pub single_payload : Single payload.Post (λ κ r s. r.now)
single_payload κ a r r' s s' p q = p ∙ sym q

pub single_frame : Single frame.Post (λ κ r s. r)
single_frame κ a r r' s s' p q = p.0 ∙ sym q.0

pub held_frame : Single frame.Post (λ κ r s. s.1.0.now)
held_frame κ a r r' s s' p q = p.1.0 ∙ sym q.1.0
