-- The board, its start and its resets. Assumes nothing.
use mathlib.Core.Path.{sym, ◌∙◌}
use Rattle.single.specs.Single.{Single}
use Rattle.state.proofs.distribution.Reads as distribution
use Rattle.state.proofs.battery.Reads as battery
use Rattle.state.proofs.naming_raw.Reads as naming_raw
use Rattle.state.proofs.read.Reads as read
use Rattle.state.proofs.with_form.Reads as with_form
use Rattle.state.proofs.unstarted.Reads as unstarted
use Rattle.state.proofs.start.Reads as start
use Rattle.state.proofs.watchdog_reset.Reads as watchdog_reset
use Rattle.state.proofs.command_reset.Reads as command_reset

pub single_distribution : Single distribution.Post (λ κ r s. r)
single_distribution κ a r r' s s' p q = p ∙ sym q

pub single_battery : Single battery.Post (λ κ r s. r)
single_battery κ a r r' s s' p q = p ∙ sym q

pub single_naming_raw : Single naming_raw.Post (λ κ r s. r)
single_naming_raw κ a r r' s s' p q = p ∙ sym q

pub held_read : Single read.Post (λ κ r s. s.1.0.now)
held_read κ a r r' s s' p q = p ∙ sym q

pub single_with_form : Single with_form.Post (λ κ r s. r)
single_with_form κ a r r' s s' p q = p ∙ sym q

pub single_unstarted : Single unstarted.Post (λ κ r s. r)
single_unstarted κ a r r' s s' p q = p ∙ sym q

pub single_start : Single start.Post (λ κ r s. r)
single_start κ a r r' s s' p q = p.0 ∙ sym q.0

pub single_watchdog_reset : Single watchdog_reset.Post (λ κ r s. r)
single_watchdog_reset κ a r r' s s' p q = p ∙ sym q

pub single_command_reset : Single command_reset.Post (λ κ r s. r)
single_command_reset κ a r r' s s' p q = p ∙ sym q
