-- Modes and ages. Assumes nothing.
use mathlib.Core.Path.{sym, ◌∙◌}
use Rattle.single.specs.Single.{Single}
use Rattle.modes.proofs.ModeAge.start.Reads as modeage_start
use Rattle.modes.proofs.ModeAge.mode.Reads as modeage_mode
use Rattle.modes.proofs.ModeAge.age.Reads as modeage_age
use Rattle.modes.proofs.ModeAge.kept.Reads as modeage_kept
use Rattle.modes.proofs.ModeAge.older.Reads as modeage_older
use Rattle.modes.proofs.ModeAge.step.Reads as modeage_step
use Rattle.modes.proofs.ModeAge.to_safety.Reads as modeage_to_safety
use Rattle.modes.proofs.ModeAge.to_nominal.Reads as modeage_to_nominal

pub single_modeage_start : Single modeage_start.Post (λ κ r s. r)
single_modeage_start κ a r r' s s' p q = p ∙ sym q

pub single_modeage_mode : Single modeage_mode.Post (λ κ r s. r)
single_modeage_mode κ a r r' s s' p q = p ∙ sym q

pub single_modeage_age : Single modeage_age.Post (λ κ r s. r)
single_modeage_age κ a r r' s s' p q = p ∙ sym q

pub single_modeage_kept : Single modeage_kept.Post (λ κ r s. r)
single_modeage_kept κ a r r' s s' p q = p ∙ sym q

pub single_modeage_older : Single modeage_older.Post (λ κ r s. r)
single_modeage_older κ a r r' s s' p q = p ∙ sym q

pub single_modeage_step : Single modeage_step.Post (λ κ r s. r)
single_modeage_step κ a r r' s s' p q = p ∙ sym q

pub single_modeage_to_safety : Single modeage_to_safety.Post (λ κ r s. r)
single_modeage_to_safety κ a r r' s s' p q = p.0 ∙ sym q.0

pub single_modeage_to_nominal : Single modeage_to_nominal.Post (λ κ r s. r)
single_modeage_to_nominal κ a r r' s s' p q = p.0 ∙ sym q.0
