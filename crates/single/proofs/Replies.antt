-- The replies. Assumes nothing.
use mathlib.Core.Path.{sym, ◌∙◌}
use Rattle.single.specs.Single.{Single}
use Rattle.replies.proofs.Head.short.Reads as head_short
use Rattle.replies.proofs.Head.faults.Reads as head_faults
use Rattle.replies.proofs.Head.raw_housekeeping.Reads as head_raw_housekeeping
use Rattle.replies.proofs.Head.engineering_housekeeping.Reads as head_engineering_housekeeping
use Rattle.replies.proofs.Head.parameter.Reads as head_parameter
use Rattle.replies.proofs.Head.abf.Reads as head_abf
use Rattle.replies.proofs.Head.raw_battery.Reads as head_raw_battery
use Rattle.replies.proofs.Head.engineering_battery.Reads as head_engineering_battery

pub single_head_short : Single head_short.Post (λ κ r s. r)
single_head_short κ a r r' s s' p q = p ∙ sym q

pub single_head_faults : Single head_faults.Post (λ κ r s. r)
single_head_faults κ a r r' s s' p q = p ∙ sym q

pub single_head_raw_housekeeping : Single head_raw_housekeeping.Post (λ κ r s. r)
single_head_raw_housekeeping κ a r r' s s' p q = p ∙ sym q

pub single_head_engineering_housekeeping : Single head_engineering_housekeeping.Post (λ κ r s. r)
single_head_engineering_housekeeping κ a r r' s s' p q = p ∙ sym q

pub single_head_parameter : Single head_parameter.Post (λ κ r s. r)
single_head_parameter κ a r r' s s' p q = p ∙ sym q

pub single_head_abf : Single head_abf.Post (λ κ r s. r)
single_head_abf κ a r r' s s' p q = p ∙ sym q

pub single_head_raw_battery : Single head_raw_battery.Post (λ κ r s. r)
single_head_raw_battery κ a r r' s s' p q = p ∙ sym q

pub single_head_engineering_battery : Single head_engineering_battery.Post (λ κ r s. r)
single_head_engineering_battery κ a r r' s s' p q = p ∙ sym q
