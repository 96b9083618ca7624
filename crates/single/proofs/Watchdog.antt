-- The watchdog. Assumes nothing.
use mathlib.Core.Path.{sym, ◌∙◌}
use Rattle.single.specs.Single.{Single}
use Rattle.watchdog.proofs.risen.Reads as risen
use Rattle.watchdog.proofs.seconds_in_ticks.Reads as seconds_in_ticks
use Rattle.watchdog.proofs.watched.Reads as watched

pub single_risen : Single risen.Post (λ κ r s. r)
single_risen κ a r r' s s' p q = p ∙ sym q

pub single_seconds_in_ticks : Single seconds_in_ticks.Post (λ κ r s. r)
single_seconds_in_ticks κ a r r' s s' p q = p ∙ sym q

pub single_watched : Single watched.Post (λ κ r s. r)
single_watched κ a r r' s s' p q = p ∙ sym q
