-- The settings. Assumes nothing.
use mathlib.Core.Path.{sym, ◌∙◌}
use Rattle.single.specs.Single.{Single}
use Rattle.settings.proofs.parameter_of.Reads as parameter_of
use Rattle.settings.proofs.defaults.Reads as defaults
use Rattle.settings.proofs.get.Reads as get
use Rattle.settings.proofs.set.Reads as set
use Rattle.settings.proofs.reset_one.Reads as reset_one
use Rattle.settings.proofs.in_range.Reads as in_range

pub single_parameter_of : Single parameter_of.Post (λ κ r s. r)
single_parameter_of κ a r r' s s' p q = p.0 ∙ sym q.0

pub single_defaults : Single defaults.Post (λ κ r s. r)
single_defaults κ a r r' s s' p q = p ∙ sym q

pub single_get : Single get.Post (λ κ r s. r)
single_get κ a r r' s s' p q = p.0 ∙ sym q.0

pub single_set : Single set.Post (λ κ r s. r)
single_set κ a r r' s s' p q = p ∙ sym q

pub single_reset_one : Single reset_one.Post (λ κ r s. r)
single_reset_one κ a r r' s s' p q = p ∙ sym q

pub single_in_range : Single in_range.Post (λ κ r s. r)
single_in_range κ a r r' s s' p q = p ∙ sym q
