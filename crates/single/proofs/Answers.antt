-- The answers of the command step. Assumes nothing.
use mathlib.Core.Path.{sym, ◌∙◌}
use Rattle.single.specs.Single.{Single}
use Rattle.answers.proofs.start_of.Reads as start_of
use Rattle.answers.proofs.header.Reads as header
use Rattle.answers.proofs.stat.Reads as stat
use Rattle.answers.proofs.cause_number.Reads as cause_number
use Rattle.answers.proofs.value_read.Reads as value_read

pub single_start_of : Single start_of.Post (λ κ r s. r)
single_start_of κ a r r' s s' p q = p ∙ sym q

pub single_header : Single header.Post (λ κ r s. r)
single_header κ a r r' s s' p q = p ∙ sym q

pub single_stat : Single stat.Post (λ κ r s. r)
single_stat κ a r r' s s' p q = p ∙ sym q

pub single_cause_number : Single cause_number.Post (λ κ r s. r)
single_cause_number κ a r r' s s' p q = p ∙ sym q

pub single_value_read : Single value_read.Post (λ κ r s. r)
single_value_read κ a r r' s s' p q = p.1 ∙ sym q.1
