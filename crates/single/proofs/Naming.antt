-- Letters and digits. Assumes nothing.
use mathlib.Core.Path.{sym, ◌∙◌}
use Rattle.single.specs.Single.{Single}
use Rattle.naming.proofs.mode_letter.Reads as mode_letter
use Rattle.naming.proofs.event_letter.Reads as event_letter
use Rattle.naming.proofs.answer_digit.Reads as answer_digit
use Rattle.naming.proofs.form_letter.Reads as form_letter

pub single_mode_letter : Single mode_letter.Post (λ κ r s. r)
single_mode_letter κ a r r' s s' p q = p ∙ sym q

pub single_event_letter : Single event_letter.Post (λ κ r s. r)
single_event_letter κ a r r' s s' p q = p ∙ sym q

pub single_answer_digit : Single answer_digit.Post (λ κ r s. r)
single_answer_digit κ a r r' s s' p q = p ∙ sym q

pub single_form_letter : Single form_letter.Post (λ κ r s. r)
single_form_letter κ a r r' s s' p q = p ∙ sym q
