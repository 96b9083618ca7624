-- Texts read from a place on. Assumes nothing.
use mathlib.Core.Path.{sym, ◌∙◌}
use Rattle.single.specs.Single.{Single}
use Rattle.single.proofs.Seen.{same_found, same_line, same_next}
use Rattle.grammar.proofs.peek.Reads as peek
use Rattle.grammar.proofs.literal.Reads as literal
use Rattle.grammar.proofs.find_byte.Reads as find_byte
use Rattle.grammar.proofs.read_number.Reads as read_number
use Rattle.grammar.proofs.read_signed.Reads as read_signed
use Rattle.grammar.proofs.read_word.Reads as read_word

pub single_peek : Single peek.Post (λ κ r s. r)
single_peek κ a r r' s s' p q = p.0 ∙ sym q.0

pub single_literal : Single literal.Post (λ κ r s. r)
single_literal κ a r r' s s' p q = same_next r r' (p.0 ∙ sym q.0)

pub single_find_byte : Single find_byte.Post (λ κ r s. r)
single_find_byte κ a r r' s s' p q = same_line a.0.now a.1.0 r r' (p.0 ∙ sym q.0)

pub single_read_number : Single read_number.Post (λ κ r s. r)
single_read_number κ a r r' s s' p q = same_found r r' (p.0 ∙ sym q.0)

pub single_read_signed : Single read_signed.Post (λ κ r s. r)
single_read_signed κ a r r' s s' p q = same_found r r' (p.0 ∙ sym q.0)

pub single_read_word : Single read_word.Post (λ κ r s. r)
single_read_word κ a r r' s s' p q = same_found r r' (p.0 ∙ sym q.0)
