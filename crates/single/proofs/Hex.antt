-- Pairs of digits, payloads and words. Assumes nothing.
use mathlib.Core.Path.{sym, ◌∙◌}
use Rattle.single.specs.Single.{Single}
use Rattle.hexadecimal.proofs.digit.Reads as digit
use Rattle.hexadecimal.proofs.pair.Reads as pair
use Rattle.hexadecimal.proofs.read.Reads as read
use Rattle.hexadecimal.proofs.write.Reads as write
use Rattle.hexadecimal.proofs.read_word.Reads as read_word
use Rattle.hexadecimal.proofs.write_word.Reads as write_word
use Rattle.hexadecimal.proofs.capital.Reads as capital

pub single_digit : Single digit.Post (λ κ r s. r)
single_digit κ a r r' s s' p q = p.0 ∙ sym q.0

pub single_pair : Single pair.Post (λ κ r s. r)
single_pair κ a r r' s s' p q = p ∙ sym q

pub single_read : Single read.Post (λ κ r s. r)
single_read κ a r r' s s' p q = p.0 ∙ sym q.0

pub held_read : Single read.Post (λ κ r s. s.1.0.now)
held_read κ a r r' s s' p q = p.1.0 ∙ sym q.1.0

pub single_write : Single write.Post (λ κ r s. r)
single_write κ a r r' s s' p q = p.0 ∙ sym q.0

pub held_write : Single write.Post (λ κ r s. s.1.0.now)
held_write κ a r r' s s' p q = p.1.0 ∙ sym q.1.0

pub single_read_word : Single read_word.Post (λ κ r s. r)
single_read_word κ a r r' s s' p q = p.0 ∙ sym q.0

pub single_write_word : Single write_word.Post (λ κ r s. r)
single_write_word κ a r r' s s' p q = p ∙ sym q

pub single_capital : Single capital.Post (λ κ r s. r)
single_capital κ a r r' s s' p q = p ∙ sym q
