-- The pattern of the speed measurement. Assumes nothing.
use mathlib.Core.Path.{sym, ◌∙◌}
use Rattle.single.specs.Single.{Single}
use Rattle.pattern.proofs.taken.Reads as taken
use Rattle.pattern.proofs.all_taken.Reads as all_taken
use Rattle.pattern.proofs.digest.U8Number.number.Reads as byte_number
use Rattle.pattern.proofs.digest.U16Number.number.Reads as word_number
use Rattle.pattern.proofs.summed.Reads as summed
use Rattle.pattern.proofs.asked_by.Reads as asked_by
use Rattle.pattern.proofs.turns.Reads as turns
use Rattle.pattern.proofs.is_waking.Reads as is_waking
use Rattle.pattern.proofs.place.Reads as place
use Rattle.pattern.proofs.Transfer.sent.Reads as sent
use Rattle.pattern.proofs.names.RunKindNamesRun.kinds.Reads as run_kinds
use Rattle.pattern.proofs.names.U8NamesRun.kinds.Reads as letter_kinds
use Rattle.pattern.proofs.names.TickKindNamesTick.kind.Reads as tick_kind
use Rattle.pattern.proofs.names.U8NamesTick.kind.Reads as letter_kind
use Rattle.pattern.proofs.brought_by.Reads as brought_by
use Rattle.pattern.proofs.change.Reads as change_by
use Rattle.pattern.proofs.lent.Reads as lent_by
use Rattle.pattern.proofs.first_words.Reads as first_words
use Rattle.pattern.proofs.Brought.change.Reads as change
use Rattle.pattern.proofs.counted.Reads as counted
use Rattle.pattern.proofs.Brought.lent.Reads as lent

pub single_taken : Single taken.Post (λ κ r s. r)
single_taken κ a r r' s s' p q = p ∙ sym q

pub single_all_taken : (t : _) (l : _) (c : _) (n : _) (d : _) (g : _) (e : _) → Single (all_taken.Post t l c n d g e) (λ κ r s. r)
single_all_taken t l c n d g e κ a r r' s s' p q = p ∙ sym q

pub single_byte_number : Single byte_number.Post (λ κ r s. r)
single_byte_number κ a r r' s s' p q = p ∙ sym q

pub single_word_number : Single word_number.Post (λ κ r s. r)
single_word_number κ a r r' s s' p q = p ∙ sym q

pub single_summed : Single summed.Post (λ κ r s. r)
single_summed κ a r r' s s' p q = p ∙ sym q

pub single_asked_by : Single asked_by.Post (λ κ r s. r)
single_asked_by κ a r r' s s' p q = p ∙ sym q

pub single_turns : Single turns.Post (λ κ r s. r)
single_turns κ a r r' s s' p q = p ∙ sym q

pub single_is_waking : Single is_waking.Post (λ κ r s. r)
single_is_waking κ a r r' s s' p q = p ∙ sym q

pub single_place : Single place.Post (λ κ r s. r)
single_place κ a r r' s s' p q = p ∙ sym q

pub single_run_kinds : Single run_kinds.Post (λ κ r s. r)
single_run_kinds κ a r r' s s' p q = p ∙ sym q

pub single_letter_kinds : Single letter_kinds.Post (λ κ r s. r)
single_letter_kinds κ a r r' s s' p q = p ∙ sym q

pub single_tick_kind : Single tick_kind.Post (λ κ r s. r)
single_tick_kind κ a r r' s s' p q = p ∙ sym q

pub single_letter_kind : Single letter_kind.Post (λ κ r s. r)
single_letter_kind κ a r r' s s' p q = p ∙ sym q

pub single_brought_by : (t : _) (l : _) (c : _) (n : _) (d : _) (g : _) (e : _) → Single (brought_by.Post t l c n d g e) (λ κ r s. r)
single_brought_by t l c n d g e κ a r r' s s' p q = p ∙ sym q

pub held_change_by : (t : _) (l : _) (c : _) (n : _) (d : _) (g : _) (e : _) → Single (change_by.Post t l c n d g e) (λ κ r s. s.0.now)
held_change_by t l c n d g e κ a r r' s s' p q = p ∙ sym q

pub single_lent_by : (t : _) (l : _) (c : _) (n : _) (d : _) (g : _) (e : _) → Single (lent_by.Post t l c n d g e) (λ κ r s. r.now)
single_lent_by t l c n d g e κ a r r' s s' p q = p ∙ sym q

pub single_first_words : Single first_words.Post (λ κ r s. r)
single_first_words κ a r r' s s' p q = p ∙ sym q

pub held_change : Single change.Post (λ κ r s. s.1.0.now)
held_change κ a r r' s s' p q = p ∙ sym q

pub single_counted : Single counted.Post (λ κ r s. r.now)
single_counted κ a r r' s s' p q = p ∙ sym q

pub single_lent : Single lent.Post (λ κ r s. r.now)
single_lent κ a r r' s s' p q = p ∙ sym q

pub single_sent : Single sent.Post (λ κ r s. r.now)
single_sent κ a r r' s s' p q = p ∙ sym q
