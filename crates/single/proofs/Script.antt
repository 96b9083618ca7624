-- Fields and text of a script. Assumes nothing.
use mathlib.Core.Path.{sym, ◌∙◌}
use Rattle.single.specs.Single.{Single}
use Rattle.single.proofs.Pages.{held_same, place_same}
use Rattle.script.proofs.printing.shown.Reads as printing_shown
use Rattle.script.proofs.printing.Page.on.Reads as printing_Page_on
use Rattle.script.proofs.printing.Page.put.Reads as printing_Page_put
use Rattle.script.proofs.printing.Page.text.Reads as printing_Page_text
use Rattle.script.proofs.printing.Page.number.Reads as printing_Page_number
use Rattle.script.proofs.printing.Page.field.Reads as printing_Page_field
use Rattle.script.proofs.printing.Page.bytes.Reads as printing_Page_bytes
use Rattle.script.proofs.printing.Page.string.Reads as printing_Page_string
use Rattle.script.proofs.printing.Page.words.Reads as printing_Page_words
use Rattle.script.proofs.reading.line_of.Reads as reading_line_of
use Rattle.script.proofs.reading.is_at.Reads as reading_is_at
use Rattle.script.proofs.reading.number.Reads as reading_number
use Rattle.script.proofs.reading.pairs.Reads as reading_pairs
use Rattle.script.proofs.reading.lent_words.Reads as reading_lent_words

pub single_printing_shown : Single printing_shown.Post (λ κ r s. r.now)
single_printing_shown κ a r r' s s' p q = p ∙ sym q

-- a page is where it stands, and what its buffer holds
pub place_printing_Page_on : Single printing_Page_on.Post (λ κ r s. r.at)
place_printing_Page_on κ a r r' s s' p q = place_same (p.1 ∙ sym q.1)

pub held_printing_Page_on : Single printing_Page_on.Post (λ κ r s. r.out.now)
held_printing_Page_on κ a r r' s s' p q = held_same (p.1 ∙ sym q.1)

pub place_printing_Page_put : Single printing_Page_put.Post (λ κ r s. s.0.now.at)
place_printing_Page_put κ a r r' s s' p q = place_same (p.1 ∙ sym q.1)

pub held_printing_Page_put : Single printing_Page_put.Post (λ κ r s. s.0.now.out.now)
held_printing_Page_put κ a r r' s s' p q = held_same (p.1 ∙ sym q.1)

pub place_printing_Page_text : Single printing_Page_text.Post (λ κ r s. s.0.now.at)
place_printing_Page_text κ a r r' s s' p q = place_same (p.1 ∙ sym q.1)

pub held_printing_Page_text : Single printing_Page_text.Post (λ κ r s. s.0.now.out.now)
held_printing_Page_text κ a r r' s s' p q = held_same (p.1 ∙ sym q.1)

pub place_printing_Page_number : Single printing_Page_number.Post (λ κ r s. s.0.now.at)
place_printing_Page_number κ a r r' s s' p q = place_same (p.1 ∙ sym q.1)

pub held_printing_Page_number : Single printing_Page_number.Post (λ κ r s. s.0.now.out.now)
held_printing_Page_number κ a r r' s s' p q = held_same (p.1 ∙ sym q.1)

pub place_printing_Page_field : Single printing_Page_field.Post (λ κ r s. s.0.now.at)
place_printing_Page_field κ a r r' s s' p q = place_same (p.1 ∙ sym q.1)

pub held_printing_Page_field : Single printing_Page_field.Post (λ κ r s. s.0.now.out.now)
held_printing_Page_field κ a r r' s s' p q = held_same (p.1 ∙ sym q.1)

pub place_printing_Page_bytes : Single printing_Page_bytes.Post (λ κ r s. s.0.now.at)
place_printing_Page_bytes κ a r r' s s' p q = place_same (p.1 ∙ sym q.1)

pub held_printing_Page_bytes : Single printing_Page_bytes.Post (λ κ r s. s.0.now.out.now)
held_printing_Page_bytes κ a r r' s s' p q = held_same (p.1 ∙ sym q.1)

pub place_printing_Page_string : Single printing_Page_string.Post (λ κ r s. s.0.now.at)
place_printing_Page_string κ a r r' s s' p q = place_same (p.1 ∙ sym q.1)

pub held_printing_Page_string : Single printing_Page_string.Post (λ κ r s. s.0.now.out.now)
held_printing_Page_string κ a r r' s s' p q = held_same (p.1 ∙ sym q.1)

pub place_printing_Page_words : Single printing_Page_words.Post (λ κ r s. s.0.now.at)
place_printing_Page_words κ a r r' s s' p q = place_same (p.1 ∙ sym q.1)

pub held_printing_Page_words : Single printing_Page_words.Post (λ κ r s. s.0.now.out.now)
held_printing_Page_words κ a r r' s s' p q = held_same (p.1 ∙ sym q.1)

pub single_reading_line_of : Single reading_line_of.Post (λ κ r s. r.now)
single_reading_line_of κ a r r' s s' p q = p ∙ sym q

pub single_reading_is_at : Single reading_is_at.Post (λ κ r s. r)
single_reading_is_at κ a r r' s s' p q = p ∙ sym q

pub single_reading_number : Single reading_number.Post (λ κ r s. r)
single_reading_number κ a r r' s s' p q = p ∙ sym q

pub single_reading_pairs : Single reading_pairs.Post (λ κ r s. r)
single_reading_pairs κ a r r' s s' p q = p.0 ∙ sym q.0

pub held_reading_pairs : Single reading_pairs.Post (λ κ r s. s.1.0.now)
held_reading_pairs κ a r r' s s' p q = p.1 ∙ sym q.1

pub single_reading_lent_words : Single reading_lent_words.Post (λ κ r s. r)
single_reading_lent_words κ a r r' s s' p q = p ∙ sym q
