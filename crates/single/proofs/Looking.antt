-- What a line prints that only looks at a machine, and what a read of its text line prints. Assumes nothing.
use mathlib.Core.Path.{sym, ◌∙◌}
use Rattle.single.specs.Single.{Single}
use Rattle.single.proofs.Pages.{held_same, place_same}
use Rattle.looking.proofs.answer.Reads as answer
use Rattle.looking.proofs.looked.Reads as looked

pub single_answer : Single answer.Post (λ κ r s. r)
single_answer κ a r r' s s' p q = place_same (p ∙ sym q)

pub held_answer : Single answer.Post (λ κ r s. s.1.1.1.1.0.now)
held_answer κ a r r' s s' p q = held_same (p ∙ sym q)

pub single_looked : Single looked.Post (λ κ r s. r)
single_looked κ a r r' s s' p q = place_same (p ∙ sym q)

pub held_looked : Single looked.Post (λ κ r s. s.1.1.0.now)
held_looked κ a r r' s s' p q = held_same (p ∙ sym q)
