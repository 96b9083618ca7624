-- What a line does. Assumes nothing.
use mathlib.Core.Path.{sym, ◌∙◌}
use Rattle.single.specs.Single.{Single}
use Rattle.single.proofs.Left.{left_held, left_same}
use Rattle.trial.proofs.run.Reads as run

pub single_run : Single run.Post (λ κ r s. r)
single_run κ a r r' s s' p q = left_same r r' (p ∙ sym q)

pub held_run : Single run.Post (λ κ r s. s.1.1.1.0.now)
held_run κ a r r' s s' p q = left_held r r' (p ∙ sym q)
