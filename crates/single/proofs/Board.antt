-- One tick. Assumes nothing.
use mathlib.Core.Path.{sym, ◌∙◌}
use Rattle.single.specs.Single.{Single}
use Rattle.board.proofs.tick.Reads as tick

pub single_tick : Single tick.Post (λ κ r s. r)
single_tick κ a r r' s s' p q = p.0 ∙ sym q.0
