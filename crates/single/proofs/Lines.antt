-- The lines of a script. Assumes nothing.
use mathlib.Core.Path.{sym, ◌∙◌}
use Rattle.single.specs.Single.{Single}
use Rattle.lines.proofs.asks.Reads as asks

pub single_asks : Single asks.Post (λ κ r s. r)
single_asks κ a r r' s s' p q = p.0 ∙ sym q.0

pub held_asks : Single asks.Post (λ κ r s. s.1.0.now)
held_asks κ a r r' s s' p q = p.1 ∙ sym q.1
