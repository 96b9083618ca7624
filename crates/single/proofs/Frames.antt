-- The scan for a frame. Assumes nothing.
use mathlib.Core.Path.{sym, ◌∙◌}
use Rattle.single.specs.Single.{Single}
use Rattle.frames.proofs.scan.Reads as scan

pub single_scan : Single scan.Post (λ κ r s. r)
single_scan κ a r r' s s' p q = p.0 ∙ sym q.0
