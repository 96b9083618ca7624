-- The answer from the rest on, after some pairs, is the answer from the start. Assumes nothing.
use Rattle.std.specs.Prelude.{◌≡◌, ◌+◌, ◌≤◌, length}
use Rattle.hexadecimal.specs.Hex.{payload_of}
use Rattle.hexadecimal.specs.Passes.{form_of}
use Rattle.hexadecimal.proofs.count.Given as goal

abbrev pub invariant-loop-rest : goal.invariant-loop-rest
invariant-loop-rest l = (l.pairs + length l.rest ≤ length l.text) × (form_of l.pairs (payload_of l.rest) ≡ form_of 0 (payload_of l.text))

abbrev pub decreases-loop-rest : goal.decreases-loop-rest
decreases-loop-rest l = length l.rest
