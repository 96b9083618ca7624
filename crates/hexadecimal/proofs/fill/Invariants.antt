-- The stores that are left, made on what the buffer holds now, give what all of them give on what it held at first.
-- Assumes nothing.
use Prim.Native.Nat.{◌+◌, ◌*◌, ◌≤◌}
use mathlib.Core.Path.{◌≡◌}
use lib.ListN.{length, drop}
use lib.Seq.{sets}
use Rattle.hexadecimal.specs.Passes.{values}
use Rattle.hexadecimal.proofs.fill.Given as goal

abbrev pub invariant-loop-k : goal.invariant-loop-k
invariant-loop-k l = (length l.out ≡ length l.initial.out) × (l.k + length (values (drop (3 * l.k) l.text)) ≤ length l.out) × (sets l.out l.k (values (drop (3 * l.k) l.text)) ≡ sets l.initial.out 0 (values l.text))
