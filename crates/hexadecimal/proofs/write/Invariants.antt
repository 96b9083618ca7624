-- The stores that are left, made on what the buffer holds now, give what those left where the loop begins give. Assumes
-- nothing.
use Prim.Native.Nat.{◌+◌, ◌*◌, ◌≤◌, ◌-◌}
use mathlib.Core.Path.{◌≡◌}
use lib.ListN.{length, drop}
use lib.Seq.{sets}
use Rattle.hexadecimal.specs.Hex.{spaced}
use Rattle.hexadecimal.proofs.write.Given as goal

abbrev pub invariant-loop-i : goal.invariant-loop-i
invariant-loop-i l = (1 ≤ l.i) × (length l.out ≡ length l.initial.out) × (3 * l.n ≤ length l.initial.out + 1) × (sets l.out (3 * l.i - 1) (spaced (drop l.i l.bytes)) ≡ sets l.initial.out 2 (spaced (drop 1 l.bytes)))
