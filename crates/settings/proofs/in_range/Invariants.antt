-- The ids passed lie in range, so that all do exactly where those from the loop's place on do.
use mathlib.Core.Path.{◌≡◌}
use Prim.Native.Nat.{◌+◌, ◌-◌}
use Rattle.settings.specs.Table.{from}
use Rattle.settings.specs.Values.{all_inside}
use Rattle.settings.proofs.in_range.Given as goal

abbrev pub invariant-loop-i : goal.invariant-loop-i
invariant-loop-i l = all_inside l.fn.s (from (0x3000 + l.i) (42 - l.i)) ≡ all_inside l.fn.s (from 0x3000 42)

abbrev pub invariant-loop-i-2 : goal.invariant-loop-i-2
invariant-loop-i-2 l = all_inside l.fn.s (from (0x4000 + l.i) (68 - l.i)) ≡ all_inside l.fn.s (from 0x4000 68)
