-- The first place from here on is the first place from `at` on. Assumes nothing.
use Rattle.std.specs.Prelude.{◌≡◌, ◌≤◌}
use lib.ListN.{drop}
use Rattle.grammar.specs.Grammar.{first_from}
use Rattle.grammar.proofs.find_byte.Given as goal

abbrev pub invariant-loop-i : goal.invariant-loop-i
invariant-loop-i l = (l.at ≤ l.i) × (first_from l.b l.i (drop l.i l.s) ≡ first_from l.b l.at (drop l.at l.s))
