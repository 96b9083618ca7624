-- What the value and the digits from here on spell is what the digits from `at` on spell, and both end at the same
-- place. Assumes nothing.
use Rattle.std.specs.Prelude.{◌≡◌, ◌≤◌, ◌+◌, ◌-◌, length}
use lib.ListN.{drop}
use Rattle.grammar.specs.Numbers.{digits, spells}
use Rattle.grammar.proofs.read_number.Given as goal

abbrev pub invariant-loop-d : goal.invariant-loop-d
invariant-loop-d l = record {
  small : l.value ≤ l.limit;
  same : spells l.value (digits (drop l.next l.s)) ≡ spells 0 (digits (drop l.at l.s));
  ends : l.next + length (digits (drop l.next l.s)) ≡ l.at + length (digits (drop l.at l.s));
}

abbrev pub decreases-loop-d : goal.decreases-loop-d
decreases-loop-d l = length l.s - l.next
