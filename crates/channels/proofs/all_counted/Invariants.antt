-- `all_counted` meets its contract. The loop's invariant: the counts of the channels below c are counted, the others as
-- they were. Assumes nothing.
use lib.ListN.{get_or}
use Rattle.channels.specs.Sets.{has}
use Rattle.channels.specs.Counting.{count_one}
use Rattle.channels.proofs.Sofar.{Sofar}
use Rattle.channels.proofs.all_counted.Given as goal

abbrev pub invariant-loop-c : goal.invariant-loop-c
invariant-loop-c l = Sofar (λ k. count_one (has l.tripping k) (get_or l.initial.count-items k 0)) l.initial.count-items l.count-items l.c
