-- `all_counted` meets its contract. The loop's invariant: the counts of the channels below c are counted, the others as
-- they were. Assumes nothing.
use mathlib.Core.Path.{refl, ◌∙◌}
use native.Mathlib.Omega.{arith}
use borrow.Author.Rules.{rules}
use Rattle.channels.specs.Counting.{count_all}
use Rattle.channels.proofs.Sets.{is_list_of, is_has}
use Rattle.channels.proofs.Sofar.{next}
use Rattle.channels.proofs.all_counted.Goals as goal

pub loop-c-init : goal.loop-c-init
loop-c-init c = record { within = omega arith; len = search rules; done = λ k b. absurd (omega arith); rest = λ k b. refl }

pub loop-c-preserved : goal.loop-c-preserved
loop-c-preserved c =
    let l = c.loop-c in
    next l.invariant (omega arith) _ (c.counted.ensures ∙ rw (is_has, l.invariant.rest l.c (omega arith)) refl)

pub returns : goal.returns
unfolding count_all
returns c = is_list_of 32 _ _ c.loop-c.invariant.len (λ k h. c.loop-c.invariant.done k (omega arith))
