-- `forced_on` meets its contract: a channel is in the set of those on where it is in both sets, and none is in the
-- empty set. Assumes nothing.
use borrow.Author.Rules.{rules}
use Rattle.laws.proofs.Cases.{cases}
use Rattle.channels.specs.Sets.{has}
use Rattle.channels.specs.Operations.{forced_on}
use Rattle.channels.proofs.Cases.{holds, fits}
use Rattle.channels.proofs.Whole.{is_whole}
use Rattle.channels.proofs.Channels.forced_on.Goals as goal

pub returns : goal.returns
unfolding forced_on
returns c =
    is_whole _ _
    (search (rules, fits))
    (λ k h.
    simp holds
    (cases (has c.args.fitted k)
    (λ a. cases (has c.args.forced k) (λ b. simp (holds, a, b)) (λ b. simp (holds, a, b)))
    (λ a. simp (holds, a))))
