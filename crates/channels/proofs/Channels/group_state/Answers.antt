-- `group_state` meets its contract: each channel is what the rule says, by cases on the sets that it is in. Assumes
-- nothing.
use borrow.Author.Rules.{rules}
use Rattle.laws.proofs.Cases.{cases}
use Rattle.channels.specs.Sets.{has}
use Rattle.channels.specs.Operations.{group_state}
use lib.Bits.{or_lt}
use Rattle.channels.proofs.Sets.{and_below}
use Rattle.channels.proofs.Cases.{holds, fits}
use Rattle.channels.proofs.Whole.{is_whole}
use Rattle.channels.proofs.Channels.group_state.Goals as goal

pub returns : goal.returns
unfolding group_state
returns c =
    is_whole _ _
    (search (rules, fits))
    (λ k h.
    simp (holds, and_below 32, or_lt 32, c.ranges.fitted.fits, c.ranges.forced.fits, c.ranges.spoken.fits, c.ranges.mask.fits)
    (cases (has c.args.fitted k)
    (λ a. cases (has c.args.spoken k)
    (λ b. cases (has c.args.forced k)
    (λ d. cases (has c.args.mask k)
    (λ e. simp (holds, a, b, d, e))
    (λ e. simp (holds, a, b, d, e)))
    (λ d. cases (has c.args.mask k)
    (λ e. simp (holds, a, b, d, e))
    (λ e. simp (holds, a, b, d, e))))
    (λ b. simp (holds, a, b)))
    (λ a. simp (holds, a))))
