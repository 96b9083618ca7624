-- `within` meets its contract: what is left over of the inner set holds each channel that is not in the outer one, and
-- it holds none where all are. Assumes nothing.
use Rattle.laws.proofs.Cases.{cases}
use Rattle.channels.specs.Sets.{has, is_within}
use Rattle.channels.proofs.Sets.{all_below_ext, is_none, and_below}
use Rattle.channels.proofs.Cases.{holds}
use Rattle.channels.proofs.within.Goals as goal

pub returns : goal.returns
unfolding is_within
returns c =
    simp (is_none 32, and_below 32, c.ranges.inner.fits, c.ranges.outer.fits)
    (all_below_ext 32 _ _
    (λ k h.
    simp (holds, c.ranges.inner.fits, c.ranges.outer.fits)
    (cases (has c.args.inner k)
    (λ a. cases (has c.args.outer k) (λ b. simp (holds, a, b)) (λ b. simp (holds, a, b)))
    (λ a. simp (holds, a)))))
