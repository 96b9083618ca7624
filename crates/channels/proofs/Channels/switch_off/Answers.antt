-- `switch_off` meets its contract: it is the group command with the one channel in the mask, and with none where there
-- is no such channel. Assumes nothing.
use mathlib.Core.Path.{◌∙◌}
use lib.Dec.{eqb}
use Rattle.laws.proofs.Cases.{cases}
use Rattle.channels.specs.Sets.{has}
use Rattle.channels.specs.Operations.{group_off, switch_off}
use Rattle.channels.proofs.Sets.{has_with_channel}
use Rattle.channels.proofs.Cases.{holds}
use Rattle.channels.proofs.Whole.{whole_ext}
use Rattle.channels.proofs.Channels.switch_off.Goals as goal

pub returns : goal.returns
unfolding group_off switch_off
returns c =
    c.group_off.ensures
    ∙ whole_ext _ _
    (λ k h. simp (c.with_channel-one.ensures, has_with_channel, holds)
    (cases (eqb k c.args.c)
    (λ a. simp (holds, a))
    (λ a. cases (has c.args.fitted k)
    (λ b. cases (has c.args.forced k) (λ d. simp (holds, a, b, d)) (λ d. simp (holds, a, b, d)))
    (λ b. simp (holds, a, b)))))
