-- `command_enabled_off` meets its contract: each channel is what the rule says, by cases on the sets that it is in.
-- Assumes nothing.
use borrow.Author.Rules.{rules}
use Rattle.laws.proofs.Cases.{cases}
use Rattle.channels.specs.Sets.{has}
use Rattle.channels.specs.Operations.{command_enabled_off}
use Rattle.channels.proofs.Sets.{and_below}
use Rattle.channels.proofs.Cases.{holds, fits}
use Rattle.channels.proofs.Whole.{is_whole}
use Rattle.channels.proofs.Channels.command_enabled_off.Goals as goal

pub returns : goal.returns
unfolding command_enabled_off
returns c =
    is_whole _ _
    (search (rules, fits))
    (λ k h.
    simp (holds, and_below 32, c.ranges.fitted.fits, c.ranges.forced.fits)
    (cases (has c.args.fitted k)
    (λ a. cases (has c.args.forced k)
    (λ b. simp (holds, a, b))
    (λ b. simp (holds, a, b)))
    (λ a. simp (holds, a))))
