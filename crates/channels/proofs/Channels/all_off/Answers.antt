-- `all_off` meets its contract: no channel is in the empty set. Assumes nothing.
use borrow.Author.Rules.{rules}
use Rattle.channels.specs.Operations.{all_off}
use Rattle.channels.proofs.Cases.{holds}
use Rattle.channels.proofs.Whole.{is_whole}
use Rattle.channels.proofs.Channels.all_off.Goals as goal

pub returns : goal.returns
unfolding all_off
returns c = is_whole _ _ (search rules) (λ k h. simp holds)
