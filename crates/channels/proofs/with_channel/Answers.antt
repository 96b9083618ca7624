-- `with_channel` meets its contract: a number above 31 is none of the 32 channels, and `1 << c` is the set of the one
-- channel c. Assumes nothing.
use mathlib.Core.Bool.{or-false}
use native.Mathlib.Omega.{arith}
use borrow.Author.Rules.{rules}
use borrow.Author.Tests.{ne_eqb}
use Rattle.channels.specs.Sets.{with_channel}
use Rattle.channels.proofs.Sets.{is_set_of, has_one}
use Rattle.channels.proofs.Cases.{holds, fits}
use Rattle.channels.proofs.with_channel.Goals as goal

pub returns-then-c-gt31 : goal.returns-then-c-gt31
unfolding with_channel
returns-then-c-gt31 c =
    is_set_of 32 _ _ (search rules) (λ k h. simp (ne_eqb k c.args.c (omega arith), or-false))

pub returns : goal.returns
unfolding with_channel
returns c =
    is_set_of 32 _ _ (search (rules, fits)) (λ k h. simp (holds, has_one 32 c.args.c k (omega arith)))
