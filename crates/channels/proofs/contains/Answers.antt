-- `contains` meets its contract: a set of 32 channels holds none above 31, and up to there it is the test of the one
-- bit. Assumes nothing.
use mathlib.Core.Path.{sym}
use native.Mathlib.Omega.{arith}
use borrow.Author.Rules.{rules}
use Rattle.channels.proofs.Sets.{is_has, has_out}
use Rattle.channels.proofs.contains.Goals as goal

pub returns-then-c-gt31 : goal.returns-then-c-gt31
returns-then-c-gt31 c =
    sym (has_out 32 c.args.set c.args.c (search rules) (omega arith))

pub returns : goal.returns
returns c = simp is_has
