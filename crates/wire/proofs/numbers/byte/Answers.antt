-- Within the bytes the byte there, past their end the default.
use mathlib.Core.Path.{sym}
use native.Mathlib.Omega.{arith}
use lib.ListN.{get_or-eq_default}
use Rattle.wire.proofs.numbers.byte.Goals as goal

pub returns-else-at-s : goal.returns-else-at-s
returns-else-at-s c = sym (get_or-eq_default c.args.s.now 0 (omega arith))
