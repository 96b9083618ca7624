-- A pattern that is not above the infinity's without its sign is no NaN's.
use native.Mathlib.Omega.{arith}
use lib.Ieee.{binary32}
use Rattle.wire.proofs.Patterns.{from_bits, nan_yes, nan_no}
use Rattle.wire.specs.Floats.{float_of}
use Rattle.wire.proofs.floats.float_of32.Goals as goal

pub float_from_bits-result : goal.float_from_bits-result
float_from_bits-result c = from_bits binary32 c.args.pattern (omega arith)

pub returns-then-pattern-le2139095040 : goal.returns-then-pattern-le2139095040
unfolding float_of
returns-then-pattern-le2139095040 c = rw (nan_no binary32 c.args.pattern (omega arith))

pub returns-else-pattern-le2139095040 : goal.returns-else-pattern-le2139095040
unfolding float_of
returns-else-pattern-le2139095040 c = rw (nan_yes binary32 c.args.pattern (omega arith))
