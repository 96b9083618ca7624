-- A pattern that is not above the infinity's without its sign is no NaN's.
use native.Mathlib.Omega.{arith}
use lib.Ieee.{binary64}
use Rattle.wire.proofs.Patterns.{from_bits, nan_yes, nan_no}
use Rattle.wire.specs.Floats.{float_of}
use Rattle.wire.proofs.floats.float_of64.Goals as goal

pub float_from_bits-result : goal.float_from_bits-result
float_from_bits-result c = from_bits binary64 c.args.pattern (omega arith)

pub returns-then-pattern-le9218868437227405312 : goal.returns-then-pattern-le9218868437227405312
unfolding float_of
returns-then-pattern-le9218868437227405312 c = rw (nan_no binary64 c.args.pattern (omega arith))

pub returns-else-pattern-le9218868437227405312 : goal.returns-else-pattern-le9218868437227405312
unfolding float_of
returns-else-pattern-le9218868437227405312 c = rw (nan_yes binary64 c.args.pattern (omega arith))
