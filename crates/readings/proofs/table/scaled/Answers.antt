-- Both operations fit 64 bits, so they are those of the whole numbers.
use mir.Syntax.{w32, w64}
use Rattle.laws.proofs.Signed.{widens_to}
use Rattle.readings.proofs.Scaled.{sum_fits, product_fits, scaled_is}
use Rattle.readings.proofs.table.scaled.Goals as goal

pub overflow_cast-sum : goal.overflow_cast-sum
overflow_cast-sum c = widens_to w32 w64 tt c.ranges.bias

pub overflow_add-sum : goal.overflow_add-sum
overflow_add-sum c = sum_fits c.args.n c.args.bias c.args.premul c.ranges.n c.ranges.bias c.requires.0 c.requires.1

pub overflow_mul-result : goal.overflow_mul-result
overflow_mul-result c = product_fits c.args.n c.args.bias c.args.premul c.ranges.n c.ranges.bias c.requires.0 c.requires.1

pub returns : goal.returns
returns c = scaled_is c.args.n c.args.bias c.args.premul c.ranges.n c.ranges.bias c.requires.0 c.requires.1
