-- The digits that are left, behind the number so far, make what all of them make. Assumes nothing.
use Rattle.std.proofs.Common.{arith}
use Rattle.std.proofs.lemmas.Grind.{common_steps}
use Rattle.pattern.specs.Line.{number_of}
use Rattle.pattern.proofs.Steps.{number_step}
use Rattle.pattern.proofs.line.number.Goals as goal

pub returns-then-not-is_ascii_digit : goal.returns-then-not-is_ascii_digit
returns-then-not-is_ascii_digit c = grind (arith, common_steps, number_step)

pub loop-c-preserved : goal.loop-c-preserved
loop-c-preserved c = grind (arith, common_steps, number_step)

pub returns : goal.returns
unfolding number_of
returns c = grind (arith, common_steps)
