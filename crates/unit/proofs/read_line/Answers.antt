-- The read's answer, and the machine after it. Assumes nothing.
use Rattle.unit.specs.Machine.{heard_of}
use Rattle.unit.proofs.read_line.Goals as goal

pub returns-clause-answer : goal.returns-clause-answer
unfolding heard_of
returns-clause-answer c = rw (c.after_line.ensures, c.read-line.ensures.answer)
