-- The answer of the start says whose machine stays. Assumes nothing.
use Rattle.unit.specs.Machine.{begun_of}
use Rattle.unit.proofs.start.Goals as goal

pub returns-in-Ok-clause-value : goal.returns-in-Ok-clause-value
unfolding begun_of
returns-in-Ok-clause-value c = rw (← c.start-s.ensures.value, c.in-Ok.is)

pub returns-in-Err-clause-value : goal.returns-in-Err-clause-value
unfolding begun_of
returns-in-Err-clause-value c = rw (← c.start-s.ensures.value, c.in-Err.is)
