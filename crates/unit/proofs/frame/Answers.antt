-- What is due, by the form in force, of the reply that waits. Assumes nothing.
use Rattle.wire.specs.Replies.{shown}
use Rattle.unit.specs.Machine.{due_of}
use Rattle.unit.proofs.frame.Goals as goal

pub returns-clause-answer : goal.returns-clause-answer
unfolding due_of shown
returns-clause-answer c = rw (← c.first.ensures) c.frame.ensures.answer

pub returns-clause-held : goal.returns-clause-held
unfolding due_of shown
returns-clause-held c = rw (← c.first.ensures) c.frame.ensures.held

pub returns-clause-number : goal.returns-clause-number
unfolding due_of shown
returns-clause-number c = rw (← c.first.ensures) c.frame.ensures.number
