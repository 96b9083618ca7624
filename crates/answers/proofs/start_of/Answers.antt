use Rattle.answers.specs.Answers.{received_in}
use Rattle.answers.proofs.start_of.Goals as goal

pub returns : goal.returns
unfolding received_in
returns c = rw (c.byte.ensures, c.byte-2.ensures, c.byte-3.ensures, c.byte-4.ensures)
