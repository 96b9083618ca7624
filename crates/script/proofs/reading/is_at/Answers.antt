-- The byte at the place is what is compared. Assumes nothing.
use Rattle.script.proofs.reading.is_at.Goals as goal

pub returns : goal.returns
returns c = rw c.byte.ensures
