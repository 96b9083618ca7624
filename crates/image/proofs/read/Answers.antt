-- Each type's values, read from where they begin. Assumes nothing.
use Rattle.image.specs.Image.{settings_of}
use Rattle.image.proofs.read.Goals as goal

pub returns : goal.returns
unfolding settings_of
returns c = rw (c.numbers.ensures, c.numbers-2.ensures, c.numbers-3.ensures, c.numbers-4.ensures, c.numbers-5.ensures)
