-- The checksum of the image. Assumes nothing.
use mathlib.Core.Path.{ap, ◌∙◌}
use Rattle.crc.specs.Division.{checksum_of}
use Rattle.image.specs.Image.{settings_checksum}
use Rattle.image.proofs.checksum.Goals as goal

pub returns : goal.returns
unfolding settings_checksum
returns c = c.checksum.ensures ∙ ap checksum_of c.bytes.ensures
