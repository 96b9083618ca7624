-- `clear` meets its contract: antt computes the 32 channels. Assumes nothing.
use mathlib.Core.Path.{refl}
use Rattle.channels.specs.Sets.{set_of, list_of}
use Rattle.channels.specs.Chan.{whole}
use Rattle.channels.specs.Operations.{cleared}
use Rattle.channels.proofs.Channels.clear.Goals as goal

pub returns : goal.returns
unfolding cleared whole set_of list_of
returns c = refl
