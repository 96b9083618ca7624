-- The list that is searched is the kind's.
use Rattle.kinds.proofs.Listing.{listed}
use Rattle.kinds.proofs.lists.Goals as goal

pub returns : goal.returns
returns c = rw (c.contains.ensures.value, c.codes.ensures) (listed c.args.code _)
