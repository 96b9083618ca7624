-- A store where there is room, and none past the end. Assumes nothing.
use Rattle.std.proofs.Common.{rules}
use Rattle.script.specs.Printing.{typed, and}
use Rattle.script.proofs.printing.Page.put.Goals as goal

pub returns-then-self-clause-typed : goal.returns-then-self-clause-typed
unfolding typed and
returns-then-self-clause-typed c = search rules

pub returns-else-self-clause-typed : goal.returns-else-self-clause-typed
unfolding typed and
returns-else-self-clause-typed c = search rules
