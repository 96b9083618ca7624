-- Steps 1 to 3, one after another.
use mir.Syntax.{w16}
use mir.ValLaws.{to_z-of_z}
use Rattle.board.specs.Tick.{risen_of, changed_of, tripped_of}
use Rattle.board.proofs.settle.Goals as goal

pub returns : goal.returns
unfolding risen_of changed_of tripped_of
returns c = rw (c.resets_after-resets.ensures, c.channels_after-channels.ensures, c.timer_after-timer.ensures, c.risen-risen.ensures, c.mode-after.ensures, c.kept-phase.ensures, c.step-stepped.ensures, c.mode-before.ensures, c.older-older.ensures, to_z-of_z w16 c.args.rail c.ranges.rail)
