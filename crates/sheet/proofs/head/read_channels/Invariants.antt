-- The channels that are left, behind those of the set, are read as all of them from the start. Assumes nothing.
use Rattle.std.specs.Prelude.{◌≡◌, ◌-◌}
use Rattle.sheet.specs.Form.{channels_from}
use Rattle.sheet.proofs.head.read_channels.Given as goal

abbrev pub invariant-loop-k : goal.invariant-loop-k
invariant-loop-k l = channels_from (l.count - l.k) l.least l.set l.s l.i ≡ channels_from l.count 0 0 l.s l.at
