-- When a tick accepts a command of some codes, by what it tells. `m` is the machine before the tick.
-- Assumes nothing: these are definitions.
use Rattle.std.specs.Prelude.{ℕ}
use mathlib.Core.{Bool.Bool, Bool.◌&&◌, List.List}
use Rattle.kinds.specs.Kinds.{is_in}
use Rattle.command.specs.Decode.{code_of}
use Rattle.answers.specs.Answers.{told_number}
use Rattle.unit.specs.{declared.Machine.Machine, Runs.Sample, Runs.told}
use Rattle.groups.specs.Resets.{is_accepted}

-- the tick tells answer 0, and the code of its transfer is one of these
abbrev pub accepts_one_of : List ℕ → Machine → Sample → Bool
accepts_one_of codes m i = is_accepted (told_number (told m i).outcome) && is_in (code_of i.transfer) codes
