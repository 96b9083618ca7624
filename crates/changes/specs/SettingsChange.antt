-- Demand 2, by what settings change. Those in force are after a tick what they were before it, unless the tick tells of
-- a reset or accepts a set (0x84), a reset of one (0x86), the defaults (0x90) or a load (0x92). What is stored, and its
-- save count, is what it was, even through a reset, unless the tick accepts a save (0x94). Of every machine and every
-- tick. `m` is the machine before the tick. Assumes nothing: these are definitions.
use Rattle.std.specs.Prelude.{ℕ}
use mathlib.Core.{Path.◌≡◌, Bool.false, List.List, List.[], List.◌∷◌}
use Rattle.unit.specs.{declared.Machine.Machine, Runs.Sample, Runs.told}
use Rattle.groups.specs.Resets.{tells_reset}
use Rattle.changes.specs.Accepted.{accepts_one_of}

-- set, reset of one, defaults, load: the commands after which other settings may be in force
abbrev pub setting_commands : List ℕ
setting_commands = 0x84 ∷ 0x86 ∷ 0x90 ∷ 0x92 ∷ []

-- save: the command after which something else may be stored
abbrev pub saving_commands : List ℕ
saving_commands = 0x94 ∷ []

pub record SettingsChange (m : Machine) (i : Sample) : Type 0 where
  pub in_force : tells_reset m i ≡ false → accepts_one_of setting_commands m i ≡ false → (told m i).machine.board.memory.current ≡ m.board.memory.current
  pub stored : accepts_one_of saving_commands m i ≡ false → (told m i).machine.board.memory.store ≡ m.board.memory.store
