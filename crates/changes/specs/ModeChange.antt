-- Demand 2, by what the mode changes: by a row of the table, by 0x30, by 0x32, or by a reset. A tick that happens,
-- tells of no reset and accepts neither 0x30 nor 0x32 leaves mode and age as the table makes them of the mode one tick
-- older; and if the mode is then another, a row of the table leads from the one to the other, what it asks for holds,
-- and the age is 0. An accepted 0x30 or 0x32 leaves what `to_nominal` or `to_safety` makes of mode and age as step 3 left
-- them. Of every machine and every tick; `Resets` has what a reset leaves. `m` is the machine before the tick.
-- Assumes nothing: these are definitions.
use Rattle.std.specs.Prelude.{ℕ}
use mathlib.Core.{Path.◌≡◌, Bool.true, Bool.false, List.List, List.[], List.◌∷◌}
use Rattle.modes.specs.Table.{Row, from◌when◌to◌, mode_table, same, step_of, older_of}
use Rattle.modes.specs.{Commands.to_nominal, Commands.to_safety, Commands.leaves, declared.ModeAge.ModeAge, declared.Limits.Limits}
use Rattle.memory.specs.Limits.{limits_of}
use Rattle.state.specs.Parts.{word_count}
use Rattle.unit.specs.{declared.Machine.Machine, Runs.Sample, Runs.told, Runs.happens, Runs.after_step3}
use Rattle.groups.specs.Resets.{tells_reset}
use Rattle.changes.specs.Accepted.{accepts_one_of}

-- a row is one of some rows
infix 30 ◌is_one_of◌
pub data ◌is_one_of◌ (row : Row) : List Row → Type 0 where
  here : {other : Row} {rows : List Row} → row ≡ other → row is_one_of other ∷ rows
  further : {other : Row} {rows : List Row} → row is_one_of rows → row is_one_of other ∷ rows

-- to nominal, to safety: the commands that may change the mode
abbrev pub mode_commands : List ℕ
mode_commands = 0x30 ∷ 0x32 ∷ []

-- mode and age before the tick, one tick older, and after it; and the limits in force
abbrev pub before : Machine → ModeAge
before m = older_of m.board.phase

abbrev pub afterwards : Machine → Sample → ModeAge
afterwards m i = (told m i).machine.board.phase

abbrev pub limits : Machine → Limits
limits m = limits_of m.board.memory

-- a row leads from the mode before to the mode after, what it asks for holds, and the mode after was just entered
pub record ByARow (m : Machine) (i : Sample) : Type 0 where
  pub row : (from m.board.phase.mode when true to (afterwards m i).mode) is_one_of mode_table (before m).age i.rail (limits m)
  pub just_entered : (afterwards m i).age ≡ 0

-- nothing but the table has a say in the mode
pub record TableAlone (m : Machine) (i : Sample) : Type 0 where
  pub happening : happens (word_count m.board) i ≡ true
  pub no_reset : tells_reset m i ≡ false
  pub no_command : accepts_one_of mode_commands m i ≡ false

pub record ModeChange (m : Machine) (i : Sample) : Type 0 where
  pub by_table : TableAlone m i → afterwards m i ≡ step_of (before m) i.rail (limits m)
  pub by_row : TableAlone m i → same m.board.phase.mode (afterwards m i).mode ≡ false → ByARow m i
  pub to_nominal : accepts_one_of (0x30 ∷ []) m i ≡ true → afterwards m i ≡ leaves (to_nominal (after_step3 m i).phase i.rail (limits m)) (after_step3 m i).phase
  pub to_safety : accepts_one_of (0x32 ∷ []) m i ≡ true → afterwards m i ≡ leaves (to_safety (after_step3 m i).phase) (after_step3 m i).phase
