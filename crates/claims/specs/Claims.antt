-- All that is claimed of the machine, on one page. Each field is a claim, which its own file states with its premises;
-- where a claim is about one transfer, one tick or one machine, it is claimed of all of them. docs/CLAIMS.md has each
-- in words. Assumes nothing: this is what is claimed, and `claims` in the proofs/ of this crate is its one proof.
use Rattle.memory.specs.Memory.{Store}
use Rattle.std.specs.Prelude.{ℕ, List, ℤ}
use Rattle.modes.specs.declared.Limits.{Limits}
use Rattle.state.specs.{declared.parts.Board.Board, declared.parts.Profile.Profile}
use Rattle.unit.specs.{declared.Machine.Machine, Runs.Sample, Runs.Reached}
use Rattle.refusals.specs.{Conditions.ExactlyWhen, Refused.RefusedCommand, RefusedTicks.RefusedTick, Untouched.OtherRefusals, Rules.BaseBoard, Rules.BatteryBoard}
use Rattle.groups.specs.{Groups.Groups, Altered.Altered, Resets.ResetIsTold, Unfitted.Unfitted, Counts.Counts}
use Rattle.changes.specs.{StepsOfChannels.StepsOfChannels, ChannelsAfter.ChannelsAfter, SettingsChange.SettingsChange}
use Rattle.changes.specs.{ModeChange.ModeChange, CountsShown.CountsShown, SoundMachine.SoundMachine}
use Rattle.changes.specs.{NewReadings.NewReadings, ReadingsShown.ReadingsShown, AbfShown.AbfShown}
use Rattle.readings.specs.{declared.apart.Raw.Raw, declared.table.Row.Row}
use Rattle.exact.specs.{Exact.ExactReading, Exact.NeverSmaller, Line.ExactTemperature}
use Rattle.power.specs.{Claim.Claim, Tight.Tight}
use Rattle.claims.specs.{Boundary.BoundaryTable, Dark.Dark, Power.Power, PowerOfOne.PowerOfOne, PowerNeeded.PowerNeeded}
use Rattle.claims.specs.{PowerReal.PowerReal, OnBoardsWithChannels.OnBoardsWithChannels, Standing.Standing, Wrong.AllCaught, Wrong.AllBreak}

pub record Claims : Type 0 where
  -- document 01's boundary table
  pub boundary_table : BoundaryTable
  -- demand 1: one answer to every transfer, sample, text line and sheet, and what a refusal leaves
  pub exactly_when : ExactlyWhen
  pub refused_command : RefusedCommand
  pub refused_tick : RefusedTick
  pub other_refusals : OtherRefusals
  pub base_board : BaseBoard
  pub battery_board : BatteryBoard
  -- demand 2: what commands, overcurrent and resets do, at every tick
  pub groups : (rail : ℤ) (limits : Limits) (transfer : List ℕ) (board : Board) → Groups rail limits transfer board
  pub altered : (rail : ℤ) (limits : Limits) (transfer : List ℕ) (board : Board) → Altered rail limits transfer board
  pub reset_is_told : (m : Machine) (i : Sample) → ResetIsTold m i
  pub unfitted : (m : Machine) (r : Reached m) → Unfitted m r
  pub counts : (there : Machine) (profile : Profile) (store : Store) → Counts there profile store
  pub steps_of_channels : (m : Machine) (i : Sample) → StepsOfChannels m i
  pub channels_after : (m : Machine) (i : Sample) → ChannelsAfter m i
  pub settings_change : (m : Machine) (i : Sample) → SettingsChange m i
  pub mode_change : (m : Machine) (i : Sample) → ModeChange m i
  pub counts_shown : (there : Machine) (profile : Profile) (store : Store) → CountsShown there profile store
  pub sound_machine : (m : Machine) (r : Reached m) → SoundMachine m r
  pub new_readings : (m : Machine) (i : Sample) → NewReadings m i
  pub readings_shown : (m : Machine) (i : Sample) → ReadingsShown m i
  pub abf_shown : (m : Machine) (i : Sample) → AbfShown m i
  pub dark : Dark
  -- engineering readings and the exact values of Tables 3-12 and 3-13
  pub exact_reading : (row : Row) (raw : Raw) → ExactReading row raw
  pub never_smaller : (row : Row) (a b : Raw) → NeverSmaller row a b
  pub exact_temperature : (code : ℕ) → ExactTemperature code
  -- demand 3: how long a force-enabled channel is off, and on, on boards that have one
  pub power : Power
  pub power_of_one : PowerOfOne
  pub power_needed : PowerNeeded
  pub power_real : PowerReal
  pub on_boards_with_channels : OnBoardsWithChannels
  pub standing : Standing
  pub small_machine : Claim
  pub tight : Tight
  -- the wrong programs that document 01 lists
  pub all_caught : AllCaught
  pub all_break : AllBreak
