-- All that is claimed is proved: each claim by the proof of its own name. Assumes nothing.
use Rattle.refusals.proofs.Answered.{exactly_when}
use Rattle.refusals.proofs.Refused.{refused_command}
use Rattle.refusals.proofs.RefusedTicks.{refused_tick}
use Rattle.refusals.proofs.Untouched.{other_refusals}
use Rattle.refusals.proofs.Rules.{base_board, battery_board}
use Rattle.groups.proofs.Groups.{groups}
use Rattle.groups.proofs.Altered.{altered}
use Rattle.groups.proofs.Resets.{reset_is_told}
use Rattle.groups.proofs.Unfitted.{unfitted}
use Rattle.groups.proofs.Counts.{counts}
use Rattle.changes.proofs.StepsOfChannels.{steps_of_channels}
use Rattle.changes.proofs.ChannelsAfter.{channels_after}
use Rattle.changes.proofs.SettingsChange.{settings_change}
use Rattle.changes.proofs.ModeChange.{mode_change}
use Rattle.changes.proofs.CountsShown.{counts_shown}
use Rattle.changes.proofs.SoundMachine.{sound_machine}
use Rattle.changes.proofs.NewReadings.{new_readings}
use Rattle.changes.proofs.ReadingsShown.{readings_shown}
use Rattle.changes.proofs.AbfShown.{abf_shown}
use Rattle.exact.proofs.Exact.{exact_reading, never_smaller}
use Rattle.exact.proofs.Line.{exact_temperature}
use Rattle.power.proofs.Theorem.{powered}
use Rattle.power.proofs.Tight.{tight}
use Rattle.claims.specs.Claims.{Claims}
use Rattle.claims.proofs.Boundary.{boundary_table}
use Rattle.claims.proofs.Dark.{dark}
use Rattle.claims.proofs.Power.{power, power_of_one}
use Rattle.claims.proofs.PowerNeeded.{power_needed}
use Rattle.claims.proofs.PowerReal.{power_real}
use Rattle.claims.proofs.Standing.{standing}
use Rattle.claims.proofs.Wrong.{all_caught, all_break}
use Rattle.claims.proofs.OnBoardsWithChannels.{on_boards_with_channels}

pub claims : Claims
claims =
    record {
      boundary_table = boundary_table;
      exactly_when = exactly_when;
      refused_command = refused_command;
      refused_tick = refused_tick;
      other_refusals = other_refusals;
      base_board = base_board;
      battery_board = battery_board;
      groups = groups;
      altered = altered;
      reset_is_told = reset_is_told;
      unfitted = unfitted;
      counts = counts;
      steps_of_channels = steps_of_channels;
      channels_after = channels_after;
      settings_change = settings_change;
      mode_change = mode_change;
      counts_shown = counts_shown;
      sound_machine = sound_machine;
      new_readings = new_readings;
      readings_shown = readings_shown;
      abf_shown = abf_shown;
      dark = dark;
      exact_reading = exact_reading;
      never_smaller = never_smaller;
      exact_temperature = exact_temperature;
      power = power;
      power_of_one = power_of_one;
      power_needed = power_needed;
      power_real = power_real;
      on_boards_with_channels = on_boards_with_channels;
      standing = standing;
      small_machine = powered;
      tight = tight;
      all_caught = all_caught;
      all_break = all_break;
    }
