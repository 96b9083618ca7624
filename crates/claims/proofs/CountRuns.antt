-- The number of times that channel 0 was taken off, worked out on short runs of a board in nominal, where that channel
-- is forced and on: once by a report; not once more while it is off; twice where 0x10 brought it back between two
-- reports; and not at all where a reset came behind the report or in the same tick. Assumes nothing.
use Prim.Native.Nat.{ℕ}
use mathlib.Core.Path.{◌≡◌, refl, ap, ◌∙◌}
use mathlib.Core.List.{List, [], ◌∷◌, map}
use Rattle.kinds.specs.Kinds.{is_in}
use Rattle.wire.specs.Numbers.{number}
use Rattle.settings.specs.Table.{lies, row_of, find, read_write_rows, read_only_rows, parameter_of, column, default_of, clamp_of, at_least, at_most, low_of, high_of}
use Rattle.settings.specs.Values.{setting_of, defaults_of, default_n}
use Rattle.modes.specs.Table.{step_of, older_of}
use Rattle.channels.specs.Sets.{has, set_of, list_of}
use Rattle.channels.specs.Chan.{whole}
use Rattle.channels.specs.Operations as channels
use Rattle.channels.specs.Operations.{cleared, forced_on, overcurrent_at}
use Rattle.command.specs.Table as commands
use Rattle.command.specs.Decode.{fewer_than_four, header_is, group_in, carried, listed, decode_of}
use Rattle.command.specs.Checks.{first, header_differs, id_wrong, checks}
use Rattle.watchdog.specs.Watchdog as dog
use Rattle.memory.specs.Limits.{limits_of, safety_low, safety_high, timeout_of}
use Rattle.memory.specs.Memory.{empty_store, loaded_from}
use Rattle.state.specs.Start.{fresh_of, command_reset_of}
use Rattle.change.specs.Change.{is_dark, from_nominal_to_safety, entering_of, timer_after, resets_after, leaves_emergency}
use Rattle.answers.specs.Answers.{accepted_with, accepted_of}
use Rattle.effects.specs.Effects.{is_nominal, switched_of, group_on_of, restarted_of, reported_of, run_of}
use Rattle.asking.specs.Checks.{is_startup, channel_codes, unavailable, channel_wrong, checksum_wrong, checks_of}
use Rattle.commands.specs.Step.{returning, transferred_of, commanded_of}
use Rattle.board.specs.Tick.{brought_by, risen_of, changed_of, tripped_of, watched_in, tick_with, allowed_count, tick_of}
use Rattle.unit.specs.Machine.{told_of}
use Rattle.unit.specs.declared.Machine.{Machine}
use Rattle.unit.specs.Runs.{Call, tick}
use Rattle.groups.specs.Resets.{tells_watchdog_reset, tells_command_reset, tells_reset}
use Rattle.groups.specs.Counts.{has_reset, times_taken_off}
use Rattle.claims.specs.Wrong.{awake, sending, reporting, noop, group_on}
use Rattle.claims.proofs.Wrong.{woken, awake_is}

-- overcurrent is reported of channel 0
abbrev report : Call
report = tick (reporting 0b0001 noop)

-- 0x10 for channels 0 to 3
abbrev bring_back : Call
bring_back = tick (sending 15000 group_on)

-- 0xAA with its key
abbrev reset_command : List ℕ
reset_command = 0x11 ∷ 0x07 ∷ 0xAA ∷ 0x01 ∷ 0xA6 ∷ []

-- the runs, in the order of the sentence above
abbrev runs : List (List Call)
runs =
    (report ∷ [])
    ∷ (report ∷ report ∷ [])
    ∷ (report ∷ bring_back ∷ report ∷ [])
    ∷ (report ∷ tick (sending 15000 reset_command) ∷ [])
    ∷ (tick (reporting 0b0001 reset_command) ∷ [])
    ∷ []

-- on the board as it then is
on_woken : map (times_taken_off 0 woken) runs ≡ 1 ∷ 1 ∷ 2 ∷ 0 ∷ 0 ∷ []
unfolding times_taken_off has_reset tells_reset tells_watchdog_reset tells_command_reset told_of tick_of tick_with allowed_count brought_by risen_of changed_of tripped_of watched_in commanded_of transferred_of returning first checks_of checks header_differs id_wrong unavailable channel_codes channel_wrong checksum_wrong is_startup fewer_than_four header_is group_in number carried listed decode_of commands.command_table commands.find is_in run_of reported_of group_on_of switched_of is_nominal restarted_of command_reset_of accepted_of accepted_with channels.group_on cleared forced_on overcurrent_at has set_of list_of whole fresh_of loaded_from empty_store older_of step_of dog.risen_of dog.watched_of is_dark from_nominal_to_safety entering_of timer_after resets_after leaves_emergency limits_of safety_low safety_high timeout_of setting_of parameter_of row_of find read_write_rows read_only_rows lies defaults_of default_n column default_of clamp_of at_least at_most low_of high_of
on_woken = refl

-- the number at the end of each run
pub worked_out : map (times_taken_off 0 awake) runs ≡ 1 ∷ 1 ∷ 2 ∷ 0 ∷ 0 ∷ []
worked_out = ap (λ (m : Machine). map (times_taken_off 0 m) runs) awake_is ∙ on_woken
