-- The boundary table holds: antt computes each of its rows. Assumes nothing.
use mathlib.Core.Path.{◌≡◌, refl}
use mathlib.Core.List.{List, [], ◌∷◌, map}
use Rattle.kinds.specs.Kinds.{is_in}
use Rattle.wire.specs.Replies as replies
use Rattle.wire.specs.Numbers.{bytes_of, number}
use Rattle.settings.specs.Table as tables
use Rattle.settings.specs.Values.{with_number, set_of as set_setting, setting_of, defaults_of, default_n}
use Rattle.modes.specs.Table.{step_of, older_of}
use Rattle.channels.specs.Sets.{has, set_of}
use Rattle.channels.specs.Chan.{whole}
use Rattle.channels.specs.Operations.{overcurrent_at, group_off, group_state}
use Rattle.watchdog.specs.Watchdog as dog
use Rattle.command.specs.Table as command_table
use Rattle.command.specs.Decode.{fewer_than_four, header_is, group_in, carried, listed, decode_of}
use Rattle.command.specs.Checks.{first, header_differs, id_wrong, checks}
use Rattle.memory.specs.Memory.{empty_store, loaded_from, set_in}
use Rattle.memory.specs.Limits.{timeout_of}
use Rattle.replies.specs.Layouts.{short_reply}
use Rattle.state.specs.Start.{fresh_of, watchdog_reset_of}
use Rattle.change.specs.Change.{is_dark, from_nominal_to_safety, entering_of, timer_after}
use Rattle.answers.specs.Answers.{accepted_with, accepted_of, refused_of}
use Rattle.effects.specs.Effects.{is_nominal, switched_of, group_off_of, group_state_of, reported_of, run_of}
use Rattle.asking.specs.Checks.{is_startup, channel_codes, unavailable, channel_wrong, checksum_wrong, checks_of}
use Rattle.commands.specs.Step.{returning, transferred_of, commanded_of}
use Rattle.board.specs.Tick.{risen_of, changed_of, tripped_of, watched_in, tick_with}
use Rattle.claims.specs.Boundary.{Row, set, rows, seen, expected, BoundaryTable}

-- row by row
infixr 20 ◌and◌
data Each : List Row → Type 0 where
  none : Each []
  ◌and◌ : {r : Row} {rs : List Row} → seen r ≡ expected r → Each rs → Each (r ∷ rs)

in_one : (rs : List Row) → Each rs → map seen rs ≡ map expected rs
in_one [] none = refl
in_one (r ∷ rs) (p and ps) = rw (p, in_one rs ps)

each_row : Each rows
unfolding set rows tick_with risen_of older_of dog.risen_of changed_of step_of entering_of is_dark from_nominal_to_safety timer_after whole has set_of tripped_of overcurrent_at commanded_of transferred_of returning first checks_of checks header_differs id_wrong unavailable channel_codes channel_wrong checksum_wrong is_startup fewer_than_four decode_of header_is is_in command_table.command_table command_table.find listed carried group_in number bytes_of run_of reported_of group_off_of group_state_of switched_of is_nominal group_off group_state accepted_of accepted_with refused_of short_reply replies.shown replies.written replies.reply_of replies.room replies.laid_out replies.reply_code watched_in dog.watched_of timeout_of setting_of tables.parameter_of tables.row_of tables.find tables.read_write_rows tables.lies set_in set_setting with_number tables.same tables.clamp_of tables.at_least tables.at_most tables.low_of tables.high_of defaults_of default_n tables.column tables.default_of fresh_of watchdog_reset_of loaded_from empty_store
each_row =
    refl  -- 1
    and refl  -- 2
    and refl  -- 3
    and refl  -- 4
    and refl  -- 5
    and refl  -- 5
    and refl  -- 6
    and refl  -- 6
    and refl  -- 7
    and refl  -- 8
    and refl  -- 9
    and refl  -- 10
    and refl  -- 11
    and refl  -- 12
    and refl  -- 13
    and refl  -- 14
    and refl  -- 15
    and refl  -- 15
    and none

pub boundary_table : BoundaryTable
boundary_table = in_one rows each_row
