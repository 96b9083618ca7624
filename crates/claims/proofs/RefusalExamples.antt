-- A transfer for another board does not keep the watchdog quiet: with answer 3 a peripheral reset can be reported and
-- the machine can be reset, which 0 and 4 to 7 rule out. antt computes it. Assumes nothing.
use mathlib.Core.Path.{◌≡◌, refl}
use mathlib.Core.Bool.{true}
use mathlib.Core.List.{[], ◌∷◌, map}
use mathlib.Core.Option.{some}
use Prim.Native.Nat.{ℕ}
use Rattle.settings.specs.Table as tables
use Rattle.settings.specs.Values.{with_number, set_of, setting_of, defaults_of, default_n}
use Rattle.modes.specs.Table.{step_of, older_of}
use Rattle.modes.specs.declared.Mode.TheVariants.{Nominal}
use Rattle.watchdog.specs.Watchdog as dog
use Rattle.watchdog.specs.declared.Event.TheVariants.{PeripheralReset, WatchdogReset}
use Rattle.command.specs.Decode.{fewer_than_four}
use Rattle.command.specs.Checks.{first, header_differs, checks}
use Rattle.memory.specs.Memory.{empty_store, loaded_from, set_in}
use Rattle.memory.specs.Limits.{safety_low, safety_high, timeout_of, limits_of}
use Rattle.state.specs.Start.{fresh_of}
use Rattle.change.specs.Change.{is_dark, timer_after}
use Rattle.answers.specs.Answers.{not_this_board_of}
use Rattle.asking.specs.Checks.{is_startup, checks_of}
use Rattle.commands.specs.Step.{returning, transferred_of, commanded_of}
use Rattle.board.specs.Tick.{risen_of, changed_of, tripped_of, watched_in, tick_with, allowed_count, tick_of}
use Rattle.framing.specs.declared.Due.TheVariants.{Nothing}
use Rattle.unit.specs.Machine.{told_of}
use Rattle.unit.specs.declared.Machine.{Machine}
use Rattle.unit.specs.Runs.{Sample, told}
use Rattle.claims.specs.Boundary.{+◌, set, some_board, with_timeout}
use Rattle.refusals.specs.Conditions.{tick_answer}

-- board 1 in nominal with a timeout of 1000 ticks, whose timer the next tick brings to some value
abbrev waiting : ℕ → Machine
waiting timer = record { board = with_timeout 1000 timer (some_board Nominal 1); due = Nothing }

-- a tick with a transfer for board 2
abbrev for_board2 : Sample
for_board2 = record { rail = + 15000; named = 0; words = []; sent = true; transfer = 0x11 ∷ 0x07 ∷ 0x02 ∷ 0x02 ∷ [] }

pub refused_and_not_fed :
    (map (λ timer. tick_answer (waiting timer) for_board2) (650 ∷ 1000 ∷ []) ≡ some 3 ∷ some 3 ∷ [])
    × (map (λ timer. (told (waiting timer) for_board2).event) (650 ∷ 1000 ∷ []) ≡ PeripheralReset ∷ WatchdogReset ∷ [])
unfolding told_of tick_of allowed_count limits_of safety_low safety_high set tick_with risen_of older_of dog.risen_of changed_of step_of is_dark timer_after tripped_of commanded_of transferred_of returning first checks_of checks header_differs is_startup fewer_than_four not_this_board_of watched_in dog.watched_of timeout_of setting_of tables.parameter_of tables.row_of tables.find tables.read_write_rows tables.lies set_in set_of with_number tables.same tables.clamp_of tables.at_least tables.at_most tables.low_of tables.high_of defaults_of default_n tables.column tables.default_of fresh_of loaded_from empty_store
refused_and_not_fed = (refl, refl)
