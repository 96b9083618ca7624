-- What the contracts of a tick's own functions speak of. Assumes nothing: these are definitions.
use Rattle.std.specs.Prelude.{Bool, true, false}
use Rattle.watchdog.specs.declared.Event.{Event}
use Rattle.watchdog.specs.declared.Event.TheVariants.{NoEvent, PeripheralReset, WatchdogReset}
use Rattle.state.specs.declared.parts.Board.{Board}
use Rattle.board.specs.declared.Settled.{Settled}

-- the parts of a board that steps 1 to 3 change, but for the measured words
abbrev pub settled_in : Board → Settled
settled_in b = record { phase = b.phase; timer = b.timer; channels = b.channels; resets = b.resets }

-- of what the watchdog does, the one that starts the board over
unfoldable pub is_reset : Event → Bool
is_reset NoEvent = false
is_reset PeripheralReset = false
is_reset WatchdogReset = true
