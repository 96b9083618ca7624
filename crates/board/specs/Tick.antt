-- One tick in five steps. `rail` is in millivolts with its sign, `named` the set of channels that reported overcurrent,
-- `words` the words lent, `sent` whether there is a transfer and `s` its bytes. Assumes nothing: these are definitions.
use Rattle.std.specs.Prelude.{ℕ}
use mathlib.Core.{Bool.Bool, Bool.true, Bool.false, Bool.cond, Bool.not, Bool.◌||◌, List.List, Option.Option, Option.some}
use lib.{Dec.eqb, IntN.ℤ, ListN.length}
use Rattle.readings.specs.Readings.{measured_as}
use Rattle.modes.specs.{Table.older_of, Table.step_of, declared.Limits.Limits}
use Rattle.channels.specs.Operations.{overcurrent_at}
use Rattle.watchdog.specs.Watchdog as dog
use Rattle.watchdog.specs.declared.Event.{Event}
use Rattle.watchdog.specs.declared.Event.TheVariants.{NoEvent, PeripheralReset, WatchdogReset}
use Rattle.memory.specs.Limits.{timeout_of, limits_of}
use Rattle.state.specs.Parts.{mode_of, word_count, with_phase, with_timer, with_channels, with_measured, with_resets}
use Rattle.state.specs.{Start.watchdog_reset_of, declared.parts.Board.Board}
use Rattle.change.specs.Change.{entering_of, timer_after, resets_after}
use Rattle.state.specs.{declared.parts.Fresh.Fresh, declared.parts.Measured.Measured}
use Rattle.commands.specs.Step.{commanded_of, number_of}
use Rattle.answers.specs.declared.Commanded.{Commanded}
use Rattle.answers.specs.declared.Outcome.TheVariants.{WrongWordCount}
use Rattle.board.specs.declared.Ticked.{Ticked}

-- ---- step 1: age and timer go up by one, and words that came take the place of the old
-- as many as the board has are words brought: raw readings from then on, and new both as raw and as engineering
-- readings
abbrev pub both_new : Fresh
both_new = record { raw = true; engineering = true }

abbrev pub newly_measured : List ℕ → Measured
newly_measured words = record { words = measured_as words; fresh = both_new }

unfoldable pub brought_by : ℕ → List ℕ → Measured → Measured
brought_by number words m = cond (eqb (length words) number) (newly_measured words) m

unfoldable pub risen_of : List ℕ → Board → Board
risen_of words b = with_phase (older_of b.phase) (with_timer (dog.risen_of b.timer) (with_measured (brought_by (word_count b) words b.measured) b))

-- ---- step 2: the change of mode by the table, if there is one
-- the phase after it, with what the change brings for the channels, the timer and the resets
unfoldable pub changed_of : ℤ → Limits → Board → Board
changed_of rail limits b =
    let next = step_of b.phase rail limits in
    with_phase next
    (with_channels (entering_of (mode_of b) next.mode b.profile b.channels)
    (with_timer (timer_after (mode_of b) next.mode b.timer)
    (with_resets (resets_after (mode_of b) next.mode b.resets) b)))

-- ---- step 3: overcurrent
unfoldable pub tripped_of : ℕ → Board → Board
tripped_of named b = with_channels (overcurrent_at named b.channels) b

-- ---- step 5: the watchdog, after the command
-- a reset loses the reply that was made; a peripheral reset is only reported
abbrev pub watched_as : Event → Commanded → Ticked
watched_as NoEvent c = record { board = c.board; outcome = c.outcome; event = NoEvent; replied = c.replied }
watched_as PeripheralReset c = record { board = c.board; outcome = c.outcome; event = PeripheralReset; replied = c.replied }
watched_as WatchdogReset c = record { board = watchdog_reset_of c.board; outcome = c.outcome; event = WatchdogReset; replied = false }

unfoldable pub watched_in : Commanded → Ticked
watched_in c = watched_as (dog.watched_of c.board.timer (dog.seconds_in_ticks (timeout_of c.board.memory))) c

-- ---- the order within a tick
unfoldable pub tick_with : Limits → ℤ → ℕ → List ℕ → Bool → List ℕ → Board → Ticked
tick_with limits rail named words sent s b =
    let risen = risen_of words b in  -- 1
    let changed = changed_of rail limits risen in  -- 2
    let tripped = tripped_of named changed in  -- 3
    let obeyed = commanded_of rail limits sent s tripped in  -- 4
    watched_in obeyed  -- 5

-- ---- any number of words but 0 and the board's own is refused with 9, and nothing of the tick takes place
unfoldable pub allowed_count : ℕ → ℕ → Bool
allowed_count number n = eqb n 0 || eqb n number

abbrev pub not_happened : Board → Ticked
not_happened b = record { board = b; outcome = WrongWordCount; event = NoEvent; replied = false }

-- the limits are the board's own
unfoldable pub tick_of : ℤ → ℕ → List ℕ → Bool → List ℕ → Board → Ticked
tick_of rail named words sent s b =
    cond (not (allowed_count (word_count b) (length words))) (not_happened b) (tick_with (limits_of b.memory) rail named words sent s b)

-- ---- the number that a tick tells: 9, or none where there is no transfer, or that of the first check that applies on
-- the board as steps 1 to 3 leave it
unfoldable pub tick_number : ℤ → ℕ → List ℕ → Bool → List ℕ → Board → Option ℕ
tick_number rail named words sent s b =
    let limits = limits_of b.memory in
    cond (not (allowed_count (word_count b) (length words))) (some 9)
    (number_of rail limits sent s (tripped_of named (changed_of rail limits (risen_of words b))))
