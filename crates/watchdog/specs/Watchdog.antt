-- The TTC watchdog: its timer, and what step 5 of a tick makes of it. Times are in ticks. Assumes nothing: these are
-- definitions.
use Rattle.std.specs.Prelude.{ℕ, ◌+◌, ◌-◌, ◌*◌, ◌^◌, min, Bool, cond, ◌&&◌, leb, ltb}
use Rattle.watchdog.specs.declared.Event.{Event}
use Rattle.watchdog.specs.declared.Event.TheVariants.{NoEvent, PeripheralReset, WatchdogReset}

-- one tick more; the timer has 64 bits and stays at its top
unfoldable pub risen_of : ℕ → ℕ
risen_of timer = min (timer + 1) (2 ^ 64 - 1)

-- a timeout above 0 that the timer has reached: the machine resets
abbrev pub resets : ℕ → ℕ → Bool
resets timer w = ltb 0 w && leb w timer

-- a timeout above 0, and 65 hundredths of it are reached in this very tick: a peripheral reset is reported.
-- At timer 0 the subtraction stops at 0, and the first of the two comparisons fails.
abbrev pub reports : ℕ → ℕ → Bool
reports timer w = ltb 0 w && (leb (65 * w) (100 * timer) && ltb (100 * (timer - 1)) (65 * w))

unfoldable pub watched_of : ℕ → ℕ → Event
watched_of timer w = cond (resets timer w) WatchdogReset (cond (reports timer w) PeripheralReset NoEvent)

-- a time in seconds, as the settings hold it, in ticks of 10 ms
abbrev pub seconds_in_ticks : ℕ → ℕ
seconds_in_ticks seconds = seconds * 100
