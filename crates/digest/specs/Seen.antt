-- What of a board the digest of the speed pattern takes in, as docs/SPEED.md gives it. Assumes nothing: these are
-- definitions.
use Rattle.std.specs.Prelude.{ℕ, ◌+◌, ◌*◌, ◌%◌, Bool, cond}
use lib.{Dec.ltb, ListN.get_or}
use Rattle.wire.specs.declared.reply.Reply.{Reply}
use Rattle.answers.specs.{Answers.answer_number, declared.Outcome.Outcome}
use Rattle.answers.specs.declared.Outcome.TheVariants.{WrongWordCount, NoTransfer, Answered}
use Rattle.modes.specs.{declared.Mode.Mode, declared.ModeAge.ModeAge}
use Rattle.modes.specs.declared.Mode.TheVariants.{Startup, Nominal, Safety, Emergency}
use Rattle.channels.specs.declared.Channels.{Channels}
use Rattle.watchdog.specs.declared.Event.{Event}
use Rattle.watchdog.specs.declared.Event.TheVariants.{NoEvent, PeripheralReset, WatchdogReset}

-- what a mode, an event and an outcome count in the digest
abbrev pub mode_number : Mode → ℕ
mode_number Startup = 0
mode_number Nominal = 1
mode_number Safety = 2
mode_number Emergency = 3

abbrev pub event_number : Event → ℕ
event_number NoEvent = 0
event_number PeripheralReset = 1
event_number WatchdogReset = 2

abbrev pub outcome_number : Outcome → ℕ
outcome_number WrongWordCount = 99
outcome_number NoTransfer = 0
outcome_number (Answered answer) = 1 + answer_number answer

-- what a tick told, and the mode with the timer, in one number each
abbrev pub told_by : Outcome → Event → Bool → ℕ
told_by outcome event replied = 13 * event_number event + 17 * outcome_number outcome + cond replied 19 0

abbrev pub times_of : ModeAge → ℕ → ℕ
times_of phase timer = 5 * (phase.age % 65536) + 7 * (timer % 65536) + 11 * mode_number phase.mode

-- the channels at tick i: which are on and latched, and one of the counts
abbrev pub switched_of : Channels → ℕ → ℕ
switched_of c i = c.on + 3 * c.latched + 31 * (get_or c.counts (i % 32) 0 % 65536)

-- the waiting reply at tick i: its length, and one of its bytes where it has so many
abbrev pub waiting_of : Reply → ℕ → ℕ
waiting_of reply i = 23 * (reply.len % 65536) + cond (ltb (i % 274) reply.len) (29 * (get_or reply.bytes (i % 274) 0 % 256)) 0
