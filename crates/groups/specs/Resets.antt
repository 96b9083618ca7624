-- When a tick resets the machine, by what it tells: by a watchdog reset as its event, or by a command 0xAA that it
-- accepted; and that this is so. Of every machine, reachable or not, a tick that happens leaves the board in startup at
-- age 0 exactly where it tells of a reset, and the board is then the one that document 01 says, but in the form of its
-- profile, as document 02 has it (K12). A tick refused with 9 resets nothing. No tick alters the profile, and none but
-- a reset the form of the text line. `m` is the machine before the tick. Assumes nothing: these are definitions.
use Rattle.std.specs.Prelude.{ℕ, ◌+◌, ◌<◌, min}
use mathlib.Core.{Path.◌≡◌, Bool.Bool, Bool.true, Bool.false, Bool.cond, Bool.◌&&◌, Bool.◌||◌, List.[]}
use Rattle.std.proofs.Math.Option.{Option, none, some}
use lib.{Dec.eqb, ListN.replicate}
use Rattle.kinds.specs.Kinds.{word_room}
use Rattle.readings.specs.Readings.{raw_of}
use Rattle.wire.specs.Replies.{shown}
use Rattle.modes.specs.Table.{same, entered}
use Rattle.modes.specs.declared.Mode.TheVariants.{Startup}
use Rattle.channels.specs.Chan.{chan}
use Rattle.command.specs.Decode.{code_of}
use Rattle.watchdog.specs.declared.Event.{Event}
use Rattle.watchdog.specs.declared.Event.TheVariants.{NoEvent, PeripheralReset, WatchdogReset}
use Rattle.memory.specs.Memory.{loaded_from}
use Rattle.state.specs.{Parts.word_count, Start.watchdog_reset_of, Start.command_reset_of, declared.parts.Board.Board}
use Rattle.state.specs.declared.parts.Cause.TheVariants.{Watchdog, Commanded}
use Rattle.answers.specs.Answers.{told_number}
use Rattle.unit.specs.{declared.Machine.Machine, Runs.Sample, Runs.told, Runs.happens, Runs.after_step3, Runs.after_step4}

-- ---- what it tells
abbrev pub is_by_watchdog : Event → Bool
is_by_watchdog NoEvent = false
is_by_watchdog PeripheralReset = false
is_by_watchdog WatchdogReset = true

-- an answer in document 01's numbers
abbrev pub is_accepted : Option ℕ → Bool
is_accepted none = false
is_accepted (some number) = eqb number 0

unfoldable pub tells_watchdog_reset : Machine → Sample → Bool
tells_watchdog_reset m i = is_by_watchdog (told m i).event

unfoldable pub tells_command_reset : Machine → Sample → Bool
tells_command_reset m i = is_accepted (told_number (told m i).outcome) && eqb (code_of i.transfer) 0xAA

unfoldable pub tells_reset : Machine → Sample → Bool
tells_reset m i = tells_watchdog_reset m i || tells_command_reset m i

-- ---- the claim
abbrev pub starts_over : Board → Bool
starts_over b = same b.phase.mode Startup && eqb b.phase.age 0

-- what a reset leaves of a board, part by part: of the measured words the whole room is 0, and none is new, as a raw
-- reading or as an engineering one. The profile and the store outlive it, and so do the reset counts, of which
-- `ResetIsTold` speaks.
pub record StartedOver (before after : Board) : Type 0 where
  pub startup : after.phase ≡ entered Startup
  pub timer : after.timer ≡ 0
  pub no_reply : shown after.reply ≡ []
  pub settings : after.memory ≡ loaded_from before.profile.kind before.memory.store
  pub channels : (c : ℕ) → c < 32 → chan after.channels c ≡ record { on = false; latched = false; count = 0 }
  pub profile : after.profile ≡ before.profile
  pub words : after.measured ≡ record { words = replicate word_room (raw_of 0); fresh = record { raw = false; engineering = false } }
  pub form : after.form ≡ before.profile.form

pub record ResetIsTold (m : Machine) (i : Sample) : Type 0 where
  pub exactly : happens (word_count m.board) i ≡ true → tells_reset m i ≡ starts_over (told m i).machine.board
  pub by_watchdog : tells_watchdog_reset m i ≡ true → (told m i).machine.board ≡ watchdog_reset_of (after_step4 m i)
  pub by_command : tells_command_reset m i ≡ true → (told m i).machine.board ≡ command_reset_of (after_step3 m i)
  pub not_happened : happens (word_count m.board) i ≡ false → tells_reset m i ≡ false
  -- the same, part by part; of the reset counts that of its kind is one more, 65,535 at most, and its kind is the cause
  pub watchdog_parts : tells_watchdog_reset m i ≡ true → StartedOver (after_step4 m i) (told m i).machine.board
  pub watchdog_counts : tells_watchdog_reset m i ≡ true → (told m i).machine.board.resets
      ≡ record { power = (after_step4 m i).resets.power; watchdog = min ((after_step4 m i).resets.watchdog + 1) 65535; command = (after_step4 m i).resets.command; cause = Watchdog }
  pub command_parts : tells_command_reset m i ≡ true → StartedOver (after_step3 m i) (told m i).machine.board
  pub command_counts : tells_command_reset m i ≡ true → (told m i).machine.board.resets
      ≡ record { power = (after_step3 m i).resets.power; watchdog = (after_step3 m i).resets.watchdog; command = min ((after_step3 m i).resets.command + 1) 65535; cause = Commanded }
  -- any tick: the profile stays; the form of the text line stays too, but where the tick tells of a reset it is the
  -- profile's
  pub profile : (told m i).machine.board.profile ≡ m.board.profile
  pub form : (told m i).machine.board.form ≡ cond (tells_reset m i) m.board.profile.form m.board.form
