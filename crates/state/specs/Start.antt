-- A profile's start, and a reset: what each part of the board then is. Assumes nothing: these are definitions.
use Rattle.std.specs.Prelude.{ℕ, Some, None, Result, Ok, Err, ⊤}
use mathlib.Core.{Bool.Bool, Bool.true, Bool.false, Bool.cond, Bool.not, Bool.◌&&◌, Bool.◌||◌, List.[]}
use lib.{Dec.eqb, Dec.leb}
use Rattle.kinds.specs.Kinds.{board_of, is_served}
use Rattle.readings.specs.Readings.{none_measured}
use Rattle.wire.specs.Replies.{reply_of}
use Rattle.modes.specs.Table.{entered}
use Rattle.modes.specs.declared.Mode.TheVariants.{Startup}
use Rattle.channels.specs.{Sets.is_within, Operations.cleared}
use Rattle.settings.specs.Values.{in_range_of}
use Rattle.memory.specs.{Memory.one_more, Memory.empty_store, Memory.loaded_from, Memory.Store}
use Rattle.state.specs.{Parts.distribution_board, declared.parts.Board.Board, declared.parts.Fresh.Fresh, declared.parts.Measured.Measured, declared.parts.Profile.Profile}
use Rattle.state.specs.{declared.parts.Resets.Resets, declared.starting.StartRefusal.StartRefusal, declared.starting.Started.Started}
use Rattle.state.specs.declared.parts.Cause.TheVariants.{PowerOn, Watchdog, Commanded}
use Rattle.state.specs.declared.starting.StartRefusal.TheVariants.{ProfileBreaksARule}

-- ---- what a start and a reset have in common
-- measured words 0, in the room of the board that has the most, and none of them new
abbrev pub none_new : Fresh
none_new = record { raw = false; engineering = false }

abbrev pub unmeasured : Measured
unmeasured = record { words = none_measured; fresh = none_new }

-- a board with nothing behind it: startup just entered, the timer at 0, no reply, what the store holds in force or else
-- the defaults of its kind, channels that are off, unlatched and uncounted, no words, the profile's form
unfoldable pub fresh_of : Profile → Store → Resets → Board
fresh_of profile store resets =
    record {
      phase = entered Startup;
      timer = 0;
      reply = reply_of [];
      memory = loaded_from profile.kind store;
      channels = cleared;
      profile = profile;
      measured = unmeasured;
      resets = resets;
      form = profile.form;
    }

-- ---- a reset: the count of its kind goes up by one, to the top at most, and its kind becomes the cause
unfoldable pub by_watchdog : Resets → Resets
by_watchdog r = record { power = r.power; watchdog = one_more r.watchdog; command = r.command; cause = Watchdog }

unfoldable pub by_command : Resets → Resets
by_command r = record { power = r.power; watchdog = r.watchdog; command = one_more r.command; cause = Commanded }

unfoldable pub watchdog_reset_of : Board → Board
watchdog_reset_of b = fresh_of b.profile b.memory.store (by_watchdog b.resets)

unfoldable pub command_reset_of : Board → Board
command_reset_of b = fresh_of b.profile b.memory.store (by_command b.resets)

-- ---- a start from a profile: likewise, with nothing counted yet and power-on for the cause
unfoldable pub never_reset : Resets
never_reset = record { power = 0; watchdog = 0; command = 0; cause = PowerOn }

-- the values that are stored, if any are, lie in range; none can be a NaN, as no parameter is a float
abbrev pub stored_in_range : Store → Bool
stored_in_range (Some s) = in_range_of s.settings
stored_in_range None = true

-- BID 1 to the last of its kind
unfoldable pub bid_in_range : Profile → Bool
bid_in_range p = leb 1 p.bid && leb p.bid (board_of p.kind).last_bid

-- at least one channel fitted, on a board that has a place for any
unfoldable pub any_fitted : ℕ → ℕ → Bool
any_fitted places fitted = eqb places 0 || not (eqb fitted 0)

-- the fitted ones all in a place; the force-enabled ones all fitted
unfoldable pub channels_in_place : Profile → Bool
channels_in_place p =
    any_fitted (board_of p.kind).places p.fitted
    && is_within p.fitted (board_of p.kind).places
    && is_within p.forced p.fitted

-- a kind that can be started; its BID; its channels; stored values in range
unfoldable pub keeps_the_rules : Profile → Store → Bool
keeps_the_rules p store = is_served p.kind && bid_in_range p && channels_in_place p && stored_in_range store

-- refusal 8 exactly where a rule is broken; the board that was there then stays
unfoldable pub start_of : Board → Profile → Store → Started
start_of there p store =
    cond (keeps_the_rules p store)
    (record { board = fresh_of p store never_reset; answer = Ok tt })
    (record { board = there; answer = Err ProfileBreaksARule })

-- what a start answers: that it is accepted, or why it is refused
abbrev pub StartAnswer : Type 0
StartAnswer = Result ⊤ StartRefusal

abbrev pub start_number : StartAnswer → ℕ
start_number (Ok done) = 0
start_number (Err ProfileBreaksARule) = 8

-- what stands in for a board before the first start: no channel is fitted
unfoldable pub unstarted_board : Board
unstarted_board = fresh_of (distribution_board 0 0 0) empty_store never_reset
