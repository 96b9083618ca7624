-- Demand 3, power. Take a machine that was started from a profile that keeps the rules and then used in any way, and
-- from there a stretch of calls. Let the board have a force-enabled channel (so the claim is about boards with
-- channels, and says nothing of a battery board, which fits none), and let none of these be latched when the stretch
-- begins; let no tick of the stretch reset the machine, alter a setting, or report an overcurrent of such a channel.
-- Then, whatever the rails and the commands: a force-enabled channel is never off for longer than 50 ticks, or than the
-- emergency period where that is more; whenever it comes on in the stretch it is on for at least linger + 1 ticks,
-- unless the stretch ends before; and all of them come on and go off together. On and off mean at a tick's end. A call
-- of the stretch is a tick, a tick that refusal 9 turns away and that does not happen, or a read of the text line.
-- Assumes nothing: this is the claim.
use mathlib.Core.{Path.◌≡◌, Bool.Bool, Bool.true, Bool.false, List.List}
use Rattle.std.specs.Prelude.{ℕ, ◌<◌}
use Rattle.modes.specs.declared.Limits.{Limits}
use Rattle.channels.specs.Sets.{has}
use Rattle.power.specs.{Runs.ends, Runs.channel, Runs.Stretch, Claim.Powered}
use Rattle.memory.specs.Limits.{limits_of}
use Rattle.state.specs.{Parts.word_count, declared.parts.Profile.Profile}
use Rattle.unit.specs.declared.Machine.{Machine}
use Rattle.unit.specs.Runs.{Sample, told, happens, Call, tick, line, after_call, Reached}
use Rattle.groups.specs.Resets.{tells_reset}

-- ---- what is looked at
-- channel k is on
abbrev pub is_on : ℕ → Machine → Bool
is_on k m = has m.board.channels.on k

-- k is one of the 32 channels, fitted and force-enabled by the profile
pub record ForceEnabledBy (p : Profile) (k : ℕ) : Type 0 where
  pub a_channel : k < 32
  pub fitted : has p.fitted k ≡ true
  pub forced : has p.forced k ≡ true

abbrev pub ForceEnabled : ℕ → Machine → Type 0
ForceEnabled k m = ForceEnabledBy m.board.profile k

-- a tick that happens on a board with that number of words
abbrev pub is_tick : ℕ → Call → Bool
is_tick number (tick i) = happens number i
is_tick number (line received room) = false

-- channel k at the end of each tick of a stretch from m, and the same with the channel before the stretch in front
abbrev pub ends_of : ℕ → Machine → List Call → List Bool
ends_of k m calls = ends after_call (is_tick (word_count m.board)) (is_on k) m calls

abbrev pub channel_of : ℕ → Machine → List Call → List Bool
channel_of k m calls = channel after_call (is_tick (word_count m.board)) (is_on k) m calls

-- ---- the stretch
-- a tick resets the machine, by what it tells: a watchdog reset, or a 0xAA that it accepted. `ResetIsTold` of `groups`
-- says that the board then starts over, and only then
abbrev pub Resets : Machine → Sample → Type 0
Resets m i = tells_reset m i ≡ true

-- a tick without a reset, after which every setting has the value that it had, and which names no force-enabled channel
pub record Undisturbed (m : Machine) (i : Sample) : Type 0 where
  pub no_reset : Resets m i → ⊥
  pub no_change : (told m i).machine.board.memory.current ≡ m.board.memory.current
  pub no_overcurrent : (k : ℕ) → ForceEnabled k m → has i.named k ≡ false

-- each tick of the stretch from m that happens is as `Met` says, in the machine that it meets
abbrev pub AtTicks : (Machine → Sample → Type 0) → Machine → Call → Type 0
AtTicks Met m (tick i) = is_tick (word_count m.board) (tick i) ≡ true → Met m i
AtTicks Met m (line received room) = Unit {0}

abbrev pub EachTick : (Machine → Sample → Type 0) → Machine → List Call → Type 0
EachTick Met m calls = Stretch after_call (AtTicks Met) m calls

-- the board has at least one force-enabled channel, so it is one with channels; `OnBoardsWithChannels` has that as a
-- claim
pub record AtLeastOne (m : Machine) : Type 0 where
  pub one : ℕ
  pub is : ForceEnabled one m

-- none of them is latched
abbrev pub NoneLatched : Machine → Type 0
NoneLatched m = (k : ℕ) → ForceEnabled k m → has m.board.channels.latched k ≡ false

-- ---- the claim
-- linger and the emergency period of the board, in ticks
abbrev pub limits : Machine → Limits
limits m = limits_of m.board.memory

pub record Demand3 (m : Machine) (calls : List Call) : Type 0 where
  -- with the state before the stretch in front, by which a channel can be seen to come on at the first tick, and by the
  -- ticks' ends alone
  pub powered : (k : ℕ) → ForceEnabled k m → Powered (limits m).linger (limits m).period (channel_of k m calls)
  pub powered_by_ends : (k : ℕ) → ForceEnabled k m → Powered (limits m).linger (limits m).period (ends_of k m calls)
  pub together : (j k : ℕ) → ForceEnabled j m → ForceEnabled k m → channel_of j m calls ≡ channel_of k m calls

abbrev pub Power : Type 0
Power = (m : Machine) → Reached m → AtLeastOne m → NoneLatched m → (calls : List Call) → EachTick Undisturbed m calls → Demand3 m calls
