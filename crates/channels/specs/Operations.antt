-- What document 01 lets happen to the channels: each sentence first for one channel, from what the sets say of it, then
-- for all 32. `fitted` and `forced` are the profile's sets, `mask` is the command's, and `spoken` holds the channels
-- that the command speaks of: all 32, or 0 to 15 where its extended mask is not there. Where a rule says nothing of a
-- channel, as of one that is not fitted or not spoken of, it stays as it is, its latch too. Assumes nothing.
use Rattle.std.specs.Prelude.{Bool, true, false, if◌then◌else◌, not, ◌&&◌, ◌||◌, ℕ, ◌+◌, min, eqb, ltb}
use Rattle.channels.specs.{Sets.has, Chan.Chan, Chan.chan, Chan.whole, declared.Channels.Channels}

-- tripped by overcurrent: off, latched, and counted once more, but never above 65,535
abbrev pub tripped : Chan → Chan
tripped ch = record { on = false; latched = true; count = min (ch.count + 1) 65535 }

-- on, with no latch
abbrev pub on_and_cleared : Chan → Chan
on_and_cleared ch = record { on = true; latched = false; count = ch.count }

-- off, with no latch
abbrev pub off_and_cleared : Chan → Chan
off_and_cleared ch = record { on = false; latched = false; count = ch.count }

-- off, with its latch as it was
abbrev pub off_and_latch_kept : Chan → Chan
off_and_latch_kept ch = record { on = false; latched = ch.latched; count = ch.count }

-- a fitted channel is force-enabled where the profile says so, and command-enabled where it does not
abbrev pub force_enabled : Bool → Bool → Bool
force_enabled fitted forced = fitted && forced

abbrev pub command_enabled : Bool → Bool → Bool
command_enabled fitted forced = fitted && not forced

-- ---- one channel

-- step 3: a channel that is named and on trips, any other stays
abbrev pub overcurrent_one : Bool → Chan → Chan
overcurrent_one named ch = if named && ch.on then tripped ch else ch

-- 0x10: a channel that is fitted, spoken of and in the mask is then on, with no latch
abbrev pub group_on_one : Bool → Bool → Bool → Chan → Chan
group_on_one fitted spoken mask ch = if fitted && spoken && mask then on_and_cleared ch else ch

-- 0x12: a command-enabled channel that is spoken of and in the mask is then off, with no latch; a force-enabled one
-- keeps its latch
abbrev pub group_off_one : Bool → Bool → Bool → Bool → Chan → Chan
group_off_one fitted forced spoken mask ch = if command_enabled fitted forced && spoken && mask then off_and_cleared ch else ch

-- 0x14: a command-enabled channel that is spoken of is on or off as the mask has it or not, with no latch either way;
-- a force-enabled one that is spoken of is on, with no latch, where the mask has it, and stays as it is, its latch too,
-- where not
abbrev pub group_state_one : Bool → Bool → Bool → Bool → Chan → Chan
group_state_one fitted forced spoken mask ch =
    if command_enabled fitted forced && spoken
    then (if mask then on_and_cleared ch else off_and_cleared ch)
    else (if force_enabled fitted forced && spoken && mask then on_and_cleared ch else ch)

-- 0x04, and safety entered from nominal: a command-enabled channel is off, its latch kept
abbrev pub command_enabled_off_one : Bool → Bool → Chan → Chan
command_enabled_off_one fitted forced ch = if command_enabled fitted forced then off_and_latch_kept ch else ch

-- startup or emergency left by the table: a force-enabled channel is on, any other off, and no latch is left
abbrev pub forced_on_one : Bool → Bool → Chan → Chan
forced_on_one fitted forced ch = record { on = force_enabled fitted forced; latched = false; count = ch.count }

-- a reset: off, no latch, a count of 0
abbrev pub clear_one : Chan
clear_one = record { on = false; latched = false; count = 0 }

-- ---- all 32

unfoldable pub overcurrent_at : ℕ → Channels → Channels
overcurrent_at named s = whole (λ c. overcurrent_one (has named c) (chan s c))

unfoldable pub group_on : ℕ → ℕ → ℕ → Channels → Channels
group_on fitted spoken mask s = whole (λ c. group_on_one (has fitted c) (has spoken c) (has mask c) (chan s c))

unfoldable pub group_off : ℕ → ℕ → ℕ → ℕ → Channels → Channels
group_off fitted forced spoken mask s = whole (λ c. group_off_one (has fitted c) (has forced c) (has spoken c) (has mask c) (chan s c))

unfoldable pub group_state : ℕ → ℕ → ℕ → ℕ → Channels → Channels
group_state fitted forced spoken mask s = whole (λ c. group_state_one (has fitted c) (has forced c) (has spoken c) (has mask c) (chan s c))

-- 0x16, 0x18: what 0x10 and 0x12 do where the mask holds that one channel
unfoldable pub switch_on : ℕ → ℕ → Channels → Channels
switch_on fitted one s = whole (λ c. group_on_one (has fitted c) true (eqb c one) (chan s c))

unfoldable pub switch_off : ℕ → ℕ → ℕ → Channels → Channels
switch_off fitted forced one s = whole (λ c. group_off_one (has fitted c) (has forced c) true (eqb c one) (chan s c))

unfoldable pub command_enabled_off : ℕ → ℕ → Channels → Channels
command_enabled_off fitted forced s = whole (λ c. command_enabled_off_one (has fitted c) (has forced c) (chan s c))

-- emergency entered: all off, each latch kept
unfoldable pub all_off : Channels → Channels
all_off s = whole (λ c. off_and_latch_kept (chan s c))

unfoldable pub forced_on : ℕ → ℕ → Channels → Channels
forced_on fitted forced s = whole (λ c. forced_on_one (has fitted c) (has forced c) (chan s c))

unfoldable pub cleared : Channels
cleared = whole (λ c. clear_one)

-- ---- refusal 7 of the two single commands

-- 0x16: the channel is not there, as the last one is 31, or it is not fitted
abbrev pub wrong_to_switch_on : ℕ → ℕ → Bool
wrong_to_switch_on fitted c = ltb 31 c || not (has fitted c)

-- 0x18: the same, or it is forced
abbrev pub wrong_to_switch_off : ℕ → ℕ → ℕ → Bool
wrong_to_switch_off fitted forced c = wrong_to_switch_on fitted c || has forced c
