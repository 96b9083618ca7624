-- Document 01's effects, command by command, in its order, and behind 0x50 those of document 02's 0x52, 0x44, 0x60 and
-- 0x62, of which the last three are a battery board's. Where a command knows a 6 or a 7 of its own, its function
-- answers that too; the step takes an effect only where no check applies, so there those rows are not reached. `code`
-- is the command's code, from which the reply's is made; the last argument is the board as the command finds it.
-- Assumes nothing: these are definitions.
use Rattle.std.specs.Prelude.{is_err, ℕ, Bool, true, false, cond, not, ℤ, Option, Some, None}
use Rattle.wire.specs.Replies.{reply_of}
use Rattle.modes.specs.{Commands.to_safety, Commands.to_nominal, declared.Mode.Mode, declared.ModeAge.ModeAge, declared.Limits.Limits}
use Rattle.modes.specs.declared.Mode.TheVariants.{Startup, Nominal, Safety, Emergency}
use Rattle.kinds.specs.Kinds.{board_of}
use Rattle.channels.specs.Operations.{group_on, group_off, group_state, switch_on, switch_off, command_enabled_off, wrong_to_switch_on, wrong_to_switch_off}
use Rattle.channels.specs.declared.Channels.{Channels}
use Rattle.command.specs.{declared.Group.Group, declared.Command.Command, declared.Layout.Layout}
use Rattle.memory.specs.{Memory.load_of, Memory.defaulted_of, Memory.set_in, Memory.reset_in, Memory.saved_of, Memory.after_save, declared.Memory.Memory}
use Rattle.replies.specs.Layouts.{faults_reply, housekeeping_reply, parameter_reply, abf_reply, battery_reply}
use Rattle.state.specs.{Parts.mode_of, Parts.words_of, Parts.in_units_of, Parts.packs_told_of, Parts.with_phase, Parts.with_memory, Parts.with_channels, Parts.with_measured, Start.command_reset_of}
use Rattle.state.specs.{declared.parts.Board.Board, declared.parts.Measured.Measured}
use Rattle.change.specs.Change.{entering_of}
use Rattle.answers.specs.Answers.{header_of, new, silent_of, accepted_with, accepted_of, refused_of}
use Rattle.answers.specs.{Parameters.value_read, declared.Commanded.Commanded}
use Rattle.answers.specs.declared.Answer.TheVariants.{Accepted, NotAvailable, Wrong}
use Rattle.answers.specs.declared.Outcome.TheVariants.{Answered}

-- ---- 0x10, 0x12, 0x14, 0x16, 0x18
unfoldable pub is_nominal : Mode → Bool
is_nominal Startup = false
is_nominal Nominal = true
is_nominal Safety = false
is_nominal Emergency = false

-- 6 in each mode but nominal; then 7 for a wrong channel; and else the channels as the command has them
unfoldable pub switched_of : ℕ → Bool → Channels → Board → Commanded
switched_of code right channels b =
    cond (not (is_nominal (mode_of b))) (refused_of NotAvailable code b)
    (cond (not right) (refused_of Wrong code b)
    (accepted_of code (with_channels channels b)))

-- no mask is wrong: a channel that is not fitted makes no difference in it
unfoldable pub group_on_of : ℕ → Group → Board → Commanded
group_on_of code g b = switched_of code true (group_on b.profile.fitted g.spoken g.mask b.channels) b

unfoldable pub group_off_of : ℕ → Group → Board → Commanded
group_off_of code g b = switched_of code true (group_off b.profile.fitted b.profile.forced g.spoken g.mask b.channels) b

unfoldable pub group_state_of : ℕ → Group → Board → Commanded
group_state_of code g b = switched_of code true (group_state b.profile.fitted b.profile.forced g.spoken g.mask b.channels) b

unfoldable pub channel_on_of : ℕ → ℕ → Board → Commanded
channel_on_of code one b = switched_of code (not (wrong_to_switch_on b.profile.fitted one)) (switch_on b.profile.fitted one b.channels) b

unfoldable pub channel_off_of : ℕ → ℕ → Board → Commanded
channel_off_of code one b =
    switched_of code
    (not (wrong_to_switch_off b.profile.fitted b.profile.forced one))
    (switch_off b.profile.fitted b.profile.forced one b.channels)
    b

-- ---- 0x04: no command-enabled channel is on afterwards; every latch is as it was
unfoldable pub cancelled_of : ℕ → Board → Commanded
cancelled_of code b = accepted_of code (with_channels (command_enabled_off b.profile.fitted b.profile.forced b.channels) b)

-- ---- 0x30 and 0x32: the mode that the command leads to, with what the change brings for the channels; 6 where it is
-- not available
unfoldable pub switched_mode_of : ℕ → Option ModeAge → Board → Commanded
switched_mode_of code (Some phase) b =
    accepted_of code (with_phase phase (with_channels (entering_of (mode_of b) phase.mode b.profile b.channels) b))
switched_mode_of code None b = refused_of NotAvailable code b

-- ---- 0x42: the sets of channels, and how often each one tripped
unfoldable pub faults_of : ℕ → Board → Commanded
faults_of code b =
    accepted_with
    (reply_of (faults_reply (header_of b.profile) code new b.channels.on b.channels.latched b.channels.counts))
    b

-- ---- 0x50: the words that count, as NEW only where the board remembers that they are new as raw readings; from now on
-- they are not
abbrev pub new_where : Bool → ℕ
new_where fresh = cond fresh new 0x00

abbrev pub seen : Measured → Measured
seen m = record { words = m.words; fresh = record { raw = false; engineering = m.fresh.engineering } }

unfoldable pub housekeeping_of : ℕ → Board → Commanded
housekeeping_of code b =
    accepted_with
    (reply_of
    (housekeeping_reply (header_of b.profile) code (new_where b.measured.fresh.raw) b.channels.on b.channels.latched (words_of b)))
    (with_measured (seen b.measured) b)

-- ---- 0x52: the same layout, each measured word converted by the row of its place, as NEW only where the board
-- remembers that they are new as engineering readings; from now on they are not
abbrev pub seen_in_units : Measured → Measured
seen_in_units m = record { words = m.words; fresh = record { raw = m.fresh.raw; engineering = false } }

unfoldable pub engineering_housekeeping_of : ℕ → Board → Commanded
engineering_housekeeping_of code b =
    accepted_with
    (reply_of
    (housekeeping_reply (header_of b.profile) code (new_where b.measured.fresh.engineering) b.channels.on b.channels.latched (in_units_of b)))
    (with_measured (seen_in_units b.measured) b)

-- ---- 0x44: whether the ABF is placed
unfoldable pub abf_of : ℕ → Board → Commanded
abf_of code b = accepted_with (reply_of (abf_reply (header_of b.profile) code new (board_of b.profile.kind).abf_placed)) b

-- ---- 0x60: the words that count, in the battery board's layout, and NEW by the memory that 0x50, which no board has
-- beside it, goes by
unfoldable pub battery_housekeeping_of : ℕ → Board → Commanded
battery_housekeeping_of code b =
    accepted_with
    (reply_of (battery_reply (header_of b.profile) code (new_where b.measured.fresh.raw) (words_of b)))
    (with_measured (seen b.measured) b)

-- ---- 0x62: the same layout, each measured word in the way of its field, and NEW by the memory that 0x52, which no
-- board has beside it, goes by
unfoldable pub engineering_battery_housekeeping_of : ℕ → Board → Commanded
engineering_battery_housekeeping_of code b =
    accepted_with
    (reply_of (battery_reply (header_of b.profile) code (new_where b.measured.fresh.engineering) (packs_told_of b)))
    (with_measured (seen_in_units b.measured) b)

-- ---- 0x82, 0x84 and 0x86: a parameter is read, set, or reset; the reply has the value that the id then reads
unfoldable pub parameter_answered : ℕ → ℕ → Memory → Board → Commanded
parameter_answered code id memory b =
    accepted_with
    (reply_of (parameter_reply (header_of b.profile) code new id (value_read b.profile memory b.resets id)))
    (with_memory memory b)

-- ---- 0x90 defaults, 0x92 load
unfoldable pub remembered_of : ℕ → Memory → Board → Commanded
remembered_of code memory b = accepted_of code (with_memory memory b)

-- ---- 0x94 save: a checksum that is neither 0 nor right is 7
unfoldable pub saved_in : ℕ → ℕ → Board → Commanded
saved_in code given b =
    cond (is_err (saved_of given b.memory)) (refused_of Wrong code b)
    (remembered_of code (after_save (saved_of given b.memory) b.memory) b)

-- ---- 0xAA: a reset, which leaves no reply
unfoldable pub restarted_of : Board → Commanded
restarted_of b = silent_of (Answered Accepted) (command_reset_of b)

-- ---- the commands that change neither mode, channels nor memory, by the layout of their reply; 0x02 and 0x06 do
-- nothing more than be accepted
unfoldable pub reported_of : ℕ → Layout → Board → Commanded
reported_of code Layout.Short b = accepted_of code b
reported_of code Layout.Faults b = faults_of code b
reported_of code Layout.Housekeeping b = housekeeping_of code b
reported_of code (Layout.Parameter id) b = parameter_answered code id b.memory b
reported_of code Layout.EngineeringHousekeeping b = engineering_housekeeping_of code b
reported_of code Layout.AbfPlacedState b = abf_of code b
reported_of code Layout.BatteryHousekeeping b = battery_housekeeping_of code b
reported_of code Layout.EngineeringBatteryHousekeeping b = engineering_battery_housekeeping_of code b

-- ---- each command
unfoldable pub run_of : ℤ → Limits → ℕ → Command → Board → Commanded
run_of rail limits code (Command.GroupOn g) b = group_on_of code g b
run_of rail limits code (Command.GroupOff g) b = group_off_of code g b
run_of rail limits code (Command.GroupState g) b = group_state_of code g b
run_of rail limits code (Command.ChannelOn one) b = channel_on_of code one b
run_of rail limits code (Command.ChannelOff one) b = channel_off_of code one b
run_of rail limits code Command.CancelOperation b = cancelled_of code b
run_of rail limits code Command.SwitchToSafety b = switched_mode_of code (to_safety b.phase) b
run_of rail limits code Command.SwitchToNominal b = switched_mode_of code (to_nominal b.phase rail limits) b
run_of rail limits code (Command.SetParameter id v) b = parameter_answered code id (set_in id v b.memory) b
run_of rail limits code (Command.ResetParameter id) b = parameter_answered code id (reset_in b.profile.kind id b.memory) b
run_of rail limits code Command.ResetConfiguration b = remembered_of code (defaulted_of b.profile.kind b.memory) b
run_of rail limits code Command.LoadConfiguration b = remembered_of code (load_of b.profile.kind b.memory) b
run_of rail limits code (Command.SaveConfiguration given) b = saved_in code given b
run_of rail limits code Command.SystemReset b = restarted_of b
run_of rail limits code (Command.Report layout) b = reported_of code layout b
