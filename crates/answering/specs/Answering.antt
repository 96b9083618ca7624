-- What an answered transfer leaves of the memory, and the reply that then waits. Assumes nothing: these are
-- definitions.
use Rattle.std.specs.Prelude.{ℕ, Bool, true, false}
use Rattle.wire.specs.{Replies.reply_of, declared.reply.Reply.Reply}
use Rattle.kinds.specs.{Kinds.board_of, declared.Kind.Kind}
use Rattle.memory.specs.{Memory.load_of, Memory.defaulted_of, Memory.set_in, Memory.reset_in, Memory.saved_of, Memory.after_save, declared.Memory.Memory}
use Rattle.replies.specs.Layouts.{short_reply, faults_reply, housekeeping_reply, parameter_reply, abf_reply, battery_reply}
use Rattle.state.specs.{Parts.words_of, Parts.in_units_of, Parts.packs_told_of, declared.parts.Board.Board}
use Rattle.answers.specs.{Answers.header_of, Answers.new, Answers.stat_of, Parameters.value_read, declared.Outcome.Outcome}
use Rattle.answers.specs.declared.Outcome.TheVariants.{WrongWordCount, NoTransfer, Answered}
use Rattle.command.specs.declared.Layout.{Layout}
use Rattle.command.specs.declared.Layout.TheVariants.{Short, Faults, Housekeeping, Parameter, EngineeringHousekeeping, AbfPlacedState, BatteryHousekeeping, EngineeringBatteryHousekeeping}
use Rattle.effects.specs.{Effects.new_where, declared.parts.MemoryChange.MemoryChange}
use Rattle.effects.specs.declared.parts.MemoryChange.TheVariants.{AsBefore, Set, ResetOne, Defaults, Load, Save, Restart}

-- ---- the memory of a kind of board; a restart is not made by it, but as a whole
abbrev pub memory_after : Kind → MemoryChange → Memory → Memory
memory_after kind AsBefore m = m
memory_after kind (Set id v) m = set_in id v m
memory_after kind (ResetOne id) m = reset_in kind id m
memory_after kind Defaults m = defaulted_of kind m
memory_after kind Load m = load_of kind m
memory_after kind (Save given) m = (after_save (saved_of given m) m)
memory_after kind Restart m = m

abbrev pub alters : MemoryChange → Bool
alters AsBefore = false
alters (Set id v) = true
alters (ResetOne id) = true
alters Defaults = true
alters Load = true
alters (Save given) = true
alters Restart = false

abbrev pub is_restart : MemoryChange → Bool
is_restart AsBefore = false
is_restart (Set id v) = false
is_restart (ResetOne id) = false
is_restart Defaults = false
is_restart Load = false
is_restart (Save given) = false
is_restart Restart = true

-- ---- the reply, of a board with its memory as after the command and its words as new as before it. The longer layouts
-- are of accepted commands alone, so they do not look at the outcome.
abbrev pub stat_told : Outcome → ℕ
stat_told WrongWordCount = 0
stat_told NoTransfer = 0
stat_told (Answered answer) = stat_of answer

unfoldable pub reply_to : ℕ → Outcome → Layout → Board → Reply
reply_to code outcome Short b = reply_of (short_reply (header_of b.profile) code (stat_told outcome))
reply_to code outcome Faults b = reply_of (faults_reply (header_of b.profile) code new b.channels.on b.channels.latched b.channels.counts)
reply_to code outcome Housekeeping b =
    reply_of (housekeeping_reply (header_of b.profile) code (new_where b.measured.fresh.raw) b.channels.on b.channels.latched (words_of b))
reply_to code outcome (Parameter id) b = reply_of (parameter_reply (header_of b.profile) code new id (value_read b.profile b.memory b.resets id))
reply_to code outcome EngineeringHousekeeping b =
    reply_of
    (housekeeping_reply (header_of b.profile) code (new_where b.measured.fresh.engineering) b.channels.on b.channels.latched (in_units_of b))
reply_to code outcome AbfPlacedState b = reply_of (abf_reply (header_of b.profile) code new (board_of b.profile.kind).abf_placed)
reply_to code outcome BatteryHousekeeping b =
    reply_of (battery_reply (header_of b.profile) code (new_where b.measured.fresh.raw) (words_of b))
reply_to code outcome EngineeringBatteryHousekeeping b =
    reply_of (battery_reply (header_of b.profile) code (new_where b.measured.fresh.engineering) (packs_told_of b))
