-- The effects part by part, for code that changes a board in place: some parts of a board, what becomes of its memory,
-- and the layout of its reply. That these are the effects of `Effects` is shown where they are put together, in
-- proofs/Whole of `commands`. Assumes nothing: these are definitions.
use Rattle.std.specs.Prelude.{ℕ}
use Rattle.command.specs.{declared.Command.Command, declared.Layout.Layout}
use Rattle.answers.specs.declared.Commanded.{Commanded}
use Rattle.effects.specs.{declared.parts.Obeyed.Obeyed, declared.parts.MemoryChange.MemoryChange}
use Rattle.command.specs.declared.Layout.TheVariants.{Short, Parameter}
use Rattle.effects.specs.declared.parts.MemoryChange.TheVariants.{AsBefore, Set, ResetOne, Defaults, Load, Save, Restart}

-- Nothing of what `obeyed_in` takes of an answered command depends on the command's code, so its contracts need none:
-- this stands where one is asked for, and is the code of no command.
abbrev pub any_code : ℕ
any_code = 0

-- mode and age, timer, channels, whether the words are new, and what is told
abbrev pub obeyed_in : Commanded → Obeyed
obeyed_in c =
    record {
      phase = c.board.phase;
      timer = c.board.timer;
      channels = c.board.channels;
      outcome = c.outcome;
      fresh = c.board.measured.fresh;
      replied = c.replied;
    }

-- what becomes of the memory
abbrev pub memory_change_of : Command → MemoryChange
memory_change_of (Command.SetParameter id v) = Set id v
memory_change_of (Command.ResetParameter id) = ResetOne id
memory_change_of Command.ResetConfiguration = Defaults
memory_change_of Command.LoadConfiguration = Load
memory_change_of (Command.SaveConfiguration given) = Save given
memory_change_of Command.SystemReset = Restart
memory_change_of Command.CancelOperation = AsBefore
memory_change_of (Command.GroupOn g) = AsBefore
memory_change_of (Command.GroupOff g) = AsBefore
memory_change_of (Command.GroupState g) = AsBefore
memory_change_of (Command.ChannelOn one) = AsBefore
memory_change_of (Command.ChannelOff one) = AsBefore
memory_change_of Command.SwitchToNominal = AsBefore
memory_change_of Command.SwitchToSafety = AsBefore
memory_change_of (Command.Report layout) = AsBefore

-- the layout of the reply; a restart makes none, and its layout is not looked at
abbrev pub layout_of : Command → Layout
layout_of (Command.Report layout) = layout
layout_of (Command.SetParameter id v) = Parameter id
layout_of (Command.ResetParameter id) = Parameter id
layout_of Command.SystemReset = Short
layout_of Command.CancelOperation = Short
layout_of (Command.GroupOn g) = Short
layout_of (Command.GroupOff g) = Short
layout_of (Command.GroupState g) = Short
layout_of (Command.ChannelOn one) = Short
layout_of (Command.ChannelOff one) = Short
layout_of Command.SwitchToNominal = Short
layout_of Command.SwitchToSafety = Short
layout_of Command.ResetConfiguration = Short
layout_of Command.LoadConfiguration = Short
layout_of (Command.SaveConfiguration given) = Short
