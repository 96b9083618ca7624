-- The command step part by part: a board is changed in place, so the code finds mode, timer, channels and words, the
-- memory, and the reply each by itself. `Effects` and `Step` say what the command step is; these only name its parts,
-- and proofs/Whole shows that together they are the step. Assumes nothing: these are definitions.
use Rattle.std.specs.Prelude.{ℕ, ℤ}
use Rattle.modes.specs.declared.Limits.{Limits}
use Rattle.state.specs.{Parts.with_timer, declared.parts.Board.Board}
use Rattle.answers.specs.{Answers.silent_of, Answers.replying_of, Answers.short_to, declared.Answer.Answer, declared.Commanded.Commanded}
use Rattle.effects.specs.{Effects.run_of, Parts.memory_change_of, Parts.layout_of}
use Rattle.command.specs.declared.Layout.{Layout}
use Rattle.effects.specs.declared.parts.MemoryChange.{MemoryChange}
use Rattle.asking.specs.declared.Asked.{Asked}
use Rattle.asking.specs.declared.Asked.TheVariants.{Silence, Refusal, Run}
use Rattle.command.specs.declared.Layout.TheVariants.{Short}
use Rattle.effects.specs.declared.parts.MemoryChange.TheVariants.{AsBefore}

-- 4 to 7 start the timer again, 3 does not; no other answer comes here
abbrev pub timer_answered : Answer → ℕ → ℕ
timer_answered Answer.CodeNotListed timer = 0
timer_answered Answer.TooShort timer = 0
timer_answered Answer.NotAvailable timer = 0
timer_answered Answer.Wrong timer = 0
timer_answered Answer.NotThisBoard timer = timer
timer_answered Answer.Accepted timer = timer
timer_answered Answer.FewerThanFourBytes timer = timer
timer_answered Answer.InStartup timer = timer

abbrev pub refused_with : Answer → ℕ → Board → Commanded
refused_with answer code b = replying_of answer (short_to code answer b) (with_timer (timer_answered answer b.timer) b)

-- the step by what was asked
unfoldable pub asked_in : ℤ → Limits → ℕ → Asked → Board → Commanded
asked_in rail limits code (Silence outcome) b = silent_of outcome b
asked_in rail limits code (Refusal answer) b = refused_with answer code b
asked_in rail limits code (Run c) b = run_of rail limits code c b

-- ---- what becomes of the memory, and the layout of the reply
abbrev pub memory_change_asked : Asked → MemoryChange
memory_change_asked (Silence outcome) = AsBefore
memory_change_asked (Refusal answer) = AsBefore
memory_change_asked (Run c) = memory_change_of c

abbrev pub layout_asked : Asked → Layout
layout_asked (Silence outcome) = Short
layout_asked (Refusal answer) = Short
layout_asked (Run c) = layout_of c
