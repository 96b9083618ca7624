-- A machine: a board, and what its text line has to say. What each call of a bench answers, and the machine it leaves.
-- `rail` is in millivolts with its sign, `named` the set of channels that reported overcurrent, `words` the words lent,
-- `sent` whether there is a transfer and `s` its bytes. Assumes nothing: these are definitions.
use Rattle.memory.specs.Memory.{Store}
use Rattle.std.specs.Prelude.{Ok, Err, ℕ, ℤ}
use mathlib.Core.{Bool.Bool, Bool.true, Bool.false, Bool.cond, List.List}
use Rattle.wire.specs.Replies.{shown}
use Rattle.state.specs.{Parts.with_form, Start.unstarted_board, Start.start_of, Start.StartAnswer, declared.parts.Profile.Profile}
use Rattle.state.specs.declared.starting.Started.{Started}
use Rattle.answers.specs.declared.Outcome.{Outcome}
use Rattle.answers.specs.declared.Outcome.TheVariants.{WrongWordCount, NoTransfer, Answered}
use Rattle.board.specs.{Tick.tick_of, declared.Ticked.Ticked}
use Rattle.reading.specs.Lines.{LineAnswer, line_of}
use Rattle.reading.specs.declared.Line.TheVariants.{Command, Switch}
use Rattle.framing.specs.{Framing.due_text, declared.Due.Due}
use Rattle.framing.specs.declared.Due.TheVariants.{Nothing, Reply, Echo}
use Rattle.unit.specs.{declared.Machine.Machine, declared.Begun.Begun, declared.Told.Told, declared.Heard.Heard}

-- ---- starting

-- no board was started, and nothing is to be said
abbrev pub no_machine : Machine
no_machine = record { board = unstarted_board; due = Nothing }

-- a new board has nothing to say; a refused start leaves the machine that was there
abbrev pub begun_by : StartAnswer → Started → Machine → Begun
begun_by (Ok done) s there = record { machine = record { board = s.board; due = Nothing }; answer = Ok done }
begun_by (Err r) s there = record { machine = there; answer = Err r }

unfoldable pub begun_of : Machine → Profile → Store → Begun
begun_of there profile store = begun_by (start_of there.board profile store).answer (start_of there.board profile store) there

-- ---- a tick

-- a reply that the tick made and that no reset took is to be said
abbrev pub due_by : Bool → Due
due_by replied = cond replied Reply Nothing

-- refusal 9 tells that the tick did not happen
abbrev pub tells_it_happened : Outcome → Bool
tells_it_happened WrongWordCount = false
tells_it_happened NoTransfer = true
tells_it_happened (Answered answer) = true

-- a tick that did not happen leaves what was to be said
abbrev pub due_after : Outcome → Bool → Due → Due
due_after WrongWordCount replied due = due
due_after NoTransfer replied due = due_by replied
due_after (Answered answer) replied due = due_by replied

abbrev pub told_by : Ticked → Due → Told
told_by t due =
    record {
      machine = record { board = t.board; due = due_after t.outcome t.replied due };
      outcome = t.outcome;
      event = t.event;
      replied = t.replied;
    }

unfoldable pub told_of : ℤ → ℕ → List ℕ → Bool → List ℕ → Machine → Told
told_of rail named words sent s m = told_by (tick_of rail named words sent s m.board) m.due

-- ---- the text line

-- a switch takes at the read, and its echo is to be said; any other answer leaves the machine
abbrev pub after_line : LineAnswer → Machine → Machine
after_line (Ok (Switch form behind)) m = record { board = with_form form m.board; due = Echo form }
after_line (Ok (Command start end behind)) m = m
after_line (Err refusal) m = m

abbrev pub heard_by : LineAnswer → Machine → Heard
heard_by line m = record { machine = after_line line m; line = line }

-- the read is by the form in force
unfoldable pub heard_of : List ℕ → ℕ → Machine → Heard
heard_of received room m = heard_by (line_of m.board.form received room) m

-- what framing writes: the form is the one that the machine then has
unfoldable pub due_of : Machine → List ℕ
due_of m = due_text m.due m.board.form (shown m.board.reply)
