-- What each kind of line that changes the bench does: the bench after it, and what it prints. Assumes nothing: these
-- are definitions.
use Rattle.std.specs.Prelude.{ℕ, List, length, replicate, Option, Some, None, Ok, Err, unwrap_or}
use Rattle.reading.specs.Lines.{line_held}
use Rattle.state.specs.{declared.parts.Profile.Profile, Start.StartAnswer}
use Rattle.unit.specs.{Machine.no_machine, Machine.heard_of}
use Rattle.unit.specs.{declared.Machine.Machine, declared.Begun.Begun, declared.Told.Told, declared.Heard.Heard}
use Rattle.lines.specs.declared.Named.{Named}
use Rattle.script.specs.Printing.{Page, page, typed}
use Rattle.showing.specs.Showing.{ticked_line}
use Rattle.looking.specs.Looking.{answer_line}
use Rattle.starting.specs.Starts.{start_text}
use Rattle.handling.specs.{declared.Bench.Bench, declared.Ran.Ran}

-- nothing was started, and no words were lent
unfoldable pub empty_bench : Bench
empty_bench = record { machine = None; lent = replicate 512 0; lent_count = 0 }

-- a bench and a page
pub data Shown : Type 0 where
  shown : Bench → Page → Shown

-- what a line left: its bench, and a buffer up to where it printed
abbrev pub left : Ran → List ℕ → Shown
left r held = shown r.bench (page held r.printed)

-- what it is to leave: a bench, and a text at the front of a buffer
abbrev pub printed : List ℕ → Bench → List ℕ → Shown
printed held b text = shown b (typed (page held 0) text)

-- ---- starting

-- the machine that is there, or what stands where none was started
abbrev pub there : Option Machine → Machine
there machine = unwrap_or machine no_machine

-- what a board is started as: BID, fitted set and forced set of its line, its kind and its form
abbrev pub profile_of : Named → Profile
profile_of board = record { fitted = board.fitted; forced = board.forced; bid = board.bid; kind = board.kind; form = board.form }

-- an accepted machine is on the bench; where it is refused, what was there stays there
abbrev pub on_bench : StartAnswer → Machine → Option Machine → Option Machine
on_bench (Ok done) begun before = Some begun
on_bench (Err refusal) begun before = before

unfoldable pub started_of : List ℕ → Bench → Begun → Shown
started_of held bench s =
    printed held
    (record { machine = on_bench s.answer s.machine bench.machine; lent = bench.lent; lent_count = bench.lent_count })
    (start_text s.answer)

-- ---- words and ticks

-- words for the next tick
abbrev pub with_lent : List ℕ → ℕ → Bench → Bench
with_lent ws n bench = record { machine = bench.machine; lent = ws; lent_count = n }

-- a tick's machine, and no words any more, refused or not
unfoldable pub ticked_of : List ℕ → Bench → Told → Shown
ticked_of held bench t =
    printed held
    (record { machine = Some t.machine; lent = bench.lent; lent_count = 0 })
    (ticked_line t.outcome t.event t.replied t.machine.board)

-- ---- the text line, with a scratch buffer or an output of so many bytes, all 0xEE before

-- the machine after the read; the scratch buffer, written by the form before it; and the payload, by the form after it:
-- the two differ only where the form was switched, and then there is no payload
abbrev pub received_by : List ℕ → Bench → Machine → List ℕ → List ℕ → Heard → Shown
received_by held bench m received scratch heard =
    printed held
    (record { machine = Some heard.machine; lent = bench.lent; lent_count = bench.lent_count })
    (answer_line heard.line heard.machine.board.form received (line_held m.board.form received scratch))

unfoldable pub received_of : List ℕ → Bench → Machine → List ℕ → List ℕ → Shown
received_of held bench m received scratch = received_by held bench m received scratch (heard_of received (length scratch) m)
