-- The whole output for a sheet as one text, and the same by steps: opening it, and then a tick at a time. Assumes
-- nothing: these are definitions.
use Rattle.std.specs.Prelude.{ℕ, zero, suc, ◌+◌, ◌-◌, Option, Some, None, Result, Ok, Err}
use mathlib.Core.{Bool.Bool, Bool.cond, Bool.◌||◌, List.List, List.[], List.◌∷◌, List.◌++◌}
use lib.{Dec.eqb, Dec.ltb, IntN.ℤ, ListN.length, ListN.take}
use Rattle.memory.specs.Memory.{empty_store}
use Rattle.state.specs.{Parts.distribution_board, Parts.naming_raw, Start.keeps_the_rules, declared.parts.Profile.Profile}
use Rattle.state.specs.Start.{StartAnswer}
use Rattle.state.specs.declared.starting.StartRefusal.{StartRefusal}
use Rattle.unit.specs.{Machine.no_machine, Machine.begun_of, Machine.told_of, declared.Machine.Machine, declared.Begun.Begun}
use Rattle.unit.specs.declared.Told.{Told}
use Rattle.grammar.specs.Grammar.{Read, fails, reads}
use Rattle.sheet.specs.{Form.Top, Form.bytes_of, Form.Tick, Form.tick_line, Form.Sheet, Form.sheet, Form.sheet_in, Answers.is_sent}
use Rattle.script.specs.Printing.{Page, page, typed}
use Rattle.transcript.specs.{Transcript.tick_text, Transcript.ticks_text, Transcript.refused8, Transcript.refused14, declared.SheetRefusal.SheetRefusal}
use Rattle.transcript.specs.declared.SheetRefusal.TheVariants.{ProfileBreaksARule, NotOfForm}
use Rattle.session.specs.{declared.Session.Session, declared.Stepped.Stepped}

-- ---- the whole output

-- a tick of a sheet: words are never given
abbrev pub tick_on : Machine → Tick → Told
tick_on m t = told_of t.rail t.overcurrent [] (is_sent t.transfer) (bytes_of t.transfer) m

abbrev pub line_of : ℕ → Told → List ℕ
line_of number told = tick_text number told.replied told.machine.board

-- a line for each tick, numbered from n on
unfoldable pub lines_from : ℕ → Machine → List Tick → List ℕ
lines_from n m [] = []
lines_from n m (t ∷ ts) = line_of n (tick_on m t) ++ lines_from (n + 1) (tick_on m t).machine ts

-- a sheet's board is a distribution board whose profile names raw, and nothing is stored
abbrev pub profile_in : Top → Profile
profile_in top = naming_raw (distribution_board top.bid top.fitted top.forced)

abbrev pub beginning : Profile → Begun
beginning profile = begun_of no_machine profile empty_store

abbrev pub begun_text : StartAnswer → Machine → ℕ → List Tick → List ℕ
begun_text (Ok done) m count ticks = ticks_text count ++ lines_from 1 m ticks
begun_text (Err StartRefusal.ProfileBreaksARule) m count ticks = refused8

abbrev pub sheet_text : Read Sheet → List ℕ
sheet_text fails = refused14
sheet_text (reads sheet i) =
    let begun = beginning (profile_in sheet.top) in
    begun_text begun.answer begun.machine sheet.top.count sheet.ticks

unfoldable pub transcript_of : List ℕ → List ℕ
transcript_of s = sheet_text (sheet_in s)

-- ---- by steps: a session and what was printed, from the front of a buffer

pub data Open : Type 0 where
  opens : Session → Result (Unit {0}) SheetRefusal → Page → Open

pub data Step : Type 0 where
  steps : Session → Page → Step

abbrev pub stepped : Stepped → List ℕ → Step
stepped r held = steps r.session (page held r.printed)

abbrev pub no_session : Session
no_session = record { machine = no_machine; count = 0; left = 0; at = 0 }

-- a refusal leaves no session, and nothing was printed
abbrev pub opened : Result Stepped SheetRefusal → List ℕ → Open
opened (Ok r) held = opens r.session (Ok tt) (page held r.printed)
opened (Err e) held = opens no_session (Err e) (page held 0)

abbrev pub ended_step : Stepped
ended_step = record { session = no_session; printed = 0 }

-- ---- opening: a sheet that is refused leaves the buffer as it was
abbrev pub session_at : Machine → ℕ → ℕ → Session
session_at m count first = record { machine = m; count = count; left = count; at = first }

abbrev pub started_by : StartAnswer → Machine → ℕ → ℕ → List ℕ → Open
started_by (Ok done) m count first held = opens (session_at m count first) (Ok tt) (typed (page held 0) (ticks_text count))
started_by (Err StartRefusal.ProfileBreaksARule) m count first held = opens no_session (Err ProfileBreaksARule) (page held 0)

unfoldable pub started_of : List ℕ → Profile → ℕ → ℕ → Open
started_of held profile count first = started_by (beginning profile).answer (beginning profile).machine count first held

abbrev pub opened_by : Read Sheet → List ℕ → Open
opened_by fails held = opens no_session (Err NotOfForm) (page held 0)
opened_by (reads sheet i) held = started_of held (profile_in sheet.top) sheet.top.count sheet.top.first

unfoldable pub opened_of : List ℕ → List ℕ → Open
opened_of held s = opened_by (sheet_in s) held

-- ---- one tick

-- the bytes at the front of a buffer that were sent, by how many they are
abbrev pub first_sent : Option ℕ → List ℕ → List ℕ
first_sent None held = []
first_sent (Some count) held = take count held

abbrev pub after : Session → ℕ → Told → Session
after session next told = record { machine = told.machine; count = session.count; left = session.left - 1; at = next }

abbrev pub number_of_next : Session → ℕ
number_of_next session = session.count - (session.left - 1)

unfoldable pub ticked_of : List ℕ → Session → ℤ → ℕ → Bool → List ℕ → ℕ → Step
ticked_of held session rail overcurrent sent transfer next =
    let told = told_of rail overcurrent [] sent transfer session.machine in
    steps (after session next told) (typed (page held 0) (line_of (number_of_next session) told))

-- none is left, or more than there are
abbrev pub is_over : Session → Bool
is_over session = eqb session.left 0 || ltb session.count session.left

abbrev pub over : List ℕ → Step
over held = steps no_session (page held 0)

abbrev pub stepped_by : Read Tick → List ℕ → Session → Step
stepped_by fails held session = over held
stepped_by (reads t next) held session = cond (is_over session) (over held) (ticked_of held session t.rail t.overcurrent (is_sent t.transfer) (bytes_of t.transfer) next)

unfoldable pub stepped_of : List ℕ → List ℕ → Session → Step
stepped_of held s session = stepped_by (tick_line 256 s session.at) held session

-- ---- the steps one after another: what each prints, and the session that it leaves

-- opening: a refused sheet prints nothing
abbrev pub session_by : StartAnswer → Machine → ℕ → ℕ → Session
session_by (Ok done) m count first = session_at m count first
session_by (Err StartRefusal.ProfileBreaksARule) m count first = no_session

abbrev pub first_by : StartAnswer → ℕ → List ℕ
first_by (Ok done) count = ticks_text count
first_by (Err StartRefusal.ProfileBreaksARule) count = []

abbrev pub answer_by : StartAnswer → Result (Unit {0}) SheetRefusal
answer_by (Ok done) = Ok tt
answer_by (Err StartRefusal.ProfileBreaksARule) = Err ProfileBreaksARule

abbrev pub session_from : Read Sheet → Session
session_from fails = no_session
session_from (reads sheet i) =
    let begun = beginning (profile_in sheet.top) in
    session_by begun.answer begun.machine sheet.top.count sheet.top.first

abbrev pub first_from : Read Sheet → List ℕ
first_from fails = []
first_from (reads sheet i) = first_by (beginning (profile_in sheet.top)).answer sheet.top.count

abbrev pub answer_from : Read Sheet → Result (Unit {0}) SheetRefusal
answer_from fails = Err NotOfForm
answer_from (reads sheet i) = answer_by (beginning (profile_in sheet.top)).answer

-- a tick
abbrev pub next_by : Read Tick → Session → Session
next_by fails session = no_session
next_by (reads t next) session = cond (is_over session) no_session (after session next (tick_on session.machine t))

abbrev pub printed_by : Read Tick → Session → List ℕ
printed_by fails session = []
printed_by (reads t next) session = cond (is_over session) [] (line_of (number_of_next session) (tick_on session.machine t))

-- so many steps
unfoldable pub steps_from : ℕ → List ℕ → Session → List ℕ
steps_from zero s session = []
steps_from (suc n) s session = printed_by (tick_line 256 s session.at) session ++ steps_from n s (next_by (tick_line 256 s session.at) session)

-- the number for a sheet: 14 where it has over 65,536 bytes or is not of the form, else 8 where its profile breaks a
-- rule, else none
abbrev pub form_refusal : Read Sheet → ℕ
form_refusal fails = 14
form_refusal (reads w i) = cond (keeps_the_rules (profile_in w.top) empty_store) 0 8

unfoldable pub sheet_refusal : List ℕ → ℕ
sheet_refusal s = cond (ltb 65536 (length s)) 14 (form_refusal (sheet s 0))
