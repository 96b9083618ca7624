-- Demand 1, refusals 8 to 14: when each is given, and that the state and every lent buffer then hold what they held.
-- The facts are those of the crates whose contracts they are about; here they stand together, for every machine and
-- every input. Words, transfers, received bytes and sheets are lent read-only and cannot change; a scratch buffer and
-- an output buffer can. What a refused sheet prints is laid into a buffer by a call of its own. Assumes nothing: these
-- are definitions and the statement of the claim.
use Rattle.std.specs.Prelude.{ℕ, ◌<◌, length, Ok, Err}
use mathlib.Core.{Path.◌≡◌, Logic.◌⊎◌, List.List, Option.some}
use Rattle.hexadecimal.specs.Hex.{laid}
use Rattle.watchdog.specs.declared.Event.TheVariants.{NoEvent}
use Rattle.memory.specs.{Memory.empty_store, Memory.Store}
use Rattle.wire.specs.declared.forms.Form.{Form}
use Rattle.state.specs.{Parts.word_count, Parts.with_form, Start.start_number, declared.parts.Profile.Profile}
use Rattle.reading.specs.{Answers.line_number, Given.GivenWhen, Lines.LineAnswer, Lines.line_held}
use Rattle.reading.specs.declared.Line.TheVariants.{Command, Switch}
use Rattle.framing.specs.{Answers.framed_number, Framing.framed_of}
use Rattle.framing.specs.declared.Due.TheVariants.{Echo}
use Rattle.unit.specs.{Machine.begun_of, Machine.heard_of, Machine.due_of, declared.Machine.Machine, Runs.Sample, Runs.told}
use Rattle.script.specs.Printing.{page}
use Rattle.transcript.specs.Transcript.{opened_number}
use Rattle.transcript.specs.declared.SheetRefusal.TheVariants.{ProfileBreaksARule, NotOfForm}
use Rattle.session.specs.Sessions.{profile_in, Open, opens, no_session, opened_of}
use Rattle.refusals.specs.{Conditions.tick_answer, Rules.KeepsAllRules, Rules.OfTheForm}

-- 8, of a start: a profile that breaks a rule; the machine that was there stays. Else the board is of that profile, and
-- in its form
abbrev pub start_told : Machine → Profile → Store → ℕ
start_told there profile store = start_number (begun_of there profile store).answer

pub record Eight : Type 0 where
  pub none_or_8 : (there : Machine) (profile : Profile) (store : Store) → (start_told there profile store ≡ 0) ⊎ (start_told there profile store ≡ 8)
  pub kept : (there : Machine) (profile : Profile) (store : Store) → KeepsAllRules profile store → start_told there profile store ≡ 0
  pub only_kept : (there : Machine) (profile : Profile) (store : Store) → start_told there profile store ≡ 0 → KeepsAllRules profile store
  pub leaves : (there : Machine) (profile : Profile) (store : Store) → start_told there profile store ≡ 8 → (begun_of there profile store).machine ≡ there
  pub profile : (there : Machine) (profile : Profile) (store : Store) → start_told there profile store ≡ 0 → (begun_of there profile store).machine.board.profile ≡ profile
  pub form : (there : Machine) (profile : Profile) (store : Store) → start_told there profile store ≡ 0 → (begun_of there profile store).machine.board.form ≡ profile.form

-- 9, of a tick: the words lent are neither none nor as many as the board has; nothing of the tick takes place
abbrev pub NeitherNoneNorAll : Machine → Sample → Type 0
NeitherNoneNorAll m i = (length i.words ≡ 0 → ⊥) × (length i.words ≡ word_count m.board → ⊥)

pub record Nine : Type 0 where
  pub given : (m : Machine) (i : Sample) → NeitherNoneNorAll m i → tick_answer m i ≡ some 9
  pub only : (m : Machine) (i : Sample) → tick_answer m i ≡ some 9 → NeitherNoneNorAll m i
  pub leaves : (m : Machine) (i : Sample) → tick_answer m i ≡ some 9 → ((told m i).machine ≡ m) × ((told m i).event ≡ NoEvent)

-- 10 to 13, of a read of the text line: each answer is given where `GivenWhen` says, and a refused read leaves the
-- machine and the scratch buffer. A command leaves the machine too; a switch changes the form in force, and not the
-- profile, and its echo is due
pub record Reads : Type 0 where
  pub given : (m : Machine) (received scratch : List ℕ) → GivenWhen m.board.form received (length scratch) (heard_of received (length scratch) m).line
  pub only : (m : Machine) (received scratch : List ℕ) (line : LineAnswer) → GivenWhen m.board.form received (length scratch) line → (heard_of received (length scratch) m).line ≡ line
  pub leaves : (m : Machine) (received scratch : List ℕ) → (line_number (heard_of received (length scratch) m).line ≡ 0 → ⊥)
      → ((heard_of received (length scratch) m).machine ≡ m) × (line_held m.board.form received scratch ≡ scratch)
  pub command : (m : Machine) (received scratch : List ℕ) (start end behind : ℕ) → (heard_of received (length scratch) m).line ≡ Ok (Command start end behind)
      → (heard_of received (length scratch) m).machine ≡ m
  pub switch : (m : Machine) (received scratch : List ℕ) (to : Form) (behind : ℕ) → (heard_of received (length scratch) m).line ≡ Ok (Switch to behind)
      → (heard_of received (length scratch) m).machine ≡ record { board = with_form to m.board; due = Echo to }

-- 13, of framing: an output that is too short for the frame; it stays, and the machine is not handed back at all
pub record Frames : Type 0 where
  pub given : (m : Machine) (out : List ℕ) → length out < length (due_of m) → framed_number (framed_of (due_of m) (length out)) ≡ 13
  pub only : (m : Machine) (out : List ℕ) → framed_number (framed_of (due_of m) (length out)) ≡ 13 → length out < length (due_of m)
  pub leaves : (m : Machine) (out : List ℕ) → length out < length (due_of m) → laid (due_of m) out ≡ out

-- 14 and 8, of a sheet: one that is over 65,536 bytes or not of its form, and else a bad profile, with which nothing is
-- stored; no machine is started, and the output buffer stays
abbrev pub number_in : Open → ℕ
number_in (opens session answer printed) = opened_number answer

abbrev pub sheet_told : List ℕ → List ℕ → ℕ
sheet_told held s = number_in (opened_of held s)

pub record Sheets : Type 0 where
  pub given_14 : (held s : List ℕ) → (OfTheForm s → ⊥) → sheet_told held s ≡ 14
  pub only_14 : (held s : List ℕ) → sheet_told held s ≡ 14 → OfTheForm s → ⊥
  pub leaves_14 : (held s : List ℕ) → sheet_told held s ≡ 14 → opened_of held s ≡ opens no_session (Err NotOfForm) (page held 0)
  pub given_8 : (held s : List ℕ) (f : OfTheForm s) → (KeepsAllRules (profile_in f.top) empty_store → ⊥) → sheet_told held s ≡ 8
  pub only_8 : (held s : List ℕ) → sheet_told held s ≡ 8 → (f : OfTheForm s) × (KeepsAllRules (profile_in f.top) empty_store → ⊥)
  pub leaves_8 : (held s : List ℕ) → sheet_told held s ≡ 8 → opened_of held s ≡ opens no_session (Err ProfileBreaksARule) (page held 0)
  -- else none, and no other number is told
  pub given_none : (held s : List ℕ) (f : OfTheForm s) → KeepsAllRules (profile_in f.top) empty_store → sheet_told held s ≡ 0
  pub only_none : (held s : List ℕ) → sheet_told held s ≡ 0 → (f : OfTheForm s) × KeepsAllRules (profile_in f.top) empty_store
  pub no_other : (held s : List ℕ) → (sheet_told held s ≡ 0) ⊎ (sheet_told held s ≡ 8) ⊎ (sheet_told held s ≡ 14)

pub record OtherRefusals : Type 0 where
  pub eight : Eight
  pub nine : Nine
  pub reading : Reads
  pub framing : Frames
  pub sheets : Sheets
