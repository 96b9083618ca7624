-- What opening a sheet prints, the line of its refusal, and then each of its ticks, is together the whole transcript.
-- Where a buffer has the room, what was printed is all of the text (`transcript::Pages`). Assumes nothing.
use Rattle.std.specs.Prelude.{Some, Result}
use Prim.Native.Nat.{ℕ, zero, suc, ◌+◌, ◌-◌, ◌≤◌, ◌<◌}
use mathlib.Core.Path.{◌≡◌, refl, ap, sym, ◌∙◌}
use mathlib.Core.Bool.{Bool, true, false, cond}
use mathlib.Core.Logic.{⊎_elim}
use mathlib.Core.List.{List, [], ◌++◌}
use native.Mathlib.Omega.{arith}
use lib.ListN.{length}
use borrow.Author.Tests.{ne_eqb, lt-ltb, le-ltb, le-leb, lt-leb}
use Rattle.std.specs.Prelude.{Ok, Err}
use Rattle.laws.proofs.Lists.{lt_or_le}
use Rattle.state.specs.Start.{StartAnswer}
use Rattle.state.specs.declared.starting.StartRefusal.{StartRefusal}
use Rattle.state.specs.Start.{keeps_the_rules, start_of}
use Rattle.memory.specs.Memory.{empty_store}
use Rattle.unit.specs.Machine.{begun_of}
use Rattle.unit.specs.declared.Machine.{Machine}
use Rattle.grammar.specs.Grammar.{Read, fails, reads, times}
use Rattle.wire.specs.declared.forms.Form.TheVariants.{Raw}
use Rattle.sheet.specs.Form.{Top, Tick, tick_line, Sheet, sheet, sheet_in}
use Rattle.sheet.specs.Answers.{head_by, sheet_head}
use Rattle.sheet.proofs.Behind.{times_turn, times_none}
use Rattle.sheet.proofs.Sheets.{accepted}
use Rattle.script.specs.Printing.{page, typed}
use Rattle.transcript.specs.Transcript.{ticks_text, opened_number, refusal_text}
use Rattle.transcript.specs.declared.SheetRefusal.{SheetRefusal}
use Rattle.session.specs.Sessions.{tick_on, line_of, lines_from, profile_in, beginning, begun_text, sheet_text, transcript_of, Open, opens, opened, steps, no_session, started_by, started_of, opened_by, opened_of, after, number_of_next, ticked_of, is_over, stepped_by, stepped_of, session_by, first_by, answer_by, session_from, first_from, answer_from, next_by, printed_by, steps_from, form_refusal, sheet_refusal}
use Rattle.session.specs.declared.Session.{Session}
use Rattle.session.specs.declared.Stepped.{Stepped}

-- ---- what a call leaves, as a session and a text
pub open_is : (held s : List ℕ) → opened_of held s ≡ opens (session_from (sheet_in s)) (answer_from (sheet_in s)) (typed (page held 0) (first_from (sheet_in s)))
unfolding opened_of started_of typed
open_is held s = go (sheet_in s)
  where
    begun : (a : StartAnswer) (m : Machine) (count first : ℕ) → started_by a m count first held ≡ opens (session_by a m count first) (answer_by a) (typed (page held 0) (first_by a count))
    begun (Ok done) m count first = refl
    begun (Err StartRefusal.ProfileBreaksARule) m count first = refl

    go : (r : Read Sheet) → opened_by r held ≡ opens (session_from r) (answer_from r) (typed (page held 0) (first_from r))
    go fails = refl
    go (reads sheet i) = begun (beginning (profile_in sheet.top)).answer (beginning (profile_in sheet.top)).machine sheet.top.count sheet.top.first

pub step_is : (held s : List ℕ) (session : Session)
    → stepped_of held s session ≡ steps (next_by (tick_line 256 s session.at) session) (typed (page held 0) (printed_by (tick_line 256 s session.at) session))
unfolding stepped_of ticked_of typed
step_is held s session = go (tick_line 256 s session.at)
  where
    go : (r : Read Tick) → stepped_by r held session ≡ steps (next_by r session) (typed (page held 0) (printed_by r session))
    go fails = refl
    go (reads t next) = over (is_over session)
      where
        over : (b : Bool) → cond b (steps no_session (page held 0)) (steps (after session next (tick_on session.machine t)) (typed (page held 0) (line_of (number_of_next session) (tick_on session.machine t))))
            ≡ steps (cond b no_session (after session next (tick_on session.machine t))) (typed (page held 0) (cond b [] (line_of (number_of_next session) (tick_on session.machine t))))
        over true = refl
        over false = refl

-- ---- the ticks, one after another
going : (session : Session) → 0 < session.left → session.left ≤ session.count → is_over session ≡ false
going session h k = rw (ne_eqb session.left 0 (λ e. absurd (omega arith)), le-ltb session.count session.left k)

pub steps_lines : (n count at : ℕ) (m : Machine) (s : List ℕ) (ticks : List Tick) (j : ℕ) → times n (tick_line 256) s at ≡ reads ticks j → n ≤ count
    → steps_from n s (record { machine = m; count = count; left = n; at = at }) ≡ lines_from (count - n + 1) m ticks
unfolding steps_from lines_from
steps_lines zero count at m s ticks j e h = rw (times_none 0 (tick_line 256) s at ticks j refl e).0
steps_lines (suc n) count at m s ticks j e h =
    let t = times_turn (suc n) (tick_line 256) s at ticks j (omega arith) e in
    let session : Session = record { machine = m; count = count; left = suc n; at = at } in
    let left : suc n - 1 ≡ n = omega arith in
    let number : count - n ≡ count - suc n + 1 = omega arith in
    let next : count - n + 1 ≡ count - suc n + 1 + 1 = omega arith in
    let others = rw left at t.step.others in
    rw (t.is, t.step.here, going session (omega arith) h, left, number)
    (ap (λ (rest : List ℕ). line_of (count - suc n + 1) (tick_on m t.what) ++ rest)
    (steps_lines n count t.step.place (tick_on m t.what).machine s t.rest j others (omega arith) ∙ ap (λ (k : ℕ). lines_from k (tick_on m t.what).machine t.rest) next))

-- ---- from the start to the end: what opening prints, the refusal's line, and the ticks
pub transcript : (s : List ℕ) → first_from (sheet_in s) ++ (refusal_text (answer_from (sheet_in s)) ++ steps_from (session_from (sheet_in s)).left s (session_from (sheet_in s))) ≡ transcript_of s
unfolding transcript_of steps_from
transcript s = go (sheet_in s) refl
  where
    begun : (a : StartAnswer) (m : Machine) (count first : ℕ) (ticks : List Tick) → times count (tick_line 256) s first ≡ reads ticks (length s)
        → first_by a count ++ (refusal_text (answer_by a) ++ steps_from (session_by a m count first).left s (session_by a m count first)) ≡ begun_text a m count ticks
    begun (Ok done) m count first ticks e =
        let one : count - count + 1 ≡ 1 = omega arith in
        ap (λ (rest : List ℕ). ticks_text count ++ rest) (steps_lines count count first m s ticks (length s) e (omega arith) ∙ ap (λ (k : ℕ). lines_from k m ticks) one)
    begun (Err StartRefusal.ProfileBreaksARule) m count first ticks e = refl

    go : (r : Read Sheet) → sheet_in s ≡ r → first_from r ++ (refusal_text (answer_from r) ++ steps_from (session_from r).left s (session_from r)) ≡ sheet_text r
    go fails q = refl
    go (reads sheet i) q =
        let told : Some (head_by sheet.top) ≡ sheet_head (sheet_in s) = sym (ap sheet_head q) in
        let a = accepted s (head_by sheet.top) told in
        let same : a.sheet ≡ sheet = let w : reads a.sheet (length s) ≡ reads sheet i = sym a.read ∙ q in cc in
        begun
        (beginning (profile_in sheet.top)).answer
        (beginning (profile_in sheet.top)).machine
        sheet.top.count
        sheet.top.first
        sheet.ticks
        (a.lines ∙ ap (λ (w : Sheet). reads w.ticks (length s)) same)

-- ---- 14 exactly where a sheet is not of the form, and 8 exactly where it is and its profile breaks a rule
pub number_14 : (s : List ℕ) → sheet_in s ≡ fails → opened_number (answer_from (sheet_in s)) ≡ 14
number_14 s e = rw e

pub only_14 : (s : List ℕ) → opened_number (answer_from (sheet_in s)) ≡ 14 → sheet_in s ≡ fails
only_14 s e = go (sheet_in s) e
  where
    begun : (a : StartAnswer) → opened_number (answer_by a) ≡ 14 → ⊥
    begun (Ok done) e = absurd (omega arith)
    begun (Err StartRefusal.ProfileBreaksARule) e = absurd (omega arith)

    go : (r : Read Sheet) → opened_number (answer_from r) ≡ 14 → r ≡ fails
    go fails e = refl
    go (reads sheet i) e = absurd (begun (beginning (profile_in sheet.top)).answer e)

module _ (s : List ℕ) (sheet : Sheet) (i : ℕ) (read : sheet_in s ≡ reads sheet i) where
  pub number_8 : keeps_the_rules (profile_in sheet.top) empty_store ≡ false → opened_number (answer_from (sheet_in s)) ≡ 8
  unfolding begun_of start_of
  number_8 broken = rw (read, broken)

  pub only_8 : keeps_the_rules (profile_in sheet.top) empty_store ≡ true → opened_number (answer_from (sheet_in s)) ≡ 0
  unfolding begun_of start_of
  only_8 kept = rw (read, kept)

-- both at once, by the length of the sheet and the form
by_form : (r : Read Sheet) → opened_number (answer_from r) ≡ form_refusal r
unfolding begun_of start_of
by_form fails = refl
by_form (reads w i) = go (keeps_the_rules (profile_in w.top) empty_store) refl
  where
    go : (kept : Bool) → keeps_the_rules (profile_in w.top) empty_store ≡ kept → opened_number (answer_from (reads w i)) ≡ cond kept 0 8
    go true e = rw e
    go false e = rw e

pub number_is : (s : List ℕ) → opened_number (answer_from (sheet_in s)) ≡ sheet_refusal s
unfolding sheet_refusal sheet_in
number_is s =
    ⊎_elim
    (λ (h : 65536 < length s). rw (lt-leb (length s) 65536 h, lt-ltb 65536 (length s) h))
    (λ (h : length s ≤ 65536). rw (le-leb (length s) 65536 h, le-ltb 65536 (length s) h) (by_form (sheet s 0)))
    (lt_or_le 65536 (length s))

-- what opening leaves says the number
abbrev answer_in : Open → Result (Unit {0}) SheetRefusal
answer_in (opens session answer p) = answer

number_in : (r : Result Stepped SheetRefusal) (after : List ℕ) → opened_number (answer_in (opened r after)) ≡ opened_number r
number_in (Ok r) after = refl
number_in (Err e) after = numbered e
  where
    numbered : (e : SheetRefusal) → opened_number {A = Unit {0}} (Err e) ≡ opened_number {A = Stepped} (Err e)
    numbered SheetRefusal.ProfileBreaksARule = refl
    numbered SheetRefusal.NotOfForm = refl

pub with_number : (r : Result Stepped SheetRefusal) (held after s : List ℕ) → opened r after ≡ opened_of held s
    → record { leaves : opened r after ≡ opened_of held s; number : opened_number r ≡ sheet_refusal s }
with_number r held after s e = record {
  leaves = e;
  number = sym (number_in r after) ∙ ap (λ (o : Open). opened_number (answer_in o)) (e ∙ open_is held s) ∙ number_is s;
}

-- the profile of a sheet names raw
pub sheet_names_raw : (top : Top) → (profile_in top).form ≡ Raw
sheet_names_raw top = refl
