-- Refusals 8 to 14, from the laws of the crates that give them. Assumes nothing.
use Prim.Native.Nat.{ℕ}
use mathlib.Core.Path.{◌≡◌, refl, sym, ap, ◌∙◌}
use mathlib.Core.Bool.{Bool, true, false, cond, ◌||◌}
use mathlib.Core.Logic.{◌⊎◌, inl, inr}
use mathlib.Core.List.{List}
use mathlib.Core.Option.{some}
use native.Mathlib.Omega.{arith}
use lib.Dec.{eqb}
use lib.ListN.{length}
use borrow.Author.Tests.{eq-eqb, ne_eqb}
use Rattle.std.specs.Prelude.{Result, Ok, Err}
use Rattle.laws.proofs.Cases.{cases}
use Rattle.memory.specs.Memory.{Store, empty_store}
use Rattle.state.specs.Parts.{word_count}
use Rattle.state.specs.Start.{StartAnswer, keeps_the_rules, start_of}
use Rattle.state.specs.declared.parts.Profile.{Profile}
use Rattle.state.specs.declared.starting.Started.{Started}
use Rattle.state.proofs.Laws as state
use Rattle.board.specs.Tick.{allowed_count, tick_of}
use Rattle.board.proofs.Laws as board
use Rattle.board.proofs.Happened as happened
use Rattle.reading.proofs.Given as read
use Rattle.reading.proofs.Leaves.{refused_leaves}
use Rattle.framing.proofs.Enclosing.{laid_short}
use Rattle.framing.proofs.FramingLaws.{number_13_framing}
use Rattle.unit.specs.Machine.{begun_by, begun_of, told_of, heard_of, due_of}
use Rattle.unit.specs.declared.Machine.{Machine}
use Rattle.unit.specs.Runs.{Sample, happens}
use Rattle.unit.proofs.Laws as unit
use Rattle.grammar.specs.Grammar.{Read, fails, reads}
use Rattle.sheet.specs.Form.{Sheet, sheet_in}
use Rattle.script.specs.Printing.{page}
use Rattle.transcript.specs.Transcript.{opened_number}
use Rattle.transcript.specs.declared.SheetRefusal.{SheetRefusal}
use Rattle.transcript.specs.declared.SheetRefusal.TheVariants.{ProfileBreaksARule, NotOfForm}
use Rattle.session.specs.Sessions.{profile_in, opens, no_session, opened_of, started_of, answer_from}
use Rattle.session.proofs.Steps as session
use Rattle.refusals.specs.Conditions.{tick_answer}
use Rattle.refusals.specs.Rules.{KeepsAllRules, OfTheForm}
use Rattle.refusals.specs.Untouched.{start_told, Eight, NeitherNoneNorAll, Nine, Reads, Frames, number_in, sheet_told, Sheets, OtherRefusals}
use Rattle.refusals.proofs.Rules.{rules_kept, kept_rules, form_read, read_form}

begun_answer : (a : StartAnswer) (s : Started) (there : Machine) → (begun_by a s there).answer ≡ a
begun_answer (Ok done) s there = refl
begun_answer (Err r) s there = refl

-- the number of a start, by the rules
start_number_lem : (there : Machine) (p : Profile) (store : Store) → start_told there p store ≡ cond (keeps_the_rules p store) 0 8
unfolding begun_of
start_number_lem there p store = rw (begun_answer (start_of there.board p store).answer (start_of there.board p store) there) (state.number_8 there.board p store)

eight : Eight
eight =
    record {
      none_or_8 = λ there p store. cases (keeps_the_rules p store) (λ e. inl (start_number_lem there p store ∙ rw e)) (λ e. inr (start_number_lem there p store ∙ rw e));
      kept = λ there p store k. start_number_lem there p store ∙ rw (rules_kept p store k);
      only_kept = λ there p store e. kept_rules p store (accepted there p store e);
      leaves = λ there p store e. unit.refused_start_leaves there p store (broken p store (sym (start_number_lem there p store) ∙ e));
      profile = λ there p store e. unit.started_of_the_profile there p store (accepted there p store e);
      form = λ there p store e. unit.started_in_the_profiles_form there p store (accepted there p store e);
    }
  where
    held : (p : Profile) (store : Store) → cond {A = ℕ} (keeps_the_rules p store) 0 8 ≡ 0 → keeps_the_rules p store ≡ true
    held p store e = cases (keeps_the_rules p store) (λ h. h) (λ h. let q = rw h at e in absurd (omega arith))

    accepted : (there : Machine) (p : Profile) (store : Store) → start_told there p store ≡ 0 → keeps_the_rules p store ≡ true
    accepted there p store e = held p store (sym (start_number_lem there p store) ∙ e)

    broken : (p : Profile) (store : Store) → cond {A = ℕ} (keeps_the_rules p store) 0 8 ≡ 8 → keeps_the_rules p store ≡ false
    broken p store e = cases (keeps_the_rules p store) (λ h. let q = rw h at e in absurd (omega arith)) (λ h. h)

-- the words lent
lent : (m : Machine) (i : Sample) → NeitherNoneNorAll m i → happens (word_count m.board) i ≡ false
unfolding allowed_count
lent m i n = rw (ne_eqb (length i.words) 0 n.0, ne_eqb (length i.words) (word_count m.board) n.1)

lent_none : (m : Machine) (i : Sample) → length i.words ≡ 0 → happens (word_count m.board) i ≡ true
unfolding allowed_count
lent_none m i e = rw (eq-eqb (length i.words) 0 e)

lent_all : (m : Machine) (i : Sample) → length i.words ≡ word_count m.board → happens (word_count m.board) i ≡ true
unfolding allowed_count
lent_all m i e = rw (eq-eqb (length i.words) (word_count m.board) e) (or_true (eqb (length i.words) 0))
  where
    or_true : (b : Bool) → b || true ≡ true
    or_true true = refl
    or_true false = refl

nine : Nine
unfolding told_of tick_of
nine =
    record {
      given = λ m i n. board.number_9 i.rail i.named i.words i.sent i.transfer m.board (lent m i n);
      only = λ m i e. neither m i e;
      leaves = λ m i e. let wrong = lent m i (neither m i e) in (unit.refused_tick_leaves i.rail i.named i.words i.sent i.transfer m wrong, rw wrong);
    }
  where
    neither : (m : Machine) (i : Sample) → tick_answer m i ≡ some 9 → NeitherNoneNorAll m i
    neither m i e =
        let only : happens (word_count m.board) i ≡ true → ⊥ = λ h. happened.only_9 i.rail i.named i.words i.sent i.transfer m.board h e in
        (λ z. only (lent_none m i z), λ z. only (lent_all m i z))

reading : Reads
unfolding heard_of
reading =
    record {
      given = λ m received scratch. read.given m.board.form received (length scratch);
      only = λ m received scratch line g. sym (read.given_only m.board.form received (length scratch) line g);
      leaves = λ m received scratch n. (unit.refused_line_leaves received (length scratch) m n, refused_leaves scratch m.board.form received n);
      command = λ m received scratch. unit.command_leaves received (length scratch) m;
      switch = λ m received scratch to behind e. (unit.switch_takes received (length scratch) m to behind e).0;
    }

framing : Frames
unfolding due_of
framing =
    record {
      given = λ m out l. (number_13_framing m.due m.board.form _ (length out)).1 l;
      only = λ m out e. (number_13_framing m.due m.board.form _ (length out)).0 e;
      leaves = λ m out l. laid_short (due_of m) out l;
    }

-- the number of a sheet, by what was read
sheet_number : (held s : List ℕ) → sheet_told held s ≡ opened_number (answer_from (sheet_in s))
sheet_number held s = ap number_in (session.open_is held s)

not_read : (held s : List ℕ) → sheet_told held s ≡ 14 → sheet_in s ≡ fails
not_read held s e = session.only_14 s (sym (sheet_number held s) ∙ e)

-- a sheet of the form, by its profile
module _ (held s : List ℕ) (f : OfTheForm s) where
  told_0 : KeepsAllRules (profile_in f.top) empty_store → sheet_told held s ≡ 0
  told_0 k = sheet_number held s ∙ session.only_8 s _ _ (form_read s f) (rules_kept _ _ k)

  told_8_by : keeps_the_rules (profile_in f.top) empty_store ≡ false → sheet_told held s ≡ 8
  told_8_by k = sheet_number held s ∙ session.number_8 s _ _ (form_read s f) k

  told_8 : (KeepsAllRules (profile_in f.top) empty_store → ⊥) → sheet_told held s ≡ 8
  told_8 bad = told_8_by (cases (keeps_the_rules (profile_in f.top) empty_store) (λ k. absurd (bad (kept_rules _ _ k))) (λ k. k))

-- a sheet that is not told 14 is of the form
formed : (held s : List ℕ) → (sheet_told held s ≡ 14 → ⊥) → OfTheForm s
formed held s n = by (sheet_in s) refl
  where
    by : (r : Read Sheet) → sheet_in s ≡ r → OfTheForm s
    by fails q = absurd (n (sheet_number held s ∙ session.number_14 s q))
    by (reads w i) q = read_form s w i q

sheets : Sheets
unfolding opened_of started_of begun_of start_of
sheets =
    record {
      given_14 = λ held s none. sheet_number held s ∙ session.number_14 s (no_form s none);
      only_14 = λ held s e f. let q = not_read held s e in let r = form_read s f in let z : ◌≡◌ {A = ℕ} 0 1 = cc in absurd (omega arith);
      leaves_14 = λ held s e. rw (not_read held s e);
      given_8 = λ held s f bad. told_8 held s f bad;
      only_8 = λ held s e. let f = formed held s (λ q. let z = sym e ∙ q in absurd (omega arith)) in (f, λ k. let z = sym (told_0 held s f k) ∙ e in absurd (omega arith));
      leaves_8 = λ held s e. go held s (sheet_in s) refl (sym (sheet_number held s) ∙ e);
      given_none = told_0;
      only_none = λ held s e.
          let f = formed held s (λ q. let z = sym e ∙ q in absurd (omega arith)) in
          (f, cases (keeps_the_rules (profile_in f.top) empty_store) (λ k. kept_rules _ _ k) (λ k. let z = sym (told_8_by held s f k) ∙ e in absurd (omega arith)));
      no_other = λ held s. any held s (answer_from (sheet_in s)) (sheet_number held s);
    }
  where
    no_form : (s : List ℕ) → (OfTheForm s → ⊥) → sheet_in s ≡ fails
    no_form s none = by (sheet_in s) refl
      where
        by : (r : Read Sheet) → sheet_in s ≡ r → r ≡ fails
        by fails q = refl
        by (reads w i) q = absurd (none (read_form s w i q))

    go : (held s : List ℕ) (r : Read Sheet) → sheet_in s ≡ r → opened_number (answer_from (sheet_in s)) ≡ 8 → opened_of held s ≡ opens no_session (Err ProfileBreaksARule) (page held 0)
    go held s fails q e = let z = sym (session.number_14 s q) ∙ e in absurd (omega arith)
    go held s (reads w i) q e =
        cases (keeps_the_rules (profile_in w.top) empty_store)
        (λ k. let z = sym (session.only_8 s w i q k) ∙ e in absurd (omega arith))
        (λ k. rw (q, k))

    any : (held s : List ℕ) (a : Result (Unit {0}) SheetRefusal) → sheet_told held s ≡ opened_number a → (sheet_told held s ≡ 0) ⊎ (sheet_told held s ≡ 8) ⊎ (sheet_told held s ≡ 14)
    any held s (Ok u) e = inl e
    any held s (Err ProfileBreaksARule) e = inr (inl e)
    any held s (Err NotOfForm) e = inr (inr e)

pub other_refusals : OtherRefusals
other_refusals = record { eight = eight; nine = nine; reading = reading; framing = framing; sheets = sheets }
