-- Why the mode changes only so: step 2 asks the table, no command but 0x30, 0x32 and 0xAA alters the mode, and step 5
-- alters it only by a reset. Assumes nothing.
use mathlib.Core.Path.{◌≡◌, refl, sym, ap, ◌∙◌, subst}
use mathlib.Core.Bool.{true, false, ◌&&◌, false≢true}
use mathlib.Core.List.{List, [], ◌∷◌}
use mathlib.Core.Option.{some}
use lib.Dec.{eqb}
use borrow.Author.Tests.{eq-eqb}
use Rattle.laws.proofs.Cases.{cases, both, neither}
use Rattle.modes.specs.Table.{Row, from◌when◌to◌, mode_table, number, same, first, step_of, older_of}
use Rattle.modes.specs.Commands.{to_nominal, to_safety, leaves}
use Rattle.modes.specs.declared.Mode.{Mode}
use Rattle.modes.specs.declared.Mode.TheVariants.{Startup, Nominal, Safety, Emergency}
use Rattle.modes.specs.declared.ModeAge.{ModeAge}
use Rattle.kinds.specs.Kinds.{is_in}
use Rattle.command.specs.Decode.{code_of}
use Rattle.state.specs.declared.parts.Board.{Board}
use Rattle.answers.specs.Answers.{told_number}
use Rattle.answers.specs.declared.Commanded.{Commanded}
use Rattle.board.specs.Tick.{risen_of, changed_of, tripped_of}
use Rattle.unit.specs.declared.Machine.{Machine}
use Rattle.unit.specs.Runs.{Sample, after_step3}
use Rattle.groups.specs.Resets.{is_accepted, tells_watchdog_reset, tells_command_reset, tells_reset}
use Rattle.changes.specs.ModeChange.{◌is_one_of◌, here, further, mode_commands, before, afterwards, limits, ByARow, TableAlone, ModeChange}
use Rattle.changes.proofs.Step.{Takes, leaving, obeying}
use Rattle.changes.proofs.Ticks.{of_accepted, step, tells, leaves_step_4, accepted_leaves, told_0, step_0, code_is}

-- ---- the table
-- a mode is itself
same_itself : (m : Mode) → same m m ≡ true
same_itself m = eq-eqb (number m) (number m) refl

-- modes that are not told apart are the same
is_same : (m n : Mode) → same m n ≡ true → m ≡ n
is_same Startup Startup e = refl
is_same Startup Nominal e = absurd (false≢true e)
is_same Startup Safety e = absurd (false≢true e)
is_same Startup Emergency e = absurd (false≢true e)
is_same Nominal Startup e = absurd (false≢true e)
is_same Nominal Nominal e = refl
is_same Nominal Safety e = absurd (false≢true e)
is_same Nominal Emergency e = absurd (false≢true e)
is_same Safety Startup e = absurd (false≢true e)
is_same Safety Nominal e = absurd (false≢true e)
is_same Safety Safety e = refl
is_same Safety Emergency e = absurd (false≢true e)
is_same Emergency Startup e = absurd (false≢true e)
is_same Emergency Nominal e = absurd (false≢true e)
is_same Emergency Safety e = absurd (false≢true e)
is_same Emergency Emergency e = refl

-- a row among some rows that leads from the mode of s to that of t, and t is just entered
record LedBy (rows : List Row) (s t : ModeAge) : Type 0 where
  row : (from s.mode when true to t.mode) is_one_of rows
  just_entered : t.age ≡ 0

-- another mode than that of s is one that a row leads to
led : (rows : List Row) (s : ModeAge) → same s.mode (first rows s).mode ≡ false → LedBy rows s (first rows s)
led [] s e = absurd (false≢true (sym e ∙ same_itself s.mode))
led ((from m when t to n) ∷ rows) s e =
    cases (same m s.mode && t)
    (λ a.
    let h = both (same m s.mode) t a in
    let r : (from s.mode when true to n) ≡ (from m when t to n) = rw (is_same m s.mode h.0, h.1) in
    rw a (record { row = here r; just_entered = refl }))
    (λ a. let l = led rows s (rw a at e) in rw a (record { row = further l.row; just_entered = l.just_entered }))

module _ (m : Machine) (i : Sample) where
  -- step 2 leaves what the table makes of the mode one tick older, and step 3 leaves it too
  settled : (after_step3 m i).phase ≡ step_of (before m) i.rail (limits m)
  unfolding tripped_of changed_of risen_of
  settled = refl

  -- ---- step 4
  abbrev Stepped : Commanded → Type 0
  Stepped x = Takes i.rail (limits m) i.transfer (after_step3 m i) x

  -- a command that is none of the three
  step_phase : {x : Commanded} → Stepped x → (is_accepted (told_number x.outcome) && is_in (code_of i.transfer) mode_commands) ≡ false
      → (is_accepted (told_number x.outcome) && eqb (code_of i.transfer) 0xAA) ≡ false → x.board.phase ≡ (after_step3 m i).phase
  step_phase (leaving a left) n r = left.phase
  step_phase (obeying t obeyed) n r = obeyed.phase (of_accepted _ _ false t n) (of_accepted _ _ false t r)

  -- 0x30
  step_nominal : {x : Commanded} → Stepped x → told_number x.outcome ≡ some 0 → eqb (code_of i.transfer) 0x30 ≡ true
      → x.board.phase ≡ leaves (to_nominal (after_step3 m i).phase i.rail (limits m)) (after_step3 m i).phase
  step_nominal (leaving a left) q e = absurd (false≢true (sym a ∙ rw q))
  step_nominal (obeying t obeyed) q e = obeyed.nominal e

  -- 0x32
  step_safety : {x : Commanded} → Stepped x → told_number x.outcome ≡ some 0 → eqb (code_of i.transfer) 0x32 ≡ true
      → x.board.phase ≡ leaves (to_safety (after_step3 m i).phase) (after_step3 m i).phase
  step_safety (leaving a left) q e = absurd (false≢true (sym a ∙ rw q))
  step_safety (obeying t obeyed) q e = obeyed.safety e

  -- ---- the tick
  by_table : TableAlone m i → afterwards m i ≡ step_of (before m) i.rail (limits m)
  unfolding tells_reset tells_command_reset
  by_table o =
      let a = o.happening in
      let w = neither (tells_watchdog_reset m i) _ o.no_reset in
      ap (λ (b : Board). b.phase) (leaves_step_4 m i a w.0)
      ∙ step_phase (step m i) (rw (tells m i a) at o.no_command) (rw (tells m i a) at w.1)
      ∙ settled

  -- the mode one tick older is the mode, so a row leads to another
  by_row : TableAlone m i → same m.board.phase.mode (afterwards m i).mode ≡ false → ByARow m i
  unfolding step_of older_of
  by_row o n =
      let e = by_table o in
      let l = led (mode_table (before m).age i.rail (limits m)) (before m) (rw e at n) in
      record {
        row = subst (λ (p : ModeAge). (from m.board.phase.mode when true to p.mode) is_one_of mode_table (before m).age i.rail (limits m)) (sym e) l.row;
        just_entered = ap (λ (p : ModeAge). p.age) e ∙ l.just_entered;
      }

  -- the claim
  pub mode_change : ModeChange m i
  mode_change =
      record {
        by_table = by_table;
        by_row = by_row;
        to_nominal = λ h. ap (λ (b : Board). b.phase) (accepted_leaves m i (told_0 m i 0x30 h)) ∙ step_nominal (step m i) (step_0 m i 0x30 h) (code_is m i 0x30 h);
        to_safety = λ h. ap (λ (b : Board). b.phase) (accepted_leaves m i (told_0 m i 0x32 h)) ∙ step_safety (step m i) (step_0 m i 0x32 h) (code_is m i 0x32 h);
      }
