-- The read of the whole sheet says which of the two it is. Assumes nothing.
use Prim.Native.Nat.{ℕ}
use mathlib.Core.Path.{sym, ap, ◌∙◌}
use Rattle.std.specs.Prelude.{Err}
use Rattle.state.specs.Parts.{distribution_board, naming_raw}
use Rattle.sheet.specs.declared.head.Head.{Head}
use Rattle.sheet.proofs.Sheets.{accepted, refused}
use Rattle.transcript.specs.declared.SheetRefusal.{SheetRefusal}
use Rattle.session.specs.Sessions.{started_of, opened_of}
use Rattle.session.proofs.Steps.{with_number}
use Rattle.session.proofs.open.Goals as goal

pub returns-in_default : goal.returns-in_default
unfolding opened_of
returns-in_default c =
    let a = c.args in
    let not_read = refused a.s.now c.in_default.ensures.answer in
    with_number (Err SheetRefusal.NotOfForm) a.out.now a.out.now a.s.now (rw not_read)

pub returns : goal.returns
unfolding opened_of
returns c =
    let called = c.args in
    let a = accepted called.s.now c.in-Some.head c.in-Some.ensures.answer in
    let begun = rw (c.naming_raw-profile.ensures, c.distribution.ensures) at c.started.ensures in
    let its = ap (λ (h : Head). started_of called.out.now (naming_raw (distribution_board h.bid h.fitted h.forced)) h.ticks h.first) (sym a.its_top) in
    with_number c.started.result called.out.now c.started.new.out called.s.now (rw a.read (begun ∙ its))
