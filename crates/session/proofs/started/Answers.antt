-- The answer of the start says which of the two it is. Assumes nothing.
use Rattle.memory.specs.Memory.{empty_store}
use Prim.Native.Nat.{ℕ}
use mathlib.Core.Path.{◌≡◌, refl}
use Rattle.std.specs.Prelude.{List, Err}
use Rattle.state.specs.declared.starting.StartRefusal.{StartRefusal}
use Rattle.unit.specs.declared.Machine.{Machine}
use Rattle.script.specs.Printing.{page}
use Rattle.transcript.specs.declared.SheetRefusal.{SheetRefusal}
use Rattle.session.specs.Sessions.{opens, no_session, started_by, started_of}
use Rattle.session.proofs.started.Goals as goal

pub returns-in-Ok : goal.returns-in-Ok
unfolding started_of empty_store
returns-in-Ok c =
    let begun = rw c.unstarted.ensures at c.start-begun.ensures.value in
    rw (← begun, c.in-Ok.is, c.ticks_line.ensures)

-- a refused start, of which there is one kind
refused_start : (e : StartRefusal) (m : Machine) (count first : ℕ) (held : List ℕ) → opens no_session (Err SheetRefusal.ProfileBreaksARule) (page held 0) ≡ started_by (Err e) m count first held
refused_start StartRefusal.ProfileBreaksARule m count first held = refl

pub returns-in-Err-ProfileBreaksARule : goal.returns-in-Err-ProfileBreaksARule
unfolding started_of empty_store
returns-in-Err-ProfileBreaksARule c =
    let begun = rw c.unstarted.ensures at c.start-begun.ensures.value in
    rw (← begun, c.in-Err-ProfileBreaksARule.is) (refused_start c.in-Err-ProfileBreaksARule.field-0 c.start-begun.result.machine c.args.ticks c.args.first c.args.out.now)
