-- What the tick line says, and whether a tick is left. Assumes nothing.
use borrow.Author.Tests.{eq-eqb, ne_eqb, lt-ltb, le-ltb}
use native.Mathlib.Omega.{arith}
use mathlib.Core.Path.{◌≡◌, sym, ap, ◌∙◌}
use lib.ListN.{replicate}
use Prim.Native.Nat.{ℕ}
use lib.IntN.{ℤ}
use Rattle.std.specs.Prelude.{Bool, List, Option, is_some}
use Rattle.asking.specs.Sent.{is_sent, bytes_sent}
use Rattle.sheet.specs.Form.{bytes_of}
use Rattle.sheet.specs.Answers.{is_sent as has_bytes, sent_length, line_by}
use Rattle.sheet.specs.declared.ticks.TickLine.{TickLine}
use Rattle.session.specs.Sessions.{first_sent, stepped_of, ticked_of}
use Rattle.session.proofs.Ticks.{read_tick, no_tick, transfer_held, sent_told}
use Rattle.session.proofs.step.Goals as goal
use Rattle.session.proofs.step.Goals.{then-session-eq0-via-then-session-eq0, then-session-eq0-via-else-session-eq0+then-session}

pub returns-in_default : goal.returns-in_default
unfolding stepped_of
returns-in_default c =
    let a = c.args in
    rw (no_tick 256 a.s.now a.session.at _ c.in_default.ensures.answer, c.ended.ensures)

pub returns-then-session-eq0 : goal.returns-then-session-eq0
unfolding stepped_of
returns-then-session-eq0 c =
    let a = c.args in
    let t = read_tick 256 a.s.now a.session.at c.in-Ok.line c.in-Ok.ensures.answer in
    elim c.then-session-eq0.branch [
      | then-session-eq0-via-then-session-eq0 w ↦
          rw (t.is, eq-eqb a.session.left 0 (omega arith), c.ended-then-session-eq0.ensures)
      | then-session-eq0-via-else-session-eq0+then-session w ↦
          rw (
            t.is,
            ne_eqb a.session.left 0 (λ e. absurd (omega arith)),
            lt-ltb a.session.count a.session.left (omega arith),
            c.ended-then-session-eq0.ensures,
          )
    ]

pub returns : goal.returns
unfolding stepped_of
returns c =
    let a = c.args in
    let s = a.session in
    let out = a.out.now in
    let line = c.in-Ok.line in
    let r = c.sent_of.result in
    let t = read_tick 256 a.s.now s.at line c.in-Ok.ensures.answer in
    let tick = t.tick in
    let its_rail : tick.rail ≡ line.rail = ap (λ (l : TickLine). l.rail) t.its_line in
    let its_set : tick.overcurrent ≡ line.overcurrent = ap (λ (l : TickLine). l.overcurrent) t.its_line in
    let its_length : sent_length tick.transfer ≡ line.transfer = ap (λ (l : TickLine). l.transfer) t.its_line in
    let held = transfer_held a.s.now s.at (replicate 256 0) tick line.next t.is_any t.short in
    let sent : is_sent r ≡ has_bytes tick.transfer = c.sent_of.ensures.is ∙ ap is_some (sym its_length) ∙ sent_told tick.transfer in
    let bytes : bytes_sent r ≡ bytes_of tick.transfer =
    c.sent_of.ensures.bytes
    ∙ ap (λ (o : Option ℕ). first_sent o c.read_tick.new.transfer) (sym its_length)
    ∙ ap (first_sent (sent_length tick.transfer)) c.read_tick.ensures.held
    ∙ held in
    let ran =
    c.ticked.ensures
    ∙ ap (λ (x : ℤ). ticked_of out s x line.overcurrent (is_sent r) (bytes_sent r) line.next) (sym its_rail)
    ∙ ap (λ (x : ℕ). ticked_of out s tick.rail x (is_sent r) (bytes_sent r) line.next) (sym its_set)
    ∙ ap (λ (x : Bool). ticked_of out s tick.rail tick.overcurrent x (bytes_sent r) line.next) sent
    ∙ ap (λ (x : List ℕ). ticked_of out s tick.rail tick.overcurrent (has_bytes tick.transfer) x line.next) bytes in
    rw (t.is, ne_eqb s.left 0 (λ e. absurd (omega arith)), le-ltb s.count s.left (omega arith)) ran
