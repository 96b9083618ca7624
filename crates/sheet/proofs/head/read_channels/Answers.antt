-- The channels that are left, behind those of the set, are read as all of them from the start. Assumes nothing.
use native.Mathlib.Omega.{arith}
use Prim.Native.Nat.{◌+◌, ◌-◌}
use mathlib.Core.Path.{◌≡◌, sym, ◌∙◌}
use Rattle.grammar.proofs.Digits.{number_most}
use Rattle.sheet.proofs.Parts.{channels_end, channels_none, channels_low, channels_apart, channels_more}
use Rattle.sheet.proofs.head.read_channels.Goals as goal

pub returns-in_err-c : goal.returns-in_err-c
returns-in_err-c c =
    let a = c.args in
    let l = c.loop-k in
    rw c.from_residual.ensures (sym (channels_none l.set a.s.now (a.count - l.k) l.least l.i _ (omega arith) (sym c.in_err-c.ensures.is) (omega arith)) ∙ l.invariant)

pub returns-then-c-least : goal.returns-then-c-least
returns-then-c-least c =
    let a = c.args in
    let l = c.loop-k in
    sym (channels_low l.set a.s.now _ _ (a.count - l.k) l.least l.i _ (omega arith) (sym c.in_ok-c.ensures.is) (omega arith) (omega arith)) ∙ l.invariant

pub returns-in_err-i : goal.returns-in_err-i
returns-in_err-i c =
    let a = c.args in
    let l = c.loop-k in
    rw c.from_residual-in_err-i.ensures
    (sym (channels_apart l.set a.s.now _ _ (a.count - l.k) l.least l.i _ (omega arith) (sym c.in_ok-c.ensures.is) (omega arith) (omega arith) (sym c.in_err-i.ensures)) ∙ l.invariant)

pub overflow_cast-c : goal.overflow_cast-c
overflow_cast-c c = omega (arith, number_most _ c.args.s.now _ _ _ (sym c.in_ok-c.ensures.is))

pub overflow_add-least : goal.overflow_add-least
overflow_add-least c = omega (arith, number_most _ c.args.s.now _ _ _ (sym c.in_ok-c.ensures.is))

pub loop-k-preserved : goal.loop-k-preserved
loop-k-preserved c =
    let a = c.args in
    let l = c.loop-k in
    let f = c.in_ok-c.field-0 in
    let left : a.count - (l.k + 1) ≡ a.count - l.k - 1 = omega arith in
    rw (left, c.with_channel-set.ensures)
    (sym (channels_more l.set a.s.now f.value f.next (a.count - l.k) l.least l.i _ _ (omega arith) (sym c.in_ok-c.ensures.is) (omega arith) (omega arith) (sym c.in_ok-i.ensures) _ (omega arith)) ∙ l.invariant)

pub returns : goal.returns
returns c =
    let a = c.args in
    let l = c.loop-k in
    sym (channels_end l.set a.s.now (a.count - l.k) l.least l.i (omega arith)) ∙ l.invariant
