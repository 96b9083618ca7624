-- By the sign in front, and the number behind it. Assumes nothing.
use native.Mathlib.Omega.{arith}
use Prim.Native.Nat.{◌+◌}
use mathlib.Core.Path.{◌≡◌, sym, ap, ◌∙◌}
use lib.IntN.{ℤ}
use Rattle.grammar.specs.Grammar.{Read, reads, peek_at}
use Rattle.grammar.proofs.Digits.{number_most}
use Rattle.grammar.proofs.Signs.{dash, no_dash, above16, negative_fits, negative, negative16, minus_fails, minus_zero, minus_is, plus_fails, plus_is}
use Rattle.grammar.proofs.Refusals.{with_number}
use Rattle.grammar.proofs.read_signed.Goals as goal

pub returns-in_err-value : goal.returns-in_err-value
returns-in_err-value c =
    let a = c.args in
    let sign = sym c.peek.ensures.is ∙ dash c.peek.result c.if-eq.ensures in
    rw c.from_residual.ensures (with_number (minus_fails a.s.now a.at sign (sym c.in_err-value.ensures.is)))

pub overflow_cast-result : goal.overflow_cast-result
overflow_cast-result c = record { sfits = omega (arith, number_most 32768 c.args.s.now (c.args.at + 1) _ _ (sym c.in_ok-value.ensures.is)) }

pub overflow_sub-result : goal.overflow_sub-result
overflow_sub-result c = negative_fits _ (omega arith) (number_most 32768 c.args.s.now (c.args.at + 1) _ _ (sym c.in_ok-value.ensures.is))

pub overflow_cast-result-then-eq : goal.overflow_cast-result-then-eq
overflow_cast-result-then-eq c =
    let m = number_most 32768 c.args.s.now (c.args.at + 1) _ _ (sym c.in_ok-value.ensures.is) in
    rw (negative c.in_ok-value.field-0.value (omega arith) m) (record { sfits = omega arith })

pub returns-then-value-eq0 : goal.returns-then-value-eq0
returns-then-value-eq0 c =
    let a = c.args in
    let sign = sym c.peek.ensures.is ∙ dash c.peek.result c.if-eq.ensures in
    with_number (minus_zero a.s.now a.at sign _ _ (sym c.in_ok-value.ensures.is) c.if-value-eq0.true)

pub returns-then-eq : goal.returns-then-eq
returns-then-eq c =
    let a = c.args in
    let v = c.in_ok-value.field-0 in
    let sign = sym c.peek.ensures.is ∙ dash c.peek.result c.if-eq.ensures in
    let e = sym c.in_ok-value.ensures.is in
    let m = number_most 32768 a.s.now (a.at + 1) _ _ e in
    with_number
    (ap {B = Read ℤ} (λ (z : ℤ). reads z v.next) (negative16 v.value (omega arith) m)
    ∙ minus_is a.s.now a.at sign _ _ e c.if-value-eq0.false)

pub returns-in_err-value-2 : goal.returns-in_err-value-2
returns-in_err-value-2 c =
    let a = c.args in
    let sign = λ (e : peek_at a.s.now a.at ≡ 45). no_dash c.peek.result c.if-eq.ensures (c.peek.ensures.is ∙ e) in
    rw c.from_residual-in_err-value-2.ensures (with_number (plus_fails a.s.now a.at sign (sym c.in_err-value-2.ensures.is)))

pub overflow_cast-result-2 : goal.overflow_cast-result-2
overflow_cast-result-2 c = record { sfits = omega (arith, number_most 32767 c.args.s.now c.args.at _ _ (sym c.in_ok-value-2.ensures.is)) }

pub returns : goal.returns
returns c =
    let a = c.args in
    let v = c.in_ok-value-2.field-0 in
    let sign = λ (e : peek_at a.s.now a.at ≡ 45). no_dash c.peek.result c.if-eq.ensures (c.peek.ensures.is ∙ e) in
    let e = sym c.in_ok-value-2.ensures.is in
    let m = number_most 32767 a.s.now a.at _ _ e in
    with_number (ap {B = Read ℤ} (λ (z : ℤ). reads z v.next) (above16 v.value (omega (arith, m))) ∙ plus_is a.s.now a.at sign _ _ e)
