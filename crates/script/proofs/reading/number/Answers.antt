-- The digits that are left, behind the number so far, spell what all of them spell. Assumes nothing.
use Rattle.std.proofs.Common.{ℕ, ◌≡◌, ◌+◌, ◌-◌, drop, sym, ap, ◌∙◌, arith}
use Rattle.hexadecimal.specs.Hex.{digit_of}
use Rattle.hexadecimal.specs.Passes.{worth}
use Rattle.script.specs.Reading.{field_of}
use Rattle.script.proofs.Turns.{number_bad, number_good, number_end}
use Rattle.script.proofs.reading.number.Goals as goal

pub returns-in_err-d : goal.returns-in_err-d
returns-in_err-d c =
    let l = c.loop-i in
    let w = ap digit_of (sym c.byte.ensures) ∙ sym c.digit.ensures.is ∙ c.in_err-d.was in
    c.from_residual.ensures ∙ sym (number_bad l.n (c.args.digits - l.i) c.rest-text.result.now l.i (omega arith) w) ∙ l.invariant ∙ ap (field_of 0 c.args.digits) c.rest-text.ensures

pub overflow_add-n : goal.overflow_add-n
overflow_add-n c = omega (arith, ap worth c.in_ok-d.was)

pub loop-i-preserved : goal.loop-i-preserved
loop-i-preserved c =
    let l = c.loop-i in
    let left : ℕ = c.args.digits - l.i in
    let w = ap digit_of (sym c.byte.ensures) ∙ sym c.digit.ensures.is ∙ c.in_ok-d.was in
    let e : c.args.digits - (l.i + 1) ≡ left - 1 = omega arith in
    rw e (sym (number_good l.n left c.rest-text.result.now l.i (omega arith) c.in_ok-d.d w) ∙ l.invariant)

pub returns : goal.returns
returns c =
    let l = c.loop-i in
    sym (number_end l.n (c.args.digits - l.i) (drop l.i c.rest-text.result.now) (omega arith)) ∙ l.invariant ∙ ap (field_of 0 c.args.digits) c.rest-text.ensures
