-- What the value and the digits from here on spell is what the digits from `at` on spell. Assumes nothing.
use native.Mathlib.Omega.{arith}
use Prim.Native.Nat.{◌+◌, ◌*◌, ◌<◌}
use mathlib.Core.Path.{◌≡◌, sym, ap, ◌∙◌}
use mathlib.Core.List.{[]}
use lib.ListN.{length, drop}
use Rattle.grammar.specs.Numbers.{digits, digit_at}
use Rattle.grammar.proofs.Refusals.{with_number}
use Rattle.grammar.proofs.Digits.{stop, more, spells_grows, spells_end, spells_turn, number_none, number_zero, number_led, number_over, number_is}
use Rattle.grammar.proofs.read_number.Goals as goal

pub returns-in_err-first : goal.returns-in_err-first
returns-in_err-first c =
    let a = c.args in
    rw c.from_residual.ensures (with_number (number_none a.limit a.s.now a.at (omega (arith, c.in_err-first.ensures.is))))

pub returns-in-Some : goal.returns-in-Some
returns-in-Some c =
    let a = c.args in
    with_number (number_led a.limit a.s.now a.at (omega (arith, c.in_ok-first.ensures.is)) (omega (arith, c.in-Some.ensures.is, c.in-Some.ensures.small)))

pub returns-in-None : goal.returns-in-None
returns-in-None c =
    let a = c.args in
    with_number (number_zero a.limit a.s.now a.at (omega (arith, c.in_ok-first.ensures.is)) (omega (arith, c.in-None.ensures.is)))

pub returns-then-most-value : goal.returns-then-most-value
returns-then-most-value c =
    let a = c.args in
    let s = a.s.now in
    let l = c.loop-d in
    let d = c.in-Some-decimal in
    let digit : digit_at s l.next < 10 = omega (arith, d.ensures.is, d.ensures.small) in
    with_number (number_over a.limit s a.at
    (omega (arith, d.ensures.is, l.invariant.same, spells_turn s l.next l.value digit, spells_grows (l.value * 10 + digit_at s l.next) (digits (drop (l.next + 1) s)))))

pub loop-d-preserved : goal.loop-d-preserved
loop-d-preserved c =
    let s = c.args.s.now in
    let l = c.loop-d in
    let d = c.in-Some-decimal in
    let digit : digit_at s l.next < 10 = omega (arith, d.ensures.is, d.ensures.small) in
    record {
      small = omega arith;
      same = rw d.ensures.is (sym (spells_turn s l.next l.value digit) ∙ l.invariant.same);
      ends = omega (arith, l.invariant.ends, ap length (more s l.next digit));
    }

pub returns : goal.returns
returns c =
    let a = c.args in
    let s = a.s.now in
    let l = c.loop-d in
    let first = c.in_ok-first.ensures in
    let e : digits (drop l.next s) ≡ [] = stop s l.next (omega (arith, c.in_default.ensures.is)) in
    with_number (number_is a.limit s a.at l.value l.next (omega (arith, first.is, first.small)) (λ z. omega (arith, first.is))
    (sym (spells_end l.value (digits (drop l.next s)) e) ∙ l.invariant.same) (omega arith) (omega (arith, l.invariant.ends, ap length e)))
