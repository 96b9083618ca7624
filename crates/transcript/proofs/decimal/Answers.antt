-- The digits that are left, put behind what stands on the page now. Assumes nothing.
use native.Mathlib.Omega.{arith}
use Prim.Native.Nat.{ℕ, ◌+◌, ◌-◌, ◌^◌}
use mathlib.Core.Path.{◌≡◌, refl, ap, sym, ◌∙◌}
use Rattle.script.specs.Printing.{page, typed}
use Rattle.script.proofs.Turns.{turn}
use Rattle.transcript.specs.Transcript.{digit_for, digits_for}
use Rattle.transcript.proofs.Digits.{digits_turn, power_turn, power_some, digits_last}
use Rattle.transcript.proofs.decimal.Goals as goal

pub loop-init : goal.loop-init
loop-init c = record { same = refl; tens = refl; digits = refl }

pub digit-requires : goal.digit-requires
digit-requires c = power_some _ _ c.loop.invariant.tens

pub loop-preserved : goal.loop-preserved
loop-preserved c =
    let l = c.loop in
    let n = c.args.n in
    let left : ℕ = 9 - l.counter in
    let e : 9 - (l.counter + 1) ≡ left - 1 = omega arith in
    record {
      same = c.digit.ensures.same_reference ∙ l.invariant.same;
      tens = rw e (power_turn left l.power (omega arith) l.invariant.tens);
      digits = rw e (turn (page l.line.out.now l.line.at) _ (digit_for l.power n) (digits_for (left - 1) n) (digits_for left n) c.digit.ensures.typed (digits_turn left n l.power (omega arith) l.invariant.tens) ∙ l.invariant.digits);
    }

pub returns-clause-typed : goal.returns-clause-typed
returns-clause-typed c =
    let l = c.loop in
    let n = c.args.n in
    c.put.ensures.typed ∙ sym (ap (typed (page l.line.out.now l.line.at)) (digits_last (9 - l.counter) n (omega arith))) ∙ l.invariant.digits
