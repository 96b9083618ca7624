-- What is left to drop, dropped from what the number is now. Assumes nothing.
use Rattle.std.proofs.Common.{ℕ, ◌≡◌, ◌+◌, ◌-◌, sym, ap, ◌∙◌, arith}
use Rattle.script.specs.Printing.{over}
use Rattle.script.proofs.Turns.{over_turn}
use Rattle.script.proofs.printing.over.Goals as goal

pub loop-preserved : goal.loop-preserved
loop-preserved c =
    let l = c.loop in
    let left : ℕ = c.args.digits - l.counter in
    let e : c.args.digits - (l.counter + 1) ≡ left - 1 = omega arith in
    rw e (sym (over_turn left l.rest (omega arith)) ∙ l.invariant)

pub returns : goal.returns
unfolding over
returns c =
    let e : c.args.digits - c.loop.counter ≡ 0 = omega arith in
    sym (ap (λ (k : ℕ). over k c.loop.rest) e) ∙ c.loop.invariant
