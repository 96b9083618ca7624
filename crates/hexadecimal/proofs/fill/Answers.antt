-- The stores that are left, made on what the buffer holds now, give what all of them give on what it held at first.
-- Assumes nothing.
use borrow.Author.Rules.{rules}
use native.Mathlib.Omega.{arith}
use Prim.Native.Nat.{◌+◌, ◌*◌}
use mathlib.Core.Path.{◌≡◌, refl, sym, ap, ◌∙◌}
use lib.ListN.{length, length-set}
use lib.Seq.{sets}
use Rattle.laws.proofs.Lists.{sets_turn}
use Rattle.hexadecimal.proofs.Reading.{values_end, values_turn}
use Rattle.hexadecimal.proofs.fill.Goals as goal

pub loop-k-init : goal.loop-k-init
loop-k-init c = (refl, omega arith, refl)

pub bounds-out-k : goal.bounds-out-k
bounds-out-k c = omega (arith, ap length (values_turn c.args.text.now (3 * c.loop-k.k) (omega arith)))

pub loop-k-preserved : goal.loop-k-preserved
loop-k-preserved c =
    let l = c.loop-k in
    let s = c.args.text.now in
    let next : 3 * (l.k + 1) ≡ 3 * l.k + 3 = omega arith in
    let e = values_turn s (3 * l.k) (omega arith) in
    rw next (
      simp length-set l.invariant.0,
      simp length-set (omega (arith, ap length e)),
      sets_turn l.out l.k e c.value.ensures ∙ l.invariant.2,
    )

pub returns : goal.returns
returns c =
    let l = c.loop-k in
    sym (ap (sets l.out l.k) (values_end c.args.text.now (3 * l.k) (omega arith))) ∙ l.invariant.2
