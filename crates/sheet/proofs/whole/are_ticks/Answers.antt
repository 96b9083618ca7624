-- The lines that are left stand from here on just where all of them stand from the first on. Assumes nothing.
use native.Mathlib.Omega.{arith}
use Prim.Native.Nat.{◌+◌, ◌-◌}
use mathlib.Core.Path.{◌≡◌, ap, ◌∙◌}
use Rattle.sheet.proofs.Runs.{are_ticks_behind, ticks_turn, ticks_end}
use Rattle.sheet.proofs.whole.are_ticks.Goals as goal

pub loop-k-preserved : goal.loop-k-preserved
loop-k-preserved c =
    let a = c.args in
    let l = c.loop-k in
    let left : a.count - (l.k + 1) ≡ a.count - l.k - 1 = omega arith in (
      omega (arith, l.invariant.0),
      rw left
          (ap (are_ticks_behind (a.count - l.k - 1) a.s.now) c.in-Ok.ensures.answer ∙ ticks_turn (a.count - l.k) a.s.now l.at _ (omega arith) l.invariant.0 ∙ l.invariant.1),
    )

pub returns-in_default : goal.returns-in_default
returns-in_default c =
    let a = c.args in
    let l = c.loop-k in
    ap (are_ticks_behind (a.count - l.k - 1) a.s.now) c.in_default.ensures.answer ∙ ticks_turn (a.count - l.k) a.s.now l.at _ (omega arith) l.invariant.0 ∙ l.invariant.1

pub returns : goal.returns
returns c =
    let l = c.loop-k in
    ticks_end (c.args.count - l.k) c.args.s.now l.at (omega arith) ∙ l.invariant.1
