-- Stores from the front on leave what is behind them. Assumes nothing.
use native.Mathlib.Omega.{arith}
use mathlib.Core.Path.{◌≡◌, sym, ◌∙◌}
use Prim.Native.Nat.{◌≤◌}
use lib.ListN.{length}
use Rattle.laws.proofs.Lists.{sets_front}
use Rattle.framing.proofs.Enclosing.{laid_fits}
use Rattle.framing.proofs.copy.Goals as goal

pub returns-clause-held : goal.returns-clause-held
returns-clause-held c =
    let a = c.args in
    let h : length a.text.now ≤ length a.out.now = omega arith in
    c.lay.ensures ∙ sets_front a.out.now a.text.now h ∙ sym (laid_fits a.text.now a.out.now h)
