-- `may_switch_off` meets its contract: a channel above 31 is in no set, and any other is tested for in the
-- command-enabled one. Assumes nothing.
use mathlib.Core.Path.{◌∙◌}
use mathlib.Core.Logic.{⊎_elim}
use Prim.Native.Nat.{◌<◌, ◌≤◌}
use native.Mathlib.Omega.{arith}
use borrow.Author.Rules.{rules}
use borrow.Author.Tests.{lt-ltb, le-ltb}
use Rattle.laws.proofs.Cases.{cases}
use Rattle.laws.proofs.Lists.{lt_or_le}
use Rattle.channels.specs.Sets.{has}
use Rattle.channels.proofs.Sets.{has_and, has_out}
use Rattle.channels.proofs.Cases.{holds}
use Rattle.channels.proofs.may_switch_off.Goals as goal

pub returns : goal.returns
returns c =
    c.contains.ensures
    ∙ ⊎_elim
    (λ (l : 31 < c.args.c). simp (lt-ltb 31 c.args.c l, has_and, has_out 32 c.args.fitted c.args.c (search rules) (omega arith)))
    (λ (l : c.args.c ≤ 31).
    let h : c.args.c < 32 = omega arith in
    simp (le-ltb 31 c.args.c l, holds, c.ranges.fitted.fits, c.ranges.forced.fits)
    (cases (has c.args.fitted c.args.c)
    (λ a. cases (has c.args.forced c.args.c) (λ b. simp (holds, a, b)) (λ b. simp (holds, a, b)))
    (λ a. simp (holds, a))))
    (lt_or_le 31 c.args.c)
