-- A float that equals itself is no NaN and has a pattern of its own.
use mathlib.Core.Bool.{true, false}
use mathlib.Core.Path.{◌≡◌, sym, ◌∙◌}
use lib.Ieee.{is_nan}
use borrow.Author.Tests.{not-true, not-false}
use Rattle.wire.proofs.Patterns.{eq_self}
use Rattle.wire.specs.Floats.{quiet_nan, float_bits}
use Rattle.wire.proofs.floats.float_bits64.Goals as goal

number : (c : goal.Then-x) → is_nan c.args.x ≡ false
number c = not-true (is_nan c.args.x) (sym (eq_self c.args.x) ∙ c.if-x.true)

no_number : (c : goal.Else-x) → is_nan c.args.x ≡ true
no_number c = not-false (is_nan c.args.x) (sym (eq_self c.args.x) ∙ c.if-x.false)

pub float_to_bits-result : goal.float_to_bits-result
float_to_bits-result c = rw (number c) tt

pub returns-then-x : goal.returns-then-x
unfolding float_bits
returns-then-x c = rw (number c)

pub returns-else-x : goal.returns-else-x
unfolding float_bits quiet_nan
returns-else-x c = rw (no_number c)
