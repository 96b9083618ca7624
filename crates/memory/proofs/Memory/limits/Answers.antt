-- Field by field; the casts leave their number as it is. Assumes nothing.
use native.Mathlib.Omega.{arith}
use Rattle.memory.proofs.Laws.{limits_are, widened}
use Rattle.memory.proofs.Memory.limits.Goals as goal

pub returns : goal.returns
returns c =
    let low = c.safety_low in
    let high = c.safety_high in
    let wait = c.seconds_in_ticks.ensures in
    let period = c.seconds_in_ticks-2.ensures in
    limits_are
    c.args.self
    _
    _
    _
    _
    (omega arith)
    (omega arith)
    (widened low.result _ low.ensures (omega arith))
    (widened high.result _ high.ensures (omega arith))
