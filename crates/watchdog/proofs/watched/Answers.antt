-- By the timeout and the timer; the report comes at the one value that `report_at` gives. Assumes nothing.
use mathlib.Core.Path.{sym}
use native.Mathlib.Omega.{arith}
use Rattle.watchdog.proofs.Laws.{disabled, reset, reported, quiet}
use Rattle.watchdog.proofs.watched.Goals as goal

pub returns-then-timeout-eq0 : goal.returns-then-timeout-eq0
returns-then-timeout-eq0 c = sym (disabled c.args.timer c.args.timeout (omega arith))

pub returns-then-timer-timeout : goal.returns-then-timer-timeout
returns-then-timer-timeout c = sym (reset c.args.timer c.args.timeout (omega arith) (omega arith))

pub returns-then-timer-report_at : goal.returns-then-timer-report_at
returns-then-timer-report_at c =
    let a = c.args in
    let r = c.report_at.ensures in
    sym (reported a.timer a.timeout (omega arith) (omega arith) (record { reached = omega (arith, r.reached); only_now = omega (arith, r.only_now) }))

pub returns : goal.returns
returns c =
    let a = c.args in
    sym (quiet a.timer a.timeout (omega arith) c.report_at.result (omega arith) c.report_at.ensures (λ e. omega arith))
