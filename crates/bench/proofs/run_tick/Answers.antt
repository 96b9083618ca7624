-- What a step leaves is a session and a page; this is the session. Assumes nothing.
use mathlib.Core.Path.{ap, ◌∙◌}
use Rattle.session.specs.Sessions.{Step, steps}
use Rattle.session.specs.declared.Session.{Session}
use Rattle.session.proofs.Steps.{step_is}
use Rattle.bench.proofs.run_tick.Goals as goal

abbrev session_in : Step → Session
session_in (steps session p) = session

pub returns : goal.returns
returns g c = ap session_in (c.step-stepped.ensures ∙ step_is _ c.args.sheet.now c.args.session)
