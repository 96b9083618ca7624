-- A session of a sheet. Assumes nothing.
use mathlib.Core.Path.{sym, ◌∙◌}
use Rattle.single.specs.Single.{Single}
use Rattle.single.proofs.Left.{opened_held, opened_same, stepped_held, stepped_same}
use Rattle.session.proofs.open.Reads as open_sheet
use Rattle.session.proofs.step.Reads as step

pub single_open_sheet : Single open_sheet.Post (λ κ r s. r)
single_open_sheet κ a r r' s s' p q = opened_same s.1.0.now s'.1.0.now r r' (p.0 ∙ sym q.0)

pub held_open_sheet : Single open_sheet.Post (λ κ r s. s.1.0.now)
held_open_sheet κ a r r' s s' p q = opened_held s.1.0.now s'.1.0.now r r' (p.0 ∙ sym q.0)

pub single_step : Single step.Post (λ κ r s. r)
single_step κ a r r' s s' p q = stepped_same r r' (p ∙ sym q)

pub held_step : Single step.Post (λ κ r s. s.1.1.0.now)
held_step κ a r r' s s' p q = stepped_held r r' (p ∙ sym q)
