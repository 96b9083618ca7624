-- No call alters the profile of the machine. Assumes nothing.
use mathlib.Core.Path.{◌≡◌, refl, ◌∙◌}
use mathlib.Core.Bool.{true}
use mathlib.Core.List.{List, [], ◌∷◌}
use Rattle.state.specs.Parts.{word_count}
use Rattle.unit.specs.declared.Machine.{Machine}
use Rattle.unit.proofs.Laws.{tick_profile}
use Rattle.unit.specs.Runs.{Sample, told, Call, tick, after_call, after}
use Rattle.claims.specs.Power.{is_tick}
use Rattle.claims.proofs.Calls.{by_call}

-- ---- the calls
pub call_profile : (m : Machine) (call : Call) → (after_call m call).board.profile ≡ m.board.profile
call_profile m call = by_call (λ b. b.profile ≡ m.board.profile) (λ form b e. e) ticks m call refl
  where
    ticks : (x : Machine) (i : Sample) → is_tick (word_count x.board) (tick i) ≡ true → x.board.profile ≡ m.board.profile → (told x i).machine.board.profile ≡ m.board.profile
    ticks x i happens e = tick_profile i.rail i.named i.words i.sent i.transfer x happens ∙ e

-- nor do any calls
pub after_profile : (calls : List Call) (m : Machine) → (after m calls).board.profile ≡ m.board.profile
unfolding after
after_profile [] m = refl
after_profile (call ∷ calls) m = after_profile calls (after_call m call) ∙ call_profile m call
