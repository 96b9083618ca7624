-- A force-enabled channel of a machine that can be reached is on exactly in nominal and safety, where it is not
-- latched. Assumes nothing.
use Prim.Native.Nat.{ℕ}
use mathlib.Core.Path.{◌≡◌, subst}
use mathlib.Core.Bool.{true}
use Rattle.state.specs.Parts.{word_count}
use Rattle.state.specs.Start.{never_reset}
use Rattle.state.specs.declared.parts.Profile.{Profile}
use Rattle.unit.specs.Machine.{told_of}
use Rattle.unit.specs.declared.Machine.{Machine}
use Rattle.unit.specs.Runs.{Sample, told, tick}
use Rattle.claims.specs.Power.{ForceEnabledBy, ForceEnabled, is_tick}
use Rattle.claims.specs.Standing.{Stands, Standing}
use Rattle.claims.proofs.Calls.{by_reach}
use Rattle.unit.proofs.Laws.{tick_profile}
use Rattle.claims.proofs.PowerTick.{fresh_stands, tick_stands}

-- a tick leaves the channel standing, where it is force-enabled: the profile is as it was
ticks : (k : ℕ) (m : Machine) (i : Sample) → is_tick (word_count m.board) (tick i) ≡ true → (ForceEnabled k m → Stands k m.board) → ForceEnabled k (told m i).machine → Stands k (told m i).machine.board
unfolding told_of
ticks k m i happens w fe =
    let before : ForceEnabled k m = subst (λ (p : Profile). ForceEnabledBy p k) (tick_profile i.rail i.named i.words i.sent i.transfer m happens) fe in
    tick_stands k i.rail i.named i.words i.sent i.transfer m.board before happens (w before)

-- so it stands on every machine that can be reached
pub standing : Standing
standing k m r fe = by_reach (λ b. ForceEnabledBy b.profile k → Stands k b) (λ profile store fe. fresh_stands k fe.a_channel profile store never_reset) (λ form b w. w) (ticks k) m r fe
