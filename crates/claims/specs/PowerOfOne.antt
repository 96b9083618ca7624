-- Demand 3 with fewer premises, for one force-enabled channel: what is needed is that the machine was reached, that no
-- tick of the stretch resets it or names this channel, and that this channel is not latched at the start of the
-- stretch, or that the mode is then startup or emergency. Settings may change at every tick, other channels may be
-- named and latched. The demand in `Power` follows. Assumes nothing: this is the claim.
use mathlib.Core.{Path.◌≡◌, Bool.true, Bool.false, List.List}
use Rattle.std.specs.Prelude.{ℕ}
use Rattle.channels.specs.Sets.{has}
use Rattle.power.specs.{Machine.is_lit, Claim.Powered}
use Rattle.state.specs.Parts.{mode_of}
use Rattle.unit.specs.{declared.Machine.Machine, Runs.Sample, Runs.Call, Runs.Reached}
use Rattle.claims.specs.Power.{ForceEnabled, ends_of, channel_of, Resets, EachTick, limits}

-- a tick that neither resets the machine nor names channel k
pub record Spared (k : ℕ) (m : Machine) (i : Sample) : Type 0 where
  pub no_reset : Resets m i → ⊥
  pub no_overcurrent : has i.named k ≡ false

-- no latch keeps channel k off: a latch that is there in startup or emergency goes when the mode is left
abbrev pub Unlatched : ℕ → Machine → Type 0
Unlatched k m = is_lit (mode_of m.board) ≡ true → has m.board.channels.latched k ≡ false

-- what a stretch from m, met so, shows of channel k
pub record Lasts (k : ℕ) (m : Machine) (calls : List Call) : Type 0 where
  pub powered : Powered (limits m).linger (limits m).period (channel_of k m calls)
  pub powered_by_ends : Powered (limits m).linger (limits m).period (ends_of k m calls)

pub record PowerOfOne : Type 0 where
  pub lasts : (k : ℕ) (m : Machine) → Reached m → ForceEnabled k m → Unlatched k m → (calls : List Call) → EachTick (Spared k) m calls → Lasts k m calls
  -- two such channels are on and off alike
  pub together : (j k : ℕ) (m : Machine) → Reached m → ForceEnabled j m → ForceEnabled k m → Unlatched j m → Unlatched k m
      → (calls : List Call) → EachTick (Spared j) m calls → EachTick (Spared k) m calls → channel_of j m calls ≡ channel_of k m calls
