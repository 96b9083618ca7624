-- Demand 3 for the small machine, whatever the rail, the thresholds and the commands do. The channel is never off for
-- longer than 50 ticks, or than the emergency period where that is more; and whenever it comes on, it is on for at
-- least linger + 1 ticks, unless the run ends before. Assumes nothing: this is the claim.
use mathlib.Core.{Bool.Bool, Bool.true, List.List}
use Rattle.std.specs.Prelude.{ℕ, ◌+◌, ◌^◌, ◌<◌, max}
use Rattle.power.specs.Runs.{ends, channel, OffAtMost, OnAtLeast}
use Rattle.power.specs.Machine.{Times, Input, State, tick, InStep}

-- in ticks, by the emergency period
abbrev pub most_off : ℕ → ℕ
most_off period = max 50 period

-- in ticks, by linger
abbrev pub least_on : ℕ → ℕ
least_on linger = linger + 1

-- both, of a list of ons and offs
pub record Powered (linger period : ℕ) (line : List Bool) : Type 0 where
  pub never_off_long : OffAtMost (most_off period) line
  pub on_for_long : OnAtLeast (least_on linger) line

-- every input of the small machine is a tick
abbrev pub is_tick : Input → Bool
is_tick i = true

abbrev pub is_on : State → Bool
is_on s = s.on

-- the channel over a run from s, with the state before the run as the first of the list, and by the ticks' ends alone
pub record Powers (t : Times) (s : State) (is : List Input) : Type 0 where
  pub with_before : Powered t.linger t.period (channel (tick t) is_tick is_on s is)
  pub by_ends : Powered t.linger t.period (ends (tick t) is_tick is_on s is)

-- Over any run from any state in step. Linger and the period may be 0, and the thresholds stand in any order and may
-- change with every tick. The period fits its 64 bits: the age stops at their top, so a longer one would never be over.
abbrev pub Claim : Type 0
Claim = (t : Times) → t.period < 2 ^ 64 → (s : State) → InStep s → (is : List Input) → Powers t s is
