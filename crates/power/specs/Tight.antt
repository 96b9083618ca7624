-- Neither number of the claim can be bettered, for every period of 64 bits and every linger below their top: if no run
-- from a start is off for longer than n ticks, n is at least 50 and at least the emergency period; and if every run
-- from a start stays on for n ticks each time, n is at most linger + 1. And without the premise
-- that the period fits its 64 bits, the claim is false. Assumes nothing: this is the claim.
use Rattle.std.specs.Prelude.{List, ℕ, ◌^◌, ◌-◌, ◌≤◌, ◌<◌}
use Rattle.power.specs.Runs.{channel, OffAtMost, OnAtLeast}
use Rattle.power.specs.Machine.{State, Times, Input, start, tick, InStep}
use Rattle.power.specs.Claim.{most_off, least_on, is_tick, is_on}

-- The age of safety can pass linger only below the top, where it stops; with a linger at the top safety is never left
-- by the table.
pub record Tight : Type 0 where
  pub off : (t : Times) → t.linger < 2 ^ 64 - 1 → t.period < 2 ^ 64 → (n : ℕ) → ((is : List Input) → OffAtMost n (channel (tick t) is_tick is_on start is)) → most_off t.period ≤ n
  pub on : (t : Times) → t.linger < 2 ^ 64 - 1 → t.period < 2 ^ 64 → (n : ℕ) → ((is : List Input) → OnAtLeast n (channel (tick t) is_tick is_on start is)) → n ≤ least_on t.linger
  pub period_fits : ((t : Times) (s : State) → InStep s → (is : List Input) → OffAtMost (most_off t.period) (channel (tick t) is_tick is_on s is)) → ⊥
