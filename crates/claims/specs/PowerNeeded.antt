-- The premises of demand 3 that are needed: without any one of them the demand is false. For each a run that meets all
-- the other premises, and on which the demand fails. Two premises are not needed, as `PowerOfOne` shows: that the
-- settings stay, and that the board has a force-enabled channel: on one that has none, a battery board for one, the
-- demand is said of no channel. Assumes nothing: this is the claim.
use mathlib.Core.{Path.◌≡◌, Bool.false, List.List}
use Rattle.std.specs.Prelude.{ℕ}
use Rattle.channels.specs.Sets.{has}
use Rattle.power.specs.Claim.{Powered}
use Rattle.unit.specs.{declared.Machine.Machine, Runs.Sample, Runs.told, Runs.Call, Runs.Reached}
use Rattle.claims.specs.Power.{ForceEnabled, channel_of, Resets, Undisturbed, EachTick, AtLeastOne, NoneLatched, limits}

-- a machine that is as `Start` says, and a stretch from it whose ticks are as `Met` says, in which a force-enabled
-- channel is off for too long, or on for too short a time
pub record Fails (Start : Machine → Type 0) (Met : Machine → Sample → Type 0) : Type 0 where
  pub from : Machine
  pub start : Start from
  pub calls : List Call
  pub met : EachTick Met from calls
  pub k : ℕ
  pub force_enabled : ForceEnabled k from
  pub fails : Powered (limits from).linger (limits from).period (channel_of k from calls) → ⊥

-- a tick is undisturbed but for a reset, or but for an overcurrent
pub record ButReset (m : Machine) (i : Sample) : Type 0 where
  pub no_change : (told m i).machine.board.memory.current ≡ m.board.memory.current
  pub no_overcurrent : (k : ℕ) → ForceEnabled k m → has i.named k ≡ false

pub record ButOvercurrent (m : Machine) (i : Sample) : Type 0 where
  pub no_reset : Resets m i → ⊥
  pub no_change : (told m i).machine.board.memory.current ≡ m.board.memory.current

pub record PowerNeeded : Type 0 where
  -- a reset in the stretch turns a channel off that has just come on
  pub no_reset : Fails (λ m. Reached m × AtLeastOne m × NoneLatched m) ButReset
  -- so does an overcurrent
  pub no_overcurrent : Fails (λ m. Reached m × AtLeastOne m × NoneLatched m) ButOvercurrent
  -- a channel that is latched when the stretch begins stays off in nominal
  pub none_latched : Fails (λ m. Reached m × AtLeastOne m) Undisturbed
  -- and so does one that is off and not latched, in nominal, where no run leads
  pub reached : Fails (λ m. AtLeastOne m × NoneLatched m) Undisturbed
