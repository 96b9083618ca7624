-- The small machine: the mode and its age, by the very table and commands of `modes`, and one force-enabled channel
-- that no overcurrent names. Assumes nothing: these are definitions.
use mathlib.Core.{Path.◌≡◌, Bool.Bool, Bool.true, Bool.false, Bool.cond, Bool.◌||◌}
use Rattle.std.specs.Prelude.{ℕ, ℤ}
use Rattle.modes.specs.{Table.same, Table.entered, Table.step_of, Table.older_of, Commands.to_safety, Commands.to_nominal, Commands.leaves}
use Rattle.modes.specs.{declared.Mode.Mode, declared.ModeAge.ModeAge, declared.Limits.Limits}
use Rattle.modes.specs.declared.Mode.TheVariants.{Startup, Nominal, Safety, Emergency}

pub record State : Type 0 where
  pub phase : ModeAge
  pub on : Bool

-- the two times of the mode table, in ticks: the same over a whole run
pub record Times : Type 0 where
  pub linger : ℕ
  pub period : ℕ

-- what a command is to this machine: 0x30, 0x32, one of the five that switch channels, by which a force-enabled one can
-- only come on, or any other, which alters neither the mode nor the channel
pub data Command : Type 0 where
  switch_to_nominal switch_to_safety switch_on other : Command

-- what a tick brings: the rail and the four thresholds then in force, in millivolts with their sign, and a command
pub record Input : Type 0 where
  pub rail : ℤ
  pub safety_low : ℤ
  pub safety_high : ℤ
  pub emergency_low : ℤ
  pub emergency_high : ℤ
  pub command : Command

abbrev pub limits_in : Times → Input → Limits
limits_in t i =
    record {
      linger = t.linger;
      period = t.period;
      safety_low = i.safety_low;
      safety_high = i.safety_high;
      emergency_low = i.emergency_low;
      emergency_high = i.emergency_high;
    }

-- the modes in which a force-enabled channel is on; startup and emergency are dark
abbrev pub is_lit : Mode → Bool
is_lit Startup = false
is_lit Nominal = true
is_lit Safety = true
is_lit Emergency = false

-- what a change of mode does to the channel: off where the new mode is dark, on where the old one was, else it stays
abbrev pub enters : ModeAge → State → State
enters next s = record { phase = next; on = cond (is_lit next.mode) (cond (is_lit s.phase.mode) s.on true) false }

-- channels are switched in nominal alone
abbrev pub obeyed : Command → ℤ → Limits → State → State
obeyed switch_to_nominal rail limits s = enters (leaves (to_nominal s.phase rail limits) s.phase) s
obeyed switch_to_safety rail limits s = enters (leaves (to_safety s.phase) s.phase) s
obeyed switch_on rail limits s = record { phase = s.phase; on = same s.phase.mode Nominal || s.on }
obeyed other rail limits s = s

-- a tick: the age rises, the mode changes by the table, and the command is obeyed
unfoldable pub tick : Times → State → Input → State
tick t s i =
    let limits = limits_in t i in
    obeyed i.command i.rail limits (enters (step_of (older_of s.phase) i.rail limits) s)

-- a machine just started
abbrev pub start : State
start = record { phase = entered Startup; on = false }

-- on exactly where the mode is lit: so it is at the start, and so each tick leaves it
abbrev pub InStep : State → Type 0
InStep s = s.on ≡ is_lit s.phase.mode
