-- Demand 3 is neither empty nor loose: on a real board, started from an accepted profile, a stretch of 72,052 ticks
-- meets every premise, and in it each force-enabled channel is off for exactly 60,000 ticks in a row, and on for
-- exactly 6,001 before emergency comes again. The rail is at 0 mV throughout and nothing is sent. Assumes nothing: this
-- is the claim.
use mathlib.Core.{Path.◌≡◌, Bool.Bool, Bool.false, List.List, List.[]}
use Rattle.std.specs.Prelude.{ℕ}
use lib.{IntN.pos, ListN.replicate}
use Rattle.power.specs.{Runs.turns, Claim.most_off, Claim.least_on}
use Rattle.memory.specs.Memory.{empty_store}
use Rattle.state.specs.{Parts.distribution_board, declared.parts.Profile.Profile}
use Rattle.unit.specs.{Machine.no_machine, Machine.begun_of, declared.Machine.Machine, Runs.Call, Runs.tick, Runs.Reached}
use Rattle.claims.specs.Power.{ForceEnabled, channel_of, Undisturbed, EachTick, AtLeastOne, NoneLatched, limits}

-- distribution board 1 with channels 0 to 3, of which 0 and 1 are force-enabled; nothing is stored
abbrev pub profile : Profile
profile = distribution_board 1 15 3

abbrev pub started : Machine
started = (begun_of no_machine profile empty_store).machine

-- a tick that brings a rail of 0 mV and nothing else
abbrev pub dead : Call
dead = tick (record { rail = pos 0; named = 0; words = []; sent = false; transfer = [] })

-- the ticks of the stretch
abbrev pub ticks : ℕ
ticks = 72052

-- the state before the stretch and 49 ticks in startup, 6,001 in safety, 60,000 in emergency, 6,001 in safety, and
-- emergency again
abbrev pub expected : List Bool
expected = turns 50 6001 60000 6001

pub record PowerReal : Type 0 where
  -- the two numbers, on every board, also on one without channels
  pub numbers : (m : Machine) → (most_off (limits m).period ≡ 60000) × (least_on (limits m).linger ≡ 6001)
  -- the stretch
  pub reached : Reached started
  pub at_least_one : AtLeastOne started
  pub none_latched : NoneLatched started
  pub undisturbed : EachTick Undisturbed started (replicate ticks dead)
  pub exactly : (k : ℕ) → ForceEnabled k started → channel_of k started (replicate ticks dead) ≡ expected
