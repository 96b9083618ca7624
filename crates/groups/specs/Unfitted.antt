-- Demand 2, the channels that a board does not have: whatever was done with a machine since its accepted start, such a
-- channel is neither on nor latched, and the two sets hold no number above 31. The profile is then still the one that
-- the machine was started with. Assumes nothing: these are definitions.
use Rattle.std.specs.Prelude.{ℕ, ◌≤◌, ◌<◌}
use mathlib.Core.{Path.◌≡◌, Bool.false}
use Rattle.channels.specs.Sets.{has}
use Rattle.unit.specs.{declared.Machine.Machine, Runs.Reached}

pub record OffAndUnlatched (m : Machine) (c : ℕ) : Type 0 where
  pub off : has m.board.channels.on c ≡ false
  pub unlatched : has m.board.channels.latched c ≡ false

pub record Unfitted (m : Machine) (r : Reached m) : Type 0 where
  pub not_fitted : (c : ℕ) → c < 32 → has m.board.profile.fitted c ≡ false → OffAndUnlatched m c
  pub not_there : (c : ℕ) → 32 ≤ c → OffAndUnlatched m c
  pub same_profile : m.board.profile ≡ r.profile
