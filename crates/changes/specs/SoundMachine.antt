-- Demand 2, what every machine that can be reached keeps: no channel is both on and latched; the settings in force lie
-- in range, and so does what is stored, if anything is; and hence a start from the profile and the store that it has is
-- accepted. Assumes nothing: these are definitions.
use Rattle.std.specs.Prelude.{ℕ, ◌<◌}
use mathlib.Core.{Path.◌≡◌, Bool.true, Bool.false, Bool.◌&&◌}
use Rattle.channels.specs.Sets.{has}
use Rattle.settings.specs.Values.{in_range_of}
use Rattle.state.specs.Start.{stored_in_range, keeps_the_rules}
use Rattle.unit.specs.{declared.Machine.Machine, Runs.Reached}

pub record SoundMachine (m : Machine) (r : Reached m) : Type 0 where
  pub apart : (c : ℕ) → c < 32 → (has m.board.channels.on c && has m.board.channels.latched c) ≡ false
  pub in_force : in_range_of m.board.memory.current ≡ true
  pub stored : stored_in_range m.board.memory.store ≡ true
  pub starts_again : keeps_the_rules m.board.profile m.board.memory.store ≡ true
