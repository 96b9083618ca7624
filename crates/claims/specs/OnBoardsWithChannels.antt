-- Demand 3 speaks of boards with channels: a force-enabled channel of a machine that can be reached is one that the
-- layout of its kind of board has a place for. A battery board has no place, so it has no such channel. Assumes
-- nothing: this is the claim.
use mathlib.Core.{Path.◌≡◌, Bool.true}
use Rattle.std.specs.Prelude.{ℕ}
use Rattle.kinds.specs.Kinds.{board_of}
use Rattle.channels.specs.Sets.{has}
use Rattle.unit.specs.{declared.Machine.Machine, Runs.Reached}
use Rattle.claims.specs.Power.{ForceEnabled}

abbrev pub OnBoardsWithChannels : Type 0
OnBoardsWithChannels = (k : ℕ) (m : Machine) → Reached m → ForceEnabled k m → has (board_of m.board.profile.kind).places k ≡ true
