-- A force-enabled channel of a machine that can be reached is on exactly in nominal and safety, where it is not
-- latched; in startup and emergency it is off. A battery board has no such channel. Assumes nothing: this is the claim.
use mathlib.Core.{Path.◌≡◌, Bool.not, Bool.◌&&◌}
use Rattle.std.specs.Prelude.{ℕ}
use Rattle.channels.specs.Sets.{has}
use Rattle.power.specs.Machine.{is_lit}
use Rattle.state.specs.{Parts.mode_of, declared.parts.Board.Board}
use Rattle.unit.specs.{declared.Machine.Machine, Runs.Reached}
use Rattle.claims.specs.Power.{ForceEnabled}

abbrev pub Stands : ℕ → Board → Type 0
Stands k b = has b.channels.on k ≡ (is_lit (mode_of b) && not (has b.channels.latched k))

abbrev pub Standing : Type 0
Standing = (k : ℕ) (m : Machine) → Reached m → ForceEnabled k m → Stands k m.board
