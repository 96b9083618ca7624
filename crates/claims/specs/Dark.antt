-- No channel is on in startup or emergency, force-enabled or not: after any tick that happens, on any machine, and on
-- every machine that can be reached. Assumes nothing: this is the claim.
use mathlib.Core.{Path.◌≡◌, Bool.true, Bool.false}
use Rattle.std.specs.Prelude.{ℕ, ◌<◌}
use Rattle.channels.specs.Sets.{has}
use Rattle.state.specs.{Parts.mode_of, Parts.word_count, declared.parts.Board.Board}
use Rattle.change.specs.Change.{is_dark}
use Rattle.unit.specs.{declared.Machine.Machine, Runs.Sample, Runs.told, Runs.tick, Runs.Reached}
use Rattle.claims.specs.Power.{is_tick}

abbrev pub OffInTheDark : ℕ → Board → Type 0
OffInTheDark k b = is_dark (mode_of b) ≡ true → has b.channels.on k ≡ false

pub record Dark : Type 0 where
  pub after_a_tick : (k : ℕ) → k < 32 → (m : Machine) (i : Sample) → is_tick (word_count m.board) (tick i) ≡ true → OffInTheDark k (told m i).machine.board
  pub reached : (k : ℕ) → k < 32 → (m : Machine) → Reached m → OffInTheDark k m.board
