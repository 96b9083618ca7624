-- The two refusals that make no reply leave the whole board as it is. Assumes nothing.
use mathlib.Core.Bool.{true, false}
use mathlib.Core.List.{List}
use mathlib.Core.Path.{◌≡◌}
use Prim.Native.Nat.{ℕ}
use lib.IntN.{ℤ}
use Rattle.modes.specs.declared.Limits.{Limits}
use Rattle.command.specs.Checks.{first, checks}
use Rattle.command.specs.Decode.{fewer_than_four}
use Rattle.state.specs.Parts.{mode_of}
use Rattle.state.specs.declared.parts.Board.{Board}
use Rattle.asking.specs.Checks.{is_startup, checks_of}
use Rattle.commands.specs.Step.{returning, transferred_of}

module _ (rail : ℤ) (limits : Limits) (s : List ℕ) (b : Board) where
  pub leaves_1 : fewer_than_four s ≡ true → (transferred_of rail limits s b).board ≡ b
  unfolding transferred_of returning first checks_of checks
  leaves_1 short = rw short

  pub leaves_2 : fewer_than_four s ≡ false → is_startup (mode_of b) ≡ true → (transferred_of rail limits s b).board ≡ b
  unfolding transferred_of returning first checks_of checks
  leaves_2 long starting = rw (long, starting)
