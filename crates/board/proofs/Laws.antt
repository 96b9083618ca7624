-- A tick that does not happen. Assumes nothing.
use Prim.Native.Nat.{ℕ}
use mathlib.Core.Bool.{Bool, false}
use mathlib.Core.List.{List}
use mathlib.Core.Option.{some}
use mathlib.Core.Path.{◌≡◌}
use lib.IntN.{ℤ}
use lib.ListN.{length}
use Rattle.answers.specs.Answers.{told_number}
use Rattle.state.specs.Parts.{word_count}
use Rattle.state.specs.declared.parts.Board.{Board}
use Rattle.board.specs.Tick.{allowed_count, tick_of}

module _ (rail : ℤ) (named : ℕ) (words : List ℕ) (sent : Bool) (s : List ℕ) (b : Board) (wrong : allowed_count (word_count b) (length words) ≡ false) where
  -- it is told by 9, and the board stays as it was
  pub number_9 : told_number (tick_of rail named words sent s b).outcome ≡ some 9
  unfolding tick_of
  number_9 = rw wrong

  pub words_leave : (tick_of rail named words sent s b).board ≡ b
  unfolding tick_of
  words_leave = rw wrong
