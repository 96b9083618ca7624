-- The words of every kind of board fit the room. Assumes nothing.
use Prim.Native.Nat.{◌≤◌}
use mathlib.Core.Bool.{true, false}
use native.Mathlib.Omega.{arith}
use Rattle.kinds.specs.Kinds.{board_of, word_room}
use Rattle.kinds.specs.declared.Kind.{Kind}
use Rattle.kinds.specs.declared.Kind.TheVariants.{Distribution, Battery, Integrated}

pub fits : (kind : Kind) → (board_of kind).words ≤ word_room
fits Distribution = omega arith
fits (Battery abf) = omega arith
fits (Integrated true) = omega arith
fits (Integrated false) = omega arith
