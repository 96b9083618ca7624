-- Group masks by the length of the transfer, the first rows of document 01's boundary table, and boards of another
-- kind. Assumes nothing.
use Prim.Native.Nat.{ℕ, ◌+◌, ◌*◌}
use mathlib.Core.Path.{◌≡◌, refl, ap}
use mathlib.Core.Bool.{true, false}
use mathlib.Core.List.{List, [], ◌∷◌, map}
use native.Mathlib.Omega.{arith}
use lib.ListN.{length}
use borrow.Author.Tests.{le-ltb}
use Rattle.std.specs.Prelude.{Ok, Err}
use Rattle.wire.specs.Numbers.{number}
use Rattle.kinds.specs.Kinds.{is_in}
use Rattle.kinds.specs.declared.Kind.{Kind}
use Rattle.kinds.specs.declared.Kind.TheVariants.{Distribution, Battery}
use Rattle.command.specs.Table.{command_table, find}
use Rattle.command.specs.Decode.{Decoded, fewer_than_four, header_is, group_in, carried, listed, decode_of}
use Rattle.command.specs.declared.Command.TheVariants.{CancelOperation, Report}
use Rattle.command.specs.declared.Layout.TheVariants.{Short}
use Rattle.command.specs.declared.Refusal.TheVariants.{FewerThanFourBytes, NotThisBoard, CodeNotListed}

-- ---- the masks of a group command
module _ (stid ivid code bid low high : ℕ) where
  -- 6 bytes speak of channels 0 to 15 alone
  pub group_of_6 : group_in (stid ∷ ivid ∷ code ∷ bid ∷ low ∷ high ∷ []) ≡ record { mask = low + 256 * high; spoken = 0x0000FFFF }
  unfolding group_in number
  group_of_6 = ap (λ (m : ℕ). record { mask = m; spoken = 0x0000FFFF }) (omega arith)

  -- and so do 7: the seventh does not count
  pub group_of_7 : (seventh : ℕ) → group_in (stid ∷ ivid ∷ code ∷ bid ∷ low ∷ high ∷ seventh ∷ []) ≡ group_in (stid ∷ ivid ∷ code ∷ bid ∷ low ∷ high ∷ [])
  unfolding group_in number
  group_of_7 seventh = refl

  -- 8 speak of all 32, and bytes past them are ignored
  pub group_of_8 : (low16 high16 : ℕ) (past : List ℕ)
      → group_in (stid ∷ ivid ∷ code ∷ bid ∷ low ∷ high ∷ low16 ∷ high16 ∷ past) ≡ record { mask = low + 256 * high + 65536 * (low16 + 256 * high16); spoken = 0xFFFFFFFF }
  unfolding group_in number
  group_of_8 low16 high16 past =
      rw (le-ltb (length (stid ∷ ivid ∷ code ∷ bid ∷ low ∷ high ∷ low16 ∷ high16 ∷ past)) 8 (omega arith))
      (ap (λ (m : ℕ). record { mask = m; spoken = 0xFFFFFFFF }) (omega arith))

-- ---- rows 1 to 4 of the boundary table: a NOOP, the same with one byte more, its first three bytes, and the code 0x03
pub boundary : (more : ℕ)
    → map (decode_of Distribution 0x01 false)
    ((0x11 ∷ 0x07 ∷ 0x02 ∷ 0x01 ∷ []) ∷ (0x11 ∷ 0x07 ∷ 0x02 ∷ 0x01 ∷ more ∷ []) ∷ (0x11 ∷ 0x07 ∷ 0x02 ∷ []) ∷ (0x11 ∷ 0x07 ∷ 0x03 ∷ 0x01 ∷ []) ∷ [])
    ≡ Ok (Report Short) ∷ Ok (Report Short) ∷ Err FewerThanFourBytes ∷ Err CodeNotListed ∷ []
unfolding decode_of fewer_than_four header_is is_in listed carried find command_table
boundary more = refl

-- ---- a NOOP (0x02), a cancel (0x04) and the code 0x03, which no command has, each under two STIDs, by the kind of
-- board
abbrev six : Kind → List Decoded
six kind =
    map (decode_of kind 0x01 false)
    ((0x11 ∷ 0x07 ∷ 0x02 ∷ 0x01 ∷ []) ∷ (0x11 ∷ 0x07 ∷ 0x04 ∷ 0x01 ∷ []) ∷ (0x11 ∷ 0x07 ∷ 0x03 ∷ 0x01 ∷ [])
    ∷ (0x12 ∷ 0x07 ∷ 0x02 ∷ 0x01 ∷ []) ∷ (0x12 ∷ 0x07 ∷ 0x04 ∷ 0x01 ∷ []) ∷ (0x12 ∷ 0x07 ∷ 0x03 ∷ 0x01 ∷ []) ∷ [])

pub of_distribution : six Distribution
    ≡ Ok (Report Short) ∷ Ok CancelOperation ∷ Err CodeNotListed ∷ Err NotThisBoard ∷ Err NotThisBoard ∷ Err NotThisBoard ∷ []
unfolding decode_of fewer_than_four header_is is_in listed carried find command_table
of_distribution = refl

pub of_battery : six (Battery true)
    ≡ Err NotThisBoard ∷ Err NotThisBoard ∷ Err NotThisBoard ∷ Ok (Report Short) ∷ Err CodeNotListed ∷ Err CodeNotListed ∷ []
unfolding decode_of fewer_than_four header_is is_in listed carried find command_table
of_battery = refl
