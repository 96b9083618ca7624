-- Rows 13 and 14 of document 01's boundary table, as antt computes the definitions. Assumes nothing.
use mathlib.Core.Path.{◌≡◌, refl}
use mathlib.Core.List.{[], ◌∷◌}
use lib.ListN.{replicate}
use Rattle.channels.specs.Sets.{has, set_of, list_of}
use Rattle.channels.specs.Chan.{whole}
use Rattle.channels.specs.Operations.{group_off, group_state}
use Rattle.channels.specs.declared.Channels.{Channels}

-- on {0,1}
pub start : Channels
start = record { on = 0b0011; latched = 0; counts = replicate 32 0 }

-- fitted 0 to 3, forced 0: state {2,3} gives {0,2,3}, and off {0,1} gives {0}
pub rows_13_14 : ((group_state 0b1111 0b0001 0xffff 0b1100 start).on ∷ (group_off 0b1111 0b0001 0xffff 0b0011 start).on ∷ []) ≡ (0b1101 ∷ 0b0001 ∷ [])
unfolding start group_off group_state whole has set_of list_of
rows_13_14 = refl
