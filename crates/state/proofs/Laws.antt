-- The number of a start, and that a profile which names raw is held to its own rules. Assumes nothing.
use mathlib.Core.Bool.{Bool, true, false, cond}
use mathlib.Core.Path.{◌≡◌, refl}
use Rattle.memory.specs.Memory.{Store}
use Rattle.state.specs.Parts.{naming_raw}
use Rattle.state.specs.Start.{bid_in_range, channels_in_place, keeps_the_rules, start_of, start_number}
use Rattle.state.specs.declared.parts.Board.{Board}
use Rattle.state.specs.declared.parts.Profile.{Profile}
use Rattle.state.specs.declared.starting.Started.{Started}

chosen : (t : Bool) (x y : Started) → start_number (cond t x y).answer ≡ cond t (start_number x.answer) (start_number y.answer)
chosen true x y = refl
chosen false x y = refl

-- 8 exactly where a rule is broken
pub number_8 : (there : Board) (p : Profile) (store : Store) → start_number (start_of there p store).answer ≡ cond (keeps_the_rules p store) 0 8
unfolding start_of
number_8 there p store = chosen (keeps_the_rules p store) _ _

-- and then the board that was there stays
pub refused_leaves : (there : Board) (p : Profile) (store : Store) → keeps_the_rules p store ≡ false → (start_of there p store).board ≡ there
unfolding start_of
refused_leaves there p store broken = rw broken

-- a profile that names raw keeps the rules exactly where it keeps them without: no rule goes by the form, and each of
-- the other parts, which the rules go by, is as it was
pub raw_by_the_same_rules : (p : Profile) (store : Store) → keeps_the_rules (naming_raw p) store ≡ keeps_the_rules p store
unfolding keeps_the_rules bid_in_range channels_in_place
raw_by_the_same_rules p store = refl
