-- Demand 2, what the reply to 0x44 shows (ICD page 46): 8 bytes, of which STAT at 4 is NEW, byte 5 is reserved, and
-- ABF_PLACED_0 at 6 and ABF_PLACED_1 at 7 are both 0xAB where the profile says that the ABF is placed, and both 0x00
-- where it says that it is not. Only a battery board, whose profile says so, accepts 0x44. Of every machine and every
-- tick; `m` is the machine before the tick. `get_or bytes p 0` is the byte at p, and `cond b x y` is x where b holds,
-- else y. Assumes nothing: these are definitions.
use Rattle.std.specs.Prelude.{ℕ, length, get_or}
use mathlib.Core.{Path.◌≡◌, Bool.Bool, Bool.true, Bool.cond, List.[], List.◌∷◌}
use Rattle.kinds.specs.declared.Kind.TheVariants.{Battery}
use Rattle.unit.specs.{declared.Machine.Machine, Runs.Sample}
use Rattle.changes.specs.{Accepted.accepts_one_of, ReadingsShown.bytes_shown}

module _ (m : Machine) (i : Sample) where
  -- byte p of the reply that waits after the tick
  abbrev pub byte_shown : ℕ → ℕ
  byte_shown p = get_or (bytes_shown m i) p 0

  pub record ShowsAbf : Type 0 where
    -- the profile is that of a battery board, and says whether the ABF is placed
    pub placed : Bool
    pub profile : m.board.profile.kind ≡ Battery placed
    -- as the reply does
    pub bytes : length (bytes_shown m i) ≡ 8
    pub stat : byte_shown 4 ≡ 0x80
    pub reserved : byte_shown 5 ≡ 0
    pub placed_0 : byte_shown 6 ≡ cond placed 0xAB 0x00
    pub placed_1 : byte_shown 7 ≡ cond placed 0xAB 0x00

  pub record AbfShown : Type 0 where
    pub shows : accepts_one_of (0x44 ∷ []) m i ≡ true → ShowsAbf
