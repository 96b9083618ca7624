-- What goes by the kind of board: all that differs between the boards, but for the layouts of their readings, is
-- defined on this page and on no other. IVID is 7 for all of them. A set of channels is a number whose bit c is channel
-- c; `a ∷ b ∷ []` is a list of two, and `cond b x y` is x where b holds, else y. Assumes nothing: these are
-- definitions.
use Rattle.std.specs.Prelude.{ℕ, ◌-◌, ◌^◌, eqb}
use mathlib.Core.{Bool.Bool, Bool.true, Bool.false, Bool.cond, Bool.◌||◌, List.List, List.[], List.◌∷◌}
use Rattle.kinds.specs.declared.Kind.{Kind}
use Rattle.kinds.specs.declared.Kind.TheVariants.{Distribution, Battery, Integrated}

-- ---- what a kind of board has
pub record KindOfBoard : Type 0 where
  pub stid : ℕ  -- its STID
  pub last_bid : ℕ  -- the last of its BIDs; the first is 1
  pub words : ℕ  -- how many measured words a tick brings, where it brings any
  pub places : ℕ  -- the channels that its layout has a place for
  pub enable_bits : ℕ  -- the default of CH_STARTUP_ENA_BF and CH_LATCHOFF_ENA_BF, 0 where Table 3-25 gives none
  pub enable_key : ℕ  -- the default of CH_STARTUP_KEY and CH_LATCHOFF_KEY, likewise
  pub codes : List ℕ  -- the commands that it knows, by their codes
  pub abf_placed : Bool  -- whether its ABF is placed; a board that has none has none placed

-- channels 0 to n - 1
abbrev pub below : ℕ → ℕ
below n = 2 ^ n - 1

-- ---- the distribution board (PDU); the battery board (PBU), which fits no channel, with whether its ABF is placed;
-- and the integrated board (PIU), which has more places and words with a daughterboard. The code of its own that the
-- last one will have, 0xA0, is not there yet.
abbrev pub board_of : Kind → KindOfBoard
board_of Distribution =
    record {
      stid = 0x11;
      last_bid = 8;
      words = 122;
      places = below 32;
      enable_bits = 0x111;
      enable_key = 0x11111222;
      codes = 0xAA ∷ 0x02 ∷ 0x04 ∷ 0x06 ∷ 0x10 ∷ 0x12 ∷ 0x14 ∷ 0x16 ∷ 0x18 ∷ 0x30 ∷ 0x32 ∷ 0x42 ∷ 0x50 ∷ 0x82 ∷ 0x84 ∷ 0x86 ∷ 0x90 ∷ 0x92 ∷ 0x94 ∷ 0x52 ∷ [];
      abf_placed = false;
    }
board_of (Battery abf) =
    record {
      stid = 0x12;
      last_bid = 4;
      words = 39;
      places = below 0;
      enable_bits = 0;
      enable_key = 0;
      codes = 0xAA ∷ 0x02 ∷ 0x06 ∷ 0x30 ∷ 0x32 ∷ 0x82 ∷ 0x84 ∷ 0x86 ∷ 0x90 ∷ 0x92 ∷ 0x94 ∷ 0x44 ∷ 0x60 ∷ 0x62 ∷ [];
      abf_placed = abf;
    }
board_of (Integrated daughterboard) =
    record {
      stid = 0x1A;
      last_bid = 1;
      words = cond daughterboard 130 53;
      places = cond daughterboard (below 32) (below 9);
      enable_bits = 0x23;
      enable_key = 0x11111134;
      codes = 0xAA ∷ 0x02 ∷ 0x04 ∷ 0x06 ∷ 0x10 ∷ 0x12 ∷ 0x14 ∷ 0x16 ∷ 0x18 ∷ 0x30 ∷ 0x32 ∷ 0x42 ∷ 0x82 ∷ 0x84 ∷ 0x86 ∷ 0x90 ∷ 0x92 ∷ 0x94 ∷ [];
      abf_placed = false;
    }

-- the room for measured words: the most that a kind has
abbrev pub word_room : ℕ
word_room = 130

-- whether a code is in a list
unfoldable pub is_in : ℕ → List ℕ → Bool
is_in code [] = false
is_in code (c ∷ codes) = eqb code c || is_in code codes

-- a profile of this kind can be started: of the last one none can, until it has its own code
abbrev pub is_served : Kind → Bool
is_served Distribution = true
is_served (Battery abf) = true
is_served (Integrated daughterboard) = false
