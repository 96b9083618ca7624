-- The rules of a profile, written out as document 01 gives them with the numbers of its kind of board, which is one
-- that can be started; what a session sheet is made of, in the parts of the grammar of `sheet`: refusals 8 and 14 are
-- told by these; and that the distribution board is document 01's board and the battery board that of document 02's K7.
-- `(c : ℕ) × B` is some number c of which B holds. Assumes nothing: these are definitions and the statement of a claim.
use Rattle.std.specs.Prelude.{ℕ, ◌+◌, ◌-◌, ◌^◌, ◌≤◌, ◌<◌, IfSome}
use mathlib.Core.{Path.◌≡◌, Bool.Bool, Bool.true, List.List, List.[], List.◌∷◌, List.◌++◌}
use lib.{ListN.length, Signed.◌≤ℤ◌}
use Rattle.kinds.specs.Kinds.{board_of, is_served}
use Rattle.kinds.specs.declared.Kind.{Kind}
use Rattle.kinds.specs.declared.Kind.TheVariants.{Distribution, Battery}
use Rattle.value.specs.declared.ValueType.{ValueType}
use Rattle.settings.specs.{Table.Range, Table.read_write, Table.row_of, Table.low_end, Table.high_end, Values.setting_of, Values.defaults_of, declared.Settings.Settings}
use Rattle.memory.specs.Memory.{Store}
use Rattle.channels.specs.Sets.{has}
use Rattle.state.specs.declared.parts.Profile.{Profile}
use Rattle.grammar.specs.Grammar.{reads, times}
use Rattle.sheet.specs.Form.{Top, head, Tick, tick_line}

-- ---- a profile, with the settings that may come with it
-- a stored value lies in the range that its row of Table 3-25 gives; where the row gives no end, in that of its type.
-- No row has a type that has a NaN
abbrev pub InRange : Settings → Type 0
InRange settings =
    (id : ℕ) (type : ValueType) (range : Range) (default : Kind → ℕ) → row_of id ≡ read_write type range default
    → (low_end type range ≤ℤ setting_of settings id) × (setting_of settings id ≤ℤ high_end type range)

-- a kind that can be started; BID 1 to the last of its kind; the fitted channels, at least one where such a board has a
-- place for any, and each in a place; the force-enabled ones, all fitted; stored values in range, where any are stored.
-- The channels are 0 to 31, and a set of them has 32 bits, so that a fitted one is among these
pub record KeepsAllRules (p : Profile) (store : Store) : Type 0 where
  pub kind_served : is_served p.kind ≡ true
  pub bid_from_1 : 1 ≤ p.bid
  pub bid_to_last : p.bid ≤ (board_of p.kind).last_bid
  pub one_fitted : (place : ℕ) → has (board_of p.kind).places place ≡ true → (c : ℕ) × (has p.fitted c ≡ true)
  pub fitted_in_place : (c : ℕ) → c < 32 → has p.fitted c ≡ true → has (board_of p.kind).places c ≡ true
  pub forced_fitted : (c : ℕ) → c < 32 → has p.forced c ≡ true → has p.fitted c ≡ true
  pub stored_in_range : IfSome store (λ s. InRange s.settings)

-- ---- a sheet
-- at most 65,536 bytes: from the first on `board`, `fitted`, `forced` and `ticks` with what each says, then as many
-- tick lines as `ticks` says, of at most 256 bytes of command each, and nothing behind the last
pub record OfTheForm (s : List ℕ) : Type 0 where
  pub short : length s ≤ 65536
  pub top : Top
  pub behind_top : ℕ
  pub top_stands : head s 0 ≡ reads top behind_top
  pub ticks : List Tick
  pub behind_ticks : ℕ
  pub ticks_stand : times top.count (tick_line 256) s behind_top ≡ reads ticks behind_ticks
  pub nothing_behind : behind_ticks ≡ length s

-- ---- the board of document 01: STID 0x11, BID 1 to 8, 122 words, a place for each of 32 channels, the base list of
-- codes and behind it document 02's 0x52, and one that can be started; and of Table 3-25 the defaults that it gives for
-- this board by name: those of CH_STARTUP_ENA_BF and CH_LATCHOFF_ENA_BF, and of their keys, which are 0x11111111 more;
-- and where these stand among 0x6000 to 0x6005
abbrev pub base_list : List ℕ
base_list = 0xAA ∷ 0x02 ∷ 0x04 ∷ 0x06 ∷ 0x10 ∷ 0x12 ∷ 0x14 ∷ 0x16 ∷ 0x18 ∷ 0x30 ∷ 0x32 ∷ 0x42 ∷ 0x50 ∷ 0x82 ∷ 0x84 ∷ 0x86 ∷ 0x90 ∷ 0x92 ∷ 0x94 ∷ []

pub record BaseBoard : Type 0 where
  pub stid : (board_of Distribution).stid ≡ 0x11
  pub last_bid : (board_of Distribution).last_bid ≡ 8
  pub words : (board_of Distribution).words ≡ 122
  pub places : (board_of Distribution).places ≡ 2 ^ 32 - 1
  pub base_list : (board_of Distribution).codes ≡ base_list ++ 0x52 ∷ []
  pub enable_bits : (board_of Distribution).enable_bits ≡ 0x111
  pub enable_key : (board_of Distribution).enable_key ≡ 0x111 + 0x11111111
  pub defaults : (defaults_of Distribution).u32s ≡ 0 ∷ 0 ∷ 0x111 ∷ 0x11111222 ∷ 0x111 ∷ 0x11111222 ∷ []
  pub started : is_served Distribution ≡ true

-- settings with other values of 0x6000 to 0x6005
abbrev pub with_u32s : List ℕ → Settings → Settings
with_u32s values s = record { u32s = values; u16s = s.u16s; i16s = s.i16s; i8s = s.i8s; u8s = s.u8s }

-- ---- the battery board of document 02: STID 0x12, BID 1 to 4, 39 words, no place for a channel; the base list without
-- 0x04, 0x10 to 0x18, 0x42 and 0x50, so that these and 0x52 are 4, and behind it 0x44, 0x60 and 0x62, which are 4 on
-- the distribution board; one that can be started; of the defaults those of 0x6002 to 0x6005, which Table 3-25 gives
-- for other boards alone, are 0, and all others the distribution board's; and its ABF as the profile says
pub record BatteryBoard : Type 0 where
  pub stid : (abf : Bool) → (board_of (Battery abf)).stid ≡ 0x12
  pub last_bid : (abf : Bool) → (board_of (Battery abf)).last_bid ≡ 4
  pub words : (abf : Bool) → (board_of (Battery abf)).words ≡ 39
  pub places : (abf : Bool) → (board_of (Battery abf)).places ≡ 0
  pub codes : (abf : Bool)
      → (board_of (Battery abf)).codes ≡ 0xAA ∷ 0x02 ∷ 0x06 ∷ 0x30 ∷ 0x32 ∷ 0x82 ∷ 0x84 ∷ 0x86 ∷ 0x90 ∷ 0x92 ∷ 0x94 ∷ 0x44 ∷ 0x60 ∷ 0x62 ∷ []
  pub defaults : (abf : Bool) → defaults_of (Battery abf) ≡ with_u32s (0 ∷ 0 ∷ 0 ∷ 0 ∷ 0 ∷ 0 ∷ []) (defaults_of Distribution)
  pub started : (abf : Bool) → is_served (Battery abf) ≡ true
  pub abf_placed : (abf : Bool) → (board_of (Battery abf)).abf_placed ≡ abf
