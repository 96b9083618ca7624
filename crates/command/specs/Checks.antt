-- Document 01's table of refusals, 1 to 7, in its order, for every kind of board: the first check that applies answers,
-- and where none does the number is 0. The command step is defined by this list, with all that a board brings; the
-- decoder promises its number with the mode alone. `7 when b` is a check with the number 7 that applies where b holds.
-- Assumes nothing: these are definitions.
use Rattle.std.specs.Prelude.{ℕ, Bool, true, false, cond, not, ◌&&◌, ◌||◌, List, [], ◌∷◌, Result, Ok, Err, Option, Some, None}
use lib.{Dec.ltb, Dec.eqb, ListN.length}
use Rattle.kinds.specs.{Kinds.board_of, Kinds.is_in, declared.Kind.Kind}
use Rattle.value.specs.{Values.read_of, declared.ParamValue.ParamValue, declared.ValueRefusal.ValueRefusal}
use Rattle.settings.specs.{Table.parameter_of, declared.Parameter.Parameter}
use Rattle.settings.specs.declared.Parameter.TheVariants.{ReadWrite, ReadOnly, Unknown}
use Rattle.command.specs.Table.{command_table, find}
use Rattle.command.specs.Decode.{fewer_than_four, header_of, stid_of, ivid_of, code_of, bid_of, key_differs, id_of, value_part}
use Rattle.command.specs.{declared.Listed.Listed, declared.Header.Header}

infix 68 ◌when◌
pub data Check : Type 0 where
  ◌when◌ : ℕ → Bool → Check

-- the number of the first check that applies, 0 where none does
unfoldable pub first : List Check → ℕ
first [] = 0
first (n when b ∷ checks) = cond b n (first checks)

-- the transfer is for another board, by one of its three identifiers
unfoldable pub header_differs : Header → List ℕ → Bool
header_differs board s = not (eqb (stid_of s) board.stid) || not (eqb (ivid_of s) board.ivid) || not (eqb (bid_of s) board.bid)

-- too few bytes for the command
abbrev pub shorter : Option Listed → List ℕ → Bool
shorter (Some row) s = ltb (length s) row.needed
shorter None s = false

-- the key is wrong
abbrev pub key_wrong : Option Listed → List ℕ → Bool
key_wrong (Some row) s = key_differs row.key s
key_wrong None s = false

-- the id is unknown (0x82), or unknown or read-only (0x84 and 0x86)
abbrev pub unknown : Parameter → Bool
unknown (ReadWrite t) = false
unknown (ReadOnly t) = false
unknown Unknown = true

abbrev pub unsettable : Parameter → Bool
unsettable (ReadWrite t) = false
unsettable (ReadOnly t) = true
unsettable Unknown = true

unfoldable pub id_wrong : ℕ → Parameter → Bool
id_wrong code p = eqb code 0x82 && unknown p || (eqb code 0x84 || eqb code 0x86) && unsettable p

-- what 0x84 finds behind the id: fewer bytes than the value has, or a NaN
abbrev pub is_too_short : Result ParamValue ValueRefusal → Bool
is_too_short (Ok v) = false
is_too_short (Err ValueRefusal.TooShort) = true
is_too_short (Err ValueRefusal.NotANumber) = false

abbrev pub is_nan_value : Result ParamValue ValueRefusal → Bool
is_nan_value (Ok v) = false
is_nan_value (Err ValueRefusal.TooShort) = false
is_nan_value (Err ValueRefusal.NotANumber) = true

abbrev pub value_reads : Parameter → List ℕ → (Result ParamValue ValueRefusal → Bool) → Bool
value_reads (ReadWrite t) value is = is (read_of t value)
value_reads (ReadOnly t) value is = false
value_reads Unknown value is = false

-- ---- what a transfer meets: the checks that ask for the mode, the rail or the state of a board, as the board has them
pub record Meets : Type 0 where
  pub startup : Bool
  pub unavailable : Bool
  pub channel_wrong : Bool
  pub checksum_wrong : Bool

-- the mode alone, startup or not, as the decoder is told it
abbrev pub mode_alone : Bool → Meets
mode_alone startup = record { startup = startup; unavailable = false; channel_wrong = false; checksum_wrong = false }

-- ---- the table, for a board of a kind and a BID. For 0x84 the first 5 is for its id, and the 5 and the 7 behind the
-- id's 7 are for its value.
unfoldable pub checks : Kind → ℕ → Meets → List ℕ → List Check
checks kind bid meets s =
    1 when fewer_than_four s
    ∷ 2 when meets.startup
    ∷ 3 when header_differs (header_of kind bid) s
    ∷ 4 when not (is_in (code_of s) (board_of kind).codes)
    ∷ 5 when shorter (find command_table (code_of s)) s
    ∷ 6 when meets.unavailable
    ∷ 7 when key_wrong (find command_table (code_of s)) s
    ∷ 7 when id_wrong (code_of s) (parameter_of (id_of s))
    ∷ 5 when (eqb (code_of s) 0x84 && value_reads (parameter_of (id_of s)) (value_part s) is_too_short)
    ∷ 7 when (eqb (code_of s) 0x84 && value_reads (parameter_of (id_of s)) (value_part s) is_nan_value)
    ∷ 7 when meets.channel_wrong
    ∷ 7 when meets.checksum_wrong
    ∷ []
