-- A transfer as a command: what it carries, or why it is none. In which order the checks stand, `Checks` says.
-- `get_or s i 0` is the byte at i, `drop i s` what stands from i on, and `number n` the number of its first n bytes, the
-- lowest first. Assumes nothing.
use Rattle.std.specs.Prelude.{ℕ, ◌-◌, ◌^◌, Option, Some, None, Result, Ok, Err}
use mathlib.Core.{Bool.Bool, Bool.cond, Bool.false, Bool.not, Bool.◌&&◌, List.List}
use lib.{Dec.ltb, Dec.eqb, ListN.length, ListN.drop, ListN.get_or}
use Rattle.wire.specs.Numbers.{number}
use Rattle.kinds.specs.{Kinds.board_of, Kinds.is_in, declared.Kind.Kind}
use Rattle.value.specs.{Values.read_of, declared.ParamValue.ParamValue, declared.ValueRefusal.ValueRefusal}
use Rattle.settings.specs.{Table.parameter_of, declared.Parameter.Parameter}
use Rattle.settings.specs.declared.Parameter.TheVariants.{ReadWrite, ReadOnly, Unknown}
use Rattle.command.specs.{Table.command_table, Table.find, declared.Name.Name, declared.Listed.Listed}
use Rattle.command.specs.{declared.Header.Header, declared.Group.Group}
use Rattle.command.specs.{declared.Command.Command, declared.Layout.Layout, declared.Refusal.Refusal}
use Rattle.command.specs.declared.Refusal.TheVariants.{FewerThanFourBytes, InStartup, NotThisBoard, CodeNotListed, TooShort, WrongKey, WrongParameter, NotANumber}

-- what a transfer is: a command, or why it is none
abbrev pub Decoded : Type 0
Decoded = Result Command Refusal

-- ---- the header: STID, IVID, CC, BID
unfoldable pub fewer_than_four : List ℕ → Bool
fewer_than_four s = ltb (length s) 4

abbrev pub stid_of : List ℕ → ℕ
stid_of s = get_or s 0 0

abbrev pub ivid_of : List ℕ → ℕ
ivid_of s = get_or s 1 0

abbrev pub code_of : List ℕ → ℕ
code_of s = get_or s 2 0

abbrev pub bid_of : List ℕ → ℕ
bid_of s = get_or s 3 0

-- what a board is called by: the STID of its kind, IVID 7 and its BID
abbrev pub header_of : Kind → ℕ → Header
header_of kind bid = record { stid = (board_of kind).stid; ivid = 7; bid = bid }

unfoldable pub header_is : Header → List ℕ → Bool
header_is board s = eqb (stid_of s) board.stid && eqb (ivid_of s) board.ivid && eqb (bid_of s) board.bid

-- ---- what stands behind the header
-- a channel (CH_IDX) or a key stands at 4
abbrev pub byte_after : List ℕ → ℕ
byte_after s = get_or s 4 0

-- a parameter's id (PAR_ID) stands at 4, its value (PAR_VAL) from 6 on
abbrev pub id_of : List ℕ → ℕ
id_of s = number 2 (drop 4 s)

unfoldable pub value_part : List ℕ → List ℕ
value_part s = drop 6 s

-- a checksum (CHECKSUM) stands behind the key
abbrev pub checksum_in : List ℕ → ℕ
checksum_in s = number 2 (drop 5 s)

-- a mask (CH_BF) of channels 0 to 15 stands at 4, and one (CH_EXT_BF) of channels 16 to 31 at 6, of which both bytes
-- count, or none
unfoldable pub group_in : List ℕ → Group
group_in s =
    cond (ltb (length s) 8)
    (record { mask = number 2 (drop 4 s); spoken = 2 ^ 16 - 1 })
    (record { mask = number 4 (drop 4 s); spoken = 2 ^ 32 - 1 })

-- ---- parameters
-- 0x82: an id that is unknown is 7; one that is read-only is read
abbrev pub get_by : ℕ → Parameter → Decoded
get_by id (ReadWrite t) = Ok (Command.Report (Layout.Parameter id))
get_by id (ReadOnly t) = Ok (Command.Report (Layout.Parameter id))
get_by id Unknown = Err WrongParameter

unfoldable pub getting : ℕ → Decoded
getting id = get_by id (parameter_of id)

-- 0x84, behind the two bytes of the id (5): an id that is unknown or read-only (7), fewer bytes than the value has (5),
-- a NaN (7)
abbrev pub unread : ValueRefusal → Refusal
unread ValueRefusal.TooShort = TooShort
unread ValueRefusal.NotANumber = NotANumber

unfoldable pub valued : ℕ → Result ParamValue ValueRefusal → Decoded
valued id (Ok v) = Ok (Command.SetParameter id v)
valued id (Err r) = Err (unread r)

abbrev pub set_by : ℕ → Parameter → List ℕ → Decoded
set_by id (ReadWrite t) value = valued id (read_of t value)
set_by id (ReadOnly t) value = Err WrongParameter
set_by id Unknown value = Err WrongParameter

unfoldable pub setting : ℕ → List ℕ → Decoded
setting id s = set_by id (parameter_of id) (value_part s)

-- 0x86: as in 0x84, an id that is unknown or read-only is 7
abbrev pub reset_by : ℕ → Parameter → Decoded
reset_by id (ReadWrite t) = Ok (Command.ResetParameter id)
reset_by id (ReadOnly t) = Err WrongParameter
reset_by id Unknown = Err WrongParameter

unfoldable pub resetting : ℕ → Decoded
resetting id = reset_by id (parameter_of id)

-- ---- a command that is long enough, with what it carries
unfoldable pub carried : Name → List ℕ → Decoded
carried Name.SystemReset s = Ok Command.SystemReset
carried Name.NoOperation s = Ok (Command.Report Layout.Short)
carried Name.CancelOperation s = Ok Command.CancelOperation
carried Name.Watchdog s = Ok (Command.Report Layout.Short)
carried Name.GroupOn s = Ok (Command.GroupOn (group_in s))
carried Name.GroupOff s = Ok (Command.GroupOff (group_in s))
carried Name.GroupState s = Ok (Command.GroupState (group_in s))
carried Name.ChannelOn s = Ok (Command.ChannelOn (byte_after s))
carried Name.ChannelOff s = Ok (Command.ChannelOff (byte_after s))
carried Name.SwitchToNominal s = Ok Command.SwitchToNominal
carried Name.SwitchToSafety s = Ok Command.SwitchToSafety
carried Name.GetOvercurrentFaultState s = Ok (Command.Report Layout.Faults)
carried Name.GetHousekeeping s = Ok (Command.Report Layout.Housekeeping)
carried Name.GetParameter s = getting (id_of s)
carried Name.SetParameter s = setting (id_of s) s
carried Name.ResetParameter s = resetting (id_of s)
carried Name.ResetConfiguration s = Ok Command.ResetConfiguration
carried Name.LoadConfiguration s = Ok Command.LoadConfiguration
carried Name.SaveConfiguration s = Ok (Command.SaveConfiguration (checksum_in s))
carried Name.GetEngineeringHousekeeping s = Ok (Command.Report Layout.EngineeringHousekeeping)
carried Name.GetAbfPlacedState s = Ok (Command.Report Layout.AbfPlacedState)
carried Name.GetBatteryHousekeeping s = Ok (Command.Report Layout.BatteryHousekeeping)
carried Name.GetEngineeringBatteryHousekeeping s = Ok (Command.Report Layout.EngineeringBatteryHousekeeping)

-- ---- a code of the table: long enough, with its key, and then what it carries
abbrev pub key_differs : Option ℕ → List ℕ → Bool
key_differs None s = false
key_differs (Some key) s = not (eqb (byte_after s) key)

unfoldable pub listed : Option Listed → List ℕ → Decoded
listed None s = Err CodeNotListed  -- no list of a kind has such a code
listed (Some row) s =
    cond (ltb (length s) row.needed) (Err TooShort)
    (cond (key_differs row.key s) (Err WrongKey)
    (carried row.name s))

-- ---- any transfer, to a board of a kind and a BID that is in startup or not; the order is that of `Checks`
unfoldable pub decode_of : Kind → ℕ → Bool → List ℕ → Decoded
decode_of kind bid startup s =
    cond (fewer_than_four s) (Err FewerThanFourBytes)
    (cond startup (Err InStartup)
    (cond (not (header_is (header_of kind bid) s)) (Err NotThisBoard)
    (cond (not (is_in (code_of s) (board_of kind).codes)) (Err CodeNotListed)
    (listed (find command_table (code_of s)) s))))
