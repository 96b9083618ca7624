-- Tables 3-24, 3-25 and 3-26 of the ICD: which parameters there are, and the type, range and default of each.
-- Whatever is said of an id is read from its row. A number is an integer: `pos 5` is 5, `negsuc 5` is -6. `a ∷ b ∷ []`
-- is a list of two, and `cond b x y` is x where b holds, else y. Assumes nothing.
use Rattle.std.specs.Prelude.{ℕ, zero, suc, ◌-◌, ◌/◌, ◌^◌}
use mathlib.Core.{Bool.Bool, Bool.cond, Bool.◌&&◌, List.List, List.[], List.◌∷◌, List.◌++◌}
use lib.{Dec.leb, Dec.eqb, IntN.ℤ, IntN.pos, IntN.negsuc, Signed.lt_z, Signed.le_z}
use Rattle.kinds.specs.{Kinds.board_of, declared.Kind.Kind}
use Rattle.value.specs.declared.ValueType.{ValueType}
use Rattle.value.specs.declared.ValueType.TheVariants.{Int8, Uint8, Int16, Uint16, Uint32}
use Rattle.value.specs.Types.{Sign, Signed, Unsigned, sign_in, bytes_in, code_of, type_table as types}
use Rattle.settings.specs.declared.Parameter.{Parameter}

-- ---- the types of Table 3-24: two are one where their codes are
unfoldable pub same : ValueType → ValueType → Bool
same t u = eqb (code_of t) (code_of u)

-- the least and the greatest number of a type, by its sign and its bytes; no parameter is a float or a double, and what
-- stands there is not used
abbrev pub lowest_by : Sign → ℕ → ℤ
lowest_by Signed bytes = negsuc (256 ^ bytes / 2 - 1)
lowest_by Unsigned bytes = pos 0

abbrev pub highest_by : Sign → ℕ → ℤ
highest_by Signed bytes = pos (256 ^ bytes / 2 - 1)
highest_by Unsigned bytes = pos (256 ^ bytes - 1)

abbrev pub lowest : ValueType → ℤ
lowest t = lowest_by (sign_in (types t)) (bytes_in (types t))

abbrev pub highest : ValueType → ℤ
highest t = highest_by (sign_in (types t)) (bytes_in (types t))

-- ---- the form of a row
-- a range as the page gives it: none, a min, a max, or both
pub data Range : Type 0 where
  any : Range
  least : ℤ → Range
  most : ℤ → Range
  between : ℤ → ℤ → Range

abbrev pub min : ℕ → Range
min a = least (pos a)

abbrev pub max : ℕ → Range
max b = most (pos b)

infix 72 ◌up_to◌
abbrev pub ◌up_to◌ : ℕ → ℕ → Range
a up_to b = between (pos a) (pos b)

infix 72 minus◌up_to◌
abbrev pub minus◌up_to◌ : ℕ → ℕ → Range
minus zero up_to b = between (pos 0) (pos b)
minus suc a up_to b = between (negsuc a) (pos b)

-- a row of Table 3-25 and one of Table 3-26: each id from the first to the last is a parameter
infix 70 ◌to◌are◌with◌default◌
infix 70 ◌to◌are_read◌
pub data Row : Type 0 where
  ◌to◌are◌with◌default◌ : ℕ → ℕ → ValueType → Range → (Kind → ℕ) → Row
  ◌to◌are_read◌ : ℕ → ℕ → ValueType → Row

-- ---- Table 3-25, from the lowest id to the highest, where "n/a" is 0. A default is given for a kind of board: the
-- same for each, or the board's own
abbrev pub each : ℕ → Kind → ℕ
each number kind = number

abbrev pub enabled : Kind → ℕ
enabled kind = (board_of kind).enable_bits

abbrev pub key : Kind → ℕ
key kind = (board_of kind).enable_key

unfoldable pub read_write_rows : List Row
read_write_rows =
    0x1000 to 0x1000 are Int8 with any default each 0  -- (internal)
    ∷ 0x1001 to 0x1003 are Int8 with any default each 0  -- AUTO_HEAT_ENA_BP1 to BP3
    ∷ 0x1004 to 0x1006 are Int8 with any default each 0  -- AUTO_BAL_ENA_BP1 to BP3
    ∷ 0x1007 to 0x100D are Int8 with any default each 0  -- VD1_ALWAYS_ENA to VD6, seven ids
    ∷ 0x100E to 0x1014 are Int8 with any default each 0  -- VD1_ALWAYS_DISA to VD6, seven ids
    ∷ 0x2000 to 0x2000 are Uint8 with any default each 1  -- BOARD_IDENTIFIER
    ∷ 0x2001 to 0x2001 are Uint8 with any default each 0x12  -- BOARD_IDENTIFIER_KEY
    ∷ 0x2002 to 0x2002 are Uint8 with any default each 3  -- RAVG_STRENGTH_P2
    ∷ 0x3000 to 0x3002 are Int16 with minus 2000 up_to 3000 default each 200  -- LOTHR_BP1_HEATER to BP3
    ∷ 0x3003 to 0x3005 are Int16 with minus 2000 up_to 3400 default each 600  -- HITHR_BP1_HEATER to BP3
    ∷ 0x3006 to 0x3008 are Int16 with min 30 default each 30  -- LOTHR_BP1_UNBAL to BP3
    ∷ 0x3009 to 0x300B are Int16 with min 30 default each 50  -- HITHR_BP1_UNBAL to BP3
    ∷ 0x300C to 0x300C are Int16 with any default each 0  -- MCU_TEMP_BIAS
    ∷ 0x300D to 0x300D are Int16 with any default each 1  -- MCU_TEMP_PREMUL
    ∷ 0x300E to 0x300E are Int16 with any default each 1  -- MCU_TEMP_POSDIV
    ∷ 0x300F to 0x3011 are Int16 with any default each 0  -- BP1_TEMP1_BIAS to TEMP3
    ∷ 0x3012 to 0x3014 are Int16 with any default each 0  -- BP2_TEMP1_BIAS to TEMP3
    ∷ 0x3015 to 0x3017 are Int16 with any default each 0  -- BP3_TEMP1_BIAS to TEMP3
    ∷ 0x3018 to 0x301A are Int16 with any default each 1  -- BP1_TEMP1_PREMUL to TEMP3
    ∷ 0x301B to 0x301D are Int16 with any default each 1  -- BP2_TEMP1_PREMUL to TEMP3
    ∷ 0x301E to 0x3020 are Int16 with any default each 1  -- BP3_TEMP1_PREMUL to TEMP3
    ∷ 0x3021 to 0x3023 are Int16 with any default each 1  -- BP1_TEMP1_POSDIV to TEMP3
    ∷ 0x3024 to 0x3026 are Int16 with any default each 1  -- BP2_TEMP1_POSDIV to TEMP3
    ∷ 0x3027 to 0x3029 are Int16 with any default each 1  -- BP3_TEMP1_POSDIV to TEMP3
    ∷ 0x4000 to 0x4000 are Uint16 with any default each 300  -- TTC_WDG_TIMEOUT
    ∷ 0x4001 to 0x4001 are Uint16 with any default each 0  -- TTC_WDG_TIMEOUT_KEY
    ∷ 0x4002 to 0x4021 are Uint16 with max 20000 default each 0  -- CH_STARTUP_DELAY
    ∷ 0x4022 to 0x4041 are Uint16 with 50 up_to 20000 default each 5000  -- CH_LATCHOFF_DELAY
    ∷ 0x4042 to 0x4042 are Uint16 with any default each 12400  -- SAFETY_VOLT_LOTHR
    ∷ 0x4043 to 0x4043 are Uint16 with any default each 14000  -- SAFETY_VOLT_HITHR
    ∷ 0x6000 to 0x6001 are Uint32 with any default each 0  -- (internal)
    ∷ 0x6002 to 0x6002 are Uint32 with any default enabled  -- CH_STARTUP_ENA_BF
    ∷ 0x6003 to 0x6003 are Uint32 with any default key  -- CH_STARTUP_KEY
    ∷ 0x6004 to 0x6004 are Uint32 with any default enabled  -- CH_LATCHOFF_ENA_BF
    ∷ 0x6005 to 0x6005 are Uint32 with any default key  -- CH_LATCHOFF_KEY
    ∷ []

-- ---- Table 3-26: the parameters that are only read
unfoldable pub read_only_rows : List Row
read_only_rows =
    0x1800 to 0x1800 are_read Int8  -- CONF_PARAM_CHANGED
    ∷ 0x2800 to 0x2800 are_read Uint8  -- STID
    ∷ 0x2801 to 0x2801 are_read Uint8  -- IVID
    ∷ 0x2802 to 0x2802 are_read Uint8  -- BID_USED
    ∷ 0x2803 to 0x2803 are_read Uint8  -- BOOT_RESUME_SHORT
    ∷ 0x3800 to 0x3800 are_read Int16  -- ADC_MCU_TEMP_V25T30
    ∷ 0x3801 to 0x3801 are_read Int16  -- ADC_MCU_TEMP_V25T85
    ∷ 0x4800 to 0x4800 are_read Uint16  -- TTC_I2C_SLAVE_ADDR
    ∷ 0x4801 to 0x4801 are_read Uint16  -- CONF_NVM_SAVE_CNTR
    ∷ 0x4802 to 0x4802 are_read Uint16  -- CONF_NVM_SAVE_CHKS
    ∷ 0x4803 to 0x4803 are_read Uint16  -- RST_CAUSE
    ∷ 0x4804 to 0x4804 are_read Uint16  -- RST_CNTR_PWRON
    ∷ 0x4805 to 0x4805 are_read Uint16  -- RST_CNTR_WDG
    ∷ 0x4806 to 0x4806 are_read Uint16  -- RST_CNTR_CMD
    ∷ 0x4807 to 0x4807 are_read Uint16  -- RST_CNTR_MCU
    ∷ 0x4808 to 0x4808 are_read Uint16  -- RST_CNTR_EMLOPO
    ∷ 0x4809 to 0x4809 are_read Uint16  -- RST_CODE_MCU_RAW
    ∷ 0x480A to 0x480A are_read Uint16  -- EMLOPO_VOLT_LOTHR
    ∷ 0x480B to 0x480B are_read Uint16  -- EMLOPO_VOLT_HITHR
    ∷ 0x480C to 0x480C are_read Uint16  -- EMLOPO_PERIOD
    ∷ 0x480D to 0x480D are_read Uint16  -- SAFETY_VOLT_LOTHR_USED
    ∷ 0x480E to 0x480E are_read Uint16  -- SAFETY_VOLT_HITHR_USED
    ∷ 0x480F to 0x480F are_read Uint16  -- SAFETY_LINGER
    ∷ 0x4810 to 0x4810 are_read Uint16  -- TTC_WDG_TIMOUT_USED
    ∷ 0x4811 to 0x4811 are_read Uint16  -- TTC_PREVCMD_ELAPSED
    ∷ 0x4812 to 0x4813 are_read Uint16  -- (internal)
    ∷ 0x6800 to 0x6808 are_read Uint32  -- (internal)
    ∷ 0x6809 to 0x6809 are_read Uint32  -- CH_FORCE_ENA_USE_BF
    ∷ 0x680A to 0x680A are_read Uint32  -- CH_STARTUP_ENA_USE_BF
    ∷ 0x680B to 0x680B are_read Uint32  -- CH_LATCHOFF_ENA_USE_BF
    ∷ 0x680C to 0x6812 are_read Uint32  -- VD1_ALLOC_CH_BF to VD6, seven ids
    ∷ 0x6813 to 0x6813 are_read Uint32  -- SWCI_CH_CMD_ENA_BF
    ∷ 0x6814 to 0x6814 are_read Uint32  -- SWCI_CH_CMD_DISA_BF
    ∷ []

-- ---- the row of an id
-- an id lies from the first to the last
unfoldable pub lies : ℕ → ℕ → ℕ → Bool
lies first last id = leb first id && leb id last

-- what the tables say of an id
pub data Entry : Type 0 where
  read_write : ValueType → Range → (Kind → ℕ) → Entry
  read_only : ValueType → Entry
  missing : Entry

unfoldable pub find : List Row → ℕ → Entry
find [] id = missing
find (a to b are t with r default d ∷ rows) id = cond (lies a b id) (read_write t r d) (find rows id)
find (a to b are_read t ∷ rows) id = cond (lies a b id) (read_only t) (find rows id)

-- the first row that has the id
unfoldable pub row_of : ℕ → Entry
row_of id = find (read_write_rows ++ read_only_rows) id

-- f at n ids, from the first on
unfoldable pub column {ℓ} : {A : Type ℓ} → (ℕ → A) → ℕ → ℕ → List A
column f first zero = []
column f first (suc n) = f first ∷ column f (suc first) n

-- the n ids from the first on
unfoldable pub from : ℕ → ℕ → List ℕ
from first n = column (λ id. id) first n

unfoldable pub ids_of : List Row → List ℕ
ids_of [] = []
ids_of (a to b are t with r default d ∷ rows) = from a (suc b - a) ++ ids_of rows
ids_of (a to b are_read t ∷ rows) = from a (suc b - a) ++ ids_of rows

-- all read/write parameters, from the lowest id to the highest
unfoldable pub ids : List ℕ
ids = ids_of read_write_rows

-- ---- what an id is
abbrev pub parameter_in : Entry → Parameter
parameter_in (read_write t r d) = Parameter.ReadWrite t
parameter_in (read_only t) = Parameter.ReadOnly t
parameter_in missing = Parameter.Unknown

unfoldable pub parameter_of : ℕ → Parameter
parameter_of id = parameter_in (row_of id)

-- ---- its range
abbrev pub range_in : Entry → Range
range_in (read_write t r d) = r
range_in (read_only t) = any
range_in missing = any

unfoldable pub range_of : ℕ → Range
range_of id = range_in (row_of id)

-- where a range gives one end, the other is that of the type; without a range every number of the type is in it
abbrev pub low_end : ValueType → Range → ℤ
low_end t any = lowest t
low_end t (least a) = a
low_end t (most b) = lowest t
low_end t (between a b) = a

abbrev pub high_end : ValueType → Range → ℤ
high_end t any = highest t
high_end t (least a) = highest t
high_end t (most b) = b
high_end t (between a b) = b

-- an id that is no read/write parameter has no range; what stands there is not used
abbrev pub low_in : Entry → ℤ
low_in (read_write t r d) = low_end t r
low_in (read_only t) = pos 0
low_in missing = pos 0

abbrev pub high_in : Entry → ℤ
high_in (read_write t r d) = high_end t r
high_in (read_only t) = pos 0
high_in missing = pos 0

unfoldable pub low_of : ℕ → ℤ
low_of id = low_in (row_of id)

unfoldable pub high_of : ℕ → ℤ
high_of id = high_in (row_of id)

-- a number lies in the id's range
unfoldable pub inside_of : ℕ → ℤ → Bool
inside_of id z = le_z (low_of id) z && le_z z (high_of id)

-- a number outside the range is taken as the nearer end
unfoldable pub at_least : ℤ → ℤ → ℤ
at_least low z = cond (lt_z z low) low z

unfoldable pub at_most : ℤ → ℤ → ℤ
at_most high z = cond (lt_z high z) high z

unfoldable pub clamp_of : ℕ → ℤ → ℤ
clamp_of id z = at_most (high_of id) (at_least (low_of id) z)

-- ---- its default on a kind of board, brought into range
abbrev pub given_in : Entry → Kind → ℕ
given_in (read_write t r d) kind = d kind
given_in (read_only t) kind = 0
given_in missing kind = 0

unfoldable pub default_of : Kind → ℕ → ℤ
default_of kind id = clamp_of id (pos (given_in (row_of id) kind))
