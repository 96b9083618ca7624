-- What a parameter reads. A read-only one reads what the rule that names it speaks of, and 0 where no rule does.
-- Assumes nothing: these are definitions.
use Rattle.std.specs.Prelude.{ℕ}
use mathlib.Core.{Bool.cond, List.List, List.[], List.◌∷◌}
use lib.{Dec.eqb, ListN.replicate}
use Rattle.kinds.specs.Kinds.{board_of}
use Rattle.wire.specs.Numbers.{bytes_of}
use Rattle.value.specs.{Types.width, Values.wire_bytes, Values.value_bytes, declared.ValueBytes.ValueBytes}
use Rattle.settings.specs.{Values.get_of, declared.Got.Got}
use Rattle.memory.specs.Limits.{safety_low, safety_high, timeout_of, emergency_low, emergency_high, emergency_period, linger}
use Rattle.memory.specs.declared.Memory.{Memory}
use Rattle.state.specs.{Parts.cause_number, declared.parts.Profile.Profile, declared.parts.Resets.Resets}

infix 70 ◌reads◌
pub data Row : Type 0 where
  ◌reads◌ : ℕ → ℕ → Row

-- the rows of Table 3-26 that a rule names
abbrev pub named : Profile → Memory → Resets → List Row
named p m r =
    0x2800 reads (board_of p.kind).stid  -- STID
    ∷ 0x2801 reads 7  -- IVID
    ∷ 0x2802 reads p.bid  -- BID_USED
    ∷ 0x4801 reads m.shown.save_count  -- CONF_NVM_SAVE_CNTR
    ∷ 0x4802 reads m.shown.checksum  -- CONF_NVM_SAVE_CHKS
    ∷ 0x4803 reads cause_number r.cause  -- RST_CAUSE
    ∷ 0x4804 reads r.power  -- RST_CNTR_PWRON
    ∷ 0x4805 reads r.watchdog  -- RST_CNTR_WDG
    ∷ 0x4806 reads r.command  -- RST_CNTR_CMD
    ∷ 0x480A reads emergency_low  -- EMLOPO_VOLT_LOTHR
    ∷ 0x480B reads emergency_high  -- EMLOPO_VOLT_HITHR
    ∷ 0x480C reads emergency_period  -- EMLOPO_PERIOD
    ∷ 0x480D reads safety_low m  -- SAFETY_VOLT_LOTHR_USED
    ∷ 0x480E reads safety_high m  -- SAFETY_VOLT_HITHR_USED
    ∷ 0x480F reads linger  -- SAFETY_LINGER
    ∷ 0x4810 reads timeout_of m  -- TTC_WDG_TIMOUT_USED
    ∷ 0x6809 reads p.forced  -- CH_FORCE_ENA_USE_BF
    ∷ []

unfoldable pub number_in : List Row → ℕ → ℕ
number_in [] id = 0
number_in (i reads n ∷ rows) id = cond (eqb id i) n (number_in rows id)

unfoldable pub read_only_number : Profile → Memory → Resets → ℕ → ℕ
read_only_number p m r id = number_in (named p m r) id

-- the bytes of a value, as many as its type has, little endian
abbrev pub value_as : ℕ → Got → List ℕ
value_as n (Got.Value v) = wire_bytes v
value_as n (Got.ReadOnly t) = bytes_of (width t) n
value_as n Got.Unknown = []

unfoldable pub value_read : Profile → Memory → Resets → ℕ → List ℕ
value_read p m r id = value_as (read_only_number p m r id) (get_of m.current id)

-- the room of eight bytes in which they are handed on, and how many of them count: behind a setting's bytes stand
-- zeros, behind a read-only one's the rest of its number
abbrev pub room_as : ℕ → Got → ValueBytes
room_as n (Got.Value v) = value_bytes v
room_as n (Got.ReadOnly t) = record { len = width t; bytes = bytes_of 8 n }
room_as n Got.Unknown = record { len = 0; bytes = replicate 8 0 }

unfoldable pub room_read : Profile → Memory → Resets → ℕ → ValueBytes
room_read p m r id = room_as (read_only_number p m r id) (get_of m.current id)
