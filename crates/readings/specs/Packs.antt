-- The measured fields of 0x60 and of 0x62 (ICD pages 55 to 58; page 57's offset 12 of TEMP_MCU is a slip for 8), raw on
-- the one and engineering on the other: the same names in the same order, each word with the way in which 0x62 tells
-- it. A pack is a BPD (Tables 3-16 and 3-17): of pack BPp `VIP_BP_INPUT p` is the VIPD, `STAT_BP p` the status,
-- `VOLT-CELL p n` VOLT_CELLn and `BAT-TEMP p n` BAT_TEMPn. TEMP_MCU goes by the row of the PDU, as Table 3-12 has none
-- for the PBU, and VIP_BP_INPUT by the rows of VIP_INPUT. STAT_BU and STAT_BP, whose bits Table 3-18 names, are
-- measured words; STAT_BU is not made of the others. `xs ++ ys` is xs and then ys. Assumes nothing: these are
-- definitions.
use Rattle.std.specs.Prelude.{ℕ, List, [], ◌∷◌, ◌++◌, map, get_or}
use Rattle.wire.specs.Numbers.{pattern}
use Rattle.temperature.specs.Temperature.{temperature_of}
use Rattle.readings.specs.declared.apart.Raw.{Raw}
use Rattle.readings.specs.declared.apart.Engineering.{Engineering}
use Rattle.readings.specs.declared.packs.Way.{Way}
use Rattle.readings.specs.declared.packs.Way.TheVariants.{ByRow, ByCurve, AsItIs}
use Rattle.readings.specs.declared.table.Row.TheVariants.{VoltBrdsup, PduTemp, VoltCell, BatTemp1}
use Rattle.readings.specs.Table.{engineering_of}
use Rattle.readings.specs.Layout.{Field, VIP_INPUT, VIP_BP_INPUT, VOLT-BRDSUP, TEMP-MCU, STAT_BU, STAT_BP, VOLT-CELL, BAT-TEMP, Place, ◌by◌, vip}

-- ---- an item: a field, and the way in which 0x62 tells it
infix 40 ◌told◌
pub data Item : Type 0 where
  ◌told◌ : Field → Way → Item

-- a place with its row, as on 0x52, is told by that row
abbrev pub by_its_row : Place → Item
by_its_row (field by row) = field told ByRow row

-- ---- the items, in the pages' order
abbrev pub front : List Item
front =
    ((VOLT-BRDSUP told ByRow VoltBrdsup) ∷ (TEMP-MCU told ByRow PduTemp) ∷ [])
    ++ map by_its_row (vip VIP_INPUT)
    ++ ((STAT_BU told AsItIs) ∷ [])

abbrev pub pack : ℕ → List Item
pack p =
    map by_its_row (vip (VIP_BP_INPUT p))
    ++ ((STAT_BP p told AsItIs)
    ∷ (VOLT-CELL p 1 told ByRow VoltCell)
    ∷ (VOLT-CELL p 2 told ByRow VoltCell)
    ∷ (VOLT-CELL p 3 told ByRow VoltCell)
    ∷ (VOLT-CELL p 4 told ByRow VoltCell)
    ∷ (BAT-TEMP p 1 told ByRow BatTemp1)
    ∷ (BAT-TEMP p 2 told ByCurve)
    ∷ (BAT-TEMP p 3 told ByCurve)
    ∷ [])

unfoldable pub packs : List Item
packs = front ++ pack 1 ++ pack 2 ++ pack 3

-- ---- each measured word in the way of its item
-- the temperature of a pack, by Table 3-13
unfoldable pub pack_temperature : Raw → Engineering
pack_temperature raw = record { 0 = temperature_of raw.0 }

-- engineering words are int16, in two's complement; a status word stays as it is
unfoldable pub word_by : Way → Raw → ℕ
word_by (ByRow row) raw = pattern 2 (engineering_of row raw).0
word_by ByCurve raw = pattern 2 (pack_temperature raw).0
word_by AsItIs raw = raw.0

abbrev pub way_of : Item → Way
way_of (field told way) = way

unfoldable pub told_by : List Item → List Raw → List ℕ
told_by [] raws = []
told_by (item ∷ items) [] = []
told_by (item ∷ items) (raw ∷ raws) = word_by (way_of item) raw ∷ told_by items raws

-- ---- the way of a word by its place, counted from 0, and by its place within a pack. Behind the last place there is
-- none; what is said there is of no word.
abbrev pub way_at : ℕ → Way
way_at i = way_of (get_or packs i (BAT-TEMP 3 3 told ByCurve))

unfoldable pub pack_way : ℕ → Way
pack_way word = way_of (get_or (pack 1) word (BAT-TEMP 1 3 told ByCurve))
