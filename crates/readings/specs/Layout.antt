-- The measured fields of 0x50 and of 0x52 (ICD pages 47 to 53), raw on the one and engineering on the other: the same
-- names in the same order, each word with the row of Table 3-12 by which it is converted. The channel words, which
-- stand behind VIP_INPUT, are not measured. `VIP-VD d` is VIP_VDd and `VIP-CH c` VIP_CHc; `xs ++ ys` is xs and then ys.
-- The names of the battery board's fields stand here too; `Packs` has their order. Names are for the reader: what
-- counts is the order and the row. Assumes nothing: these are definitions.
use Rattle.std.specs.Prelude.{ℕ, zero, suc, List, [], ◌∷◌, ◌++◌, get_or}
use Rattle.readings.specs.declared.apart.Raw.{Raw}
use Rattle.readings.specs.declared.apart.Engineering.{Engineering}
use Rattle.readings.specs.declared.table.Row.{Row}
use Rattle.readings.specs.declared.table.Row.TheVariants.{VoltBrdsup, PduTemp, VipVolt, VipCurr, ChannelCurr, VipPowe, ChannelPowe}
use Rattle.readings.specs.Table.{engineering_of}

-- ---- the names on the pages
-- a block of three words (VIPD): the input's, a voltage domain's, an output bus channel's; and on the battery board a
-- pack's
pub data Block : Type 0 where
  VIP_INPUT : Block
  VIP-VD VIP-CH : ℕ → Block
  VIP_BP_INPUT : ℕ → Block

-- the word of a field of one word, and of a block its VOLT, its CURR and its POWE; and on the battery board the status
-- of the board, and of a pack its status, its cells and its temperatures
pub data Field : Type 0 where
  VOLT-BRDSUP TEMP-MCU : Field
  VOLT CURR POWE : Block → Field
  STAT_BU : Field
  STAT_BP : ℕ → Field
  VOLT-CELL BAT-TEMP : ℕ → ℕ → Field

-- a place: a field, and the row for it
infix 40 ◌by◌
pub data Place : Type 0 where
  ◌by◌ : Field → Row → Place

-- ---- the layout, in the pages' order
abbrev pub vip : Block → List Place
vip block = (VOLT block by VipVolt) ∷ (CURR block by VipCurr) ∷ (POWE block by VipPowe) ∷ []

abbrev pub channel : Block → List Place
channel block = (VOLT block by VipVolt) ∷ (CURR block by ChannelCurr) ∷ (POWE block by ChannelPowe) ∷ []

-- what f gives for 0 to n - 1, in a row
unfoldable pub up_to : ℕ → (ℕ → List Place) → List Place
up_to zero f = []
up_to (suc n) f = up_to n f ++ f n

unfoldable pub layout : List Place
layout =
    ((VOLT-BRDSUP by VoltBrdsup) ∷ (TEMP-MCU by PduTemp) ∷ [])
    ++ vip VIP_INPUT
    ++ up_to 7 (λ d. vip (VIP-VD d))
    ++ up_to 32 (λ c. channel (VIP-CH c))

-- ---- each measured word by the row of its place
abbrev pub row_of : Place → Row
row_of (field by row) = row

unfoldable pub converted_by : List Place → List Raw → List Engineering
converted_by [] raws = []
converted_by (place ∷ places) [] = []
converted_by (place ∷ places) (raw ∷ raws) = engineering_of (row_of place) raw ∷ converted_by places raws

-- ---- the row of a word by its place, counted from 0. Behind the last place there is none; what is said there is of no
-- word.
abbrev pub place_at : ℕ → Place
place_at i = get_or layout i (POWE (VIP-CH 31) by ChannelPowe)

abbrev pub row_at : ℕ → Row
row_at i = row_of (place_at i)

-- and within a block: VOLT is 0, CURR 1 and POWE 2, and anything above
abbrev pub vip_row : ℕ → Row
vip_row word = row_of (get_or (vip VIP_INPUT) word (POWE VIP_INPUT by VipPowe))

abbrev pub channel_row : ℕ → Row
channel_row word = row_of (get_or (channel (VIP-CH 0)) word (POWE (VIP-CH 0) by ChannelPowe))
