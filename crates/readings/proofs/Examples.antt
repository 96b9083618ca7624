-- Readings by Table 3-12, worked out: 0 and both sides of it, halves, and the ends of the word and of int16; and what
-- 0x62 tells of a battery board's words. Assumes nothing.
use Prim.Native.Nat.{ℕ}
use mathlib.Core.Path.{◌≡◌, refl}
use mathlib.Core.List.{List, [], ◌∷◌, ◌++◌, map}
use lib.IntN.{ℤ, pos}
use Rattle.wire.specs.Numbers.{signed, pattern}
use Rattle.rounding.specs.Rounding.{nearest, held}
use Rattle.temperature.specs.Temperature.{coefficients, polynomial, line_at, entry_of, temperature_of}
use Rattle.readings.specs.Readings.{raw_of}
use Rattle.readings.specs.Table.{minus, number_of, above_the_line, nearest_units, engineering_of}
use Rattle.readings.specs.Packs.{packs, pack_temperature, word_by, told_by}
use Rattle.readings.specs.declared.table.Row.{Row}
use Rattle.readings.specs.declared.table.Row.TheVariants.{VoltBrdsup, PduTemp, PiuTemp, VipVolt, VipCurr, ChannelCurr, VipPowe, ChannelPowe, VoltCell, BatTemp1, VoltMppt, CurrMppt}

infix 70 ◌of◌is◌
pub data Example : Type 0 where
  ◌of◌is◌ : Row → ℕ → ℤ → Example

abbrev pub found : Example → ℤ
found (row of word is z) = (engineering_of row (raw_of word)).0

abbrev pub stated : Example → ℤ
stated (row of word is z) = z

abbrev pub examples : List Example
examples =
    VipVolt of 0xFFEC is minus 20  -- the rail that was once read as 65,516 mV: -19.53
    ∷ VipVolt of 0 is pos 0
    ∷ VipVolt of 64 is pos 63  -- 62.5
    ∷ VipVolt of 0xFFC0 is minus 63  -- -62.5
    ∷ VipVolt of 0x7FFF is pos 31999
    ∷ VipVolt of 0x8000 is minus 32000
    ∷ VipCurr of 1 is pos 0  -- 0.31
    ∷ VipCurr of 0xFFFF is pos 0
    ∷ VipCurr of 2 is pos 1  -- 0.61
    ∷ VipCurr of 0xFFFE is minus 1
    ∷ ChannelCurr of 0x8000 is minus 5000
    ∷ VipPowe of 0x7FFF is pos 31999
    ∷ ChannelPowe of 0x8000 is minus 16000
    ∷ VoltBrdsup of 0 is pos 0
    ∷ VoltBrdsup of 26836 is pos 32767  -- 32766.79
    ∷ VoltBrdsup of 26837 is pos 32767  -- 32768.01, held
    ∷ VoltBrdsup of 0xFFFF is pos 32767
    ∷ PduTemp of 1168 is pos 0
    ∷ PduTemp of 0 is minus 28551
    ∷ PduTemp of 0xFFFF is pos 32767
    ∷ PiuTemp of 868 is pos 0
    ∷ PiuTemp of 0 is minus 27979
    ∷ VoltCell of 511 is minus 2  -- -1.5
    ∷ VoltCell of 513 is pos 2
    ∷ BatTemp1 of 0 is minus 32768  -- -36918.75, held
    ∷ BatTemp1 of 1967 is minus 38  -- -37.5
    ∷ VoltMppt of 64 is pos 1313  -- 1312.5
    ∷ CurrMppt of 137 is pos 313  -- 312.5
    ∷ CurrMppt of 0 is minus 133
    ∷ []

pub as_worked_out : map found examples ≡ map stated examples
unfolding engineering_of nearest_units above_the_line number_of nearest held signed
as_worked_out = refl

-- ---- a battery board: the words in front of the packs, and the three packs, the last with words at their ends
abbrev pub measured_words : List ℕ
measured_words =
    (2700 ∷ 2200 ∷ 16000 ∷ 0xFFF0 ∷ 0xFF00 ∷ 0xC001 ∷ [])
    ++ (16000 ∷ 100 ∷ 50 ∷ 0x0001 ∷ 3012 ∷ 3013 ∷ 511 ∷ 513 ∷ 2049 ∷ 2000 ∷ 3000 ∷ [])
    ++ (0xFFEC ∷ 0xFFFE ∷ 1 ∷ 0xFFFF ∷ 0 ∷ 0xFFFF ∷ 512 ∷ 3000 ∷ 1967 ∷ 55 ∷ 56 ∷ [])
    ++ (0x8000 ∷ 0x7FFF ∷ 0x8000 ∷ 0 ∷ 2900 ∷ 2901 ∷ 2902 ∷ 2903 ∷ 0 ∷ 4095 ∷ 0xFFFF ∷ [])

abbrev pub told_words : List ℕ
told_words =
    (3297 ∷ 25227 ∷ 15625 ∷ 65531 ∷ 65286 ∷ 0xC001 ∷ [])
    ++ (15625 ∷ 31 ∷ 49 ∷ 0x0001 ∷ 3750 ∷ 3752 ∷ 65534 ∷ 2 ∷ 1500 ∷ 544 ∷ 45081 ∷ [])
    ++ (65516 ∷ 65535 ∷ 1 ∷ 0xFFFF ∷ 64768 ∷ 32767 ∷ 0 ∷ 3732 ∷ 65498 ∷ 32767 ∷ 32691 ∷ [])
    ++ (33536 ∷ 10000 ∷ 33536 ∷ 0 ∷ 3582 ∷ 3584 ∷ 3585 ∷ 3587 ∷ 32768 ∷ 32768 ∷ 32768 ∷ [])

pub told_as_worked_out : told_by packs (map raw_of measured_words) ≡ told_words
unfolding told_by packs word_by pack_temperature temperature_of entry_of line_at polynomial coefficients engineering_of nearest_units above_the_line number_of nearest held signed pattern
told_as_worked_out = refl
