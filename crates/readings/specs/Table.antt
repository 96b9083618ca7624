-- Table 3-12 (ICD pages 22 and 23): how a raw reading becomes an engineering one, Eng = PreMul (Raw + Bias) / PosDiv,
-- here to the nearest unit, halves away from zero, and held to the ends of int16. `pos n` is the integer n. Of the
-- table's fields BAT_TEMP2 and BAT_TEMP3 alone have no numbers in it, since their relation is not linear. Assumes
-- nothing: these are definitions.
use Rattle.std.specs.Prelude.{ℕ, Bool, true, false, cond, ℤ, pos, neg_ℤ, ◌+ℤ◌, ◌*ℤ◌}
use Rattle.wire.specs.Numbers.{signed}
use Rattle.rounding.specs.Rounding.{nearest, held}
use Rattle.readings.specs.declared.apart.Raw.{Raw}
use Rattle.readings.specs.declared.apart.Engineering.{Engineering}
use Rattle.readings.specs.declared.table.Row.{Row}
use Rattle.readings.specs.declared.table.Row.TheVariants.{VoltBrdsup, PduTemp, PiuTemp, VipVolt, VipCurr, ChannelCurr, VipPowe, ChannelPowe, VoltCell, BatTemp1, VoltMppt, CurrMppt}
use Rattle.readings.specs.declared.table.Factors.{Factors}

-- what an engineering reading counts
pub data Unit : Type 0 where
  millivolt milliampere hundredth-of-a-watt hundredth-of-a-degree : Unit

-- ---- the rows, as the pages have them
infix 40 Bias◌PreMul◌PosDiv◌Unit◌
pub data Line : Type 0 where
  Bias◌PreMul◌PosDiv◌Unit◌ : ℤ → ℕ → ℕ → Unit → Line

abbrev pub minus : ℕ → ℤ
minus n = neg_ℤ (pos n)

abbrev pub line_of : Row → Line
line_of VoltBrdsup = Bias pos 0 PreMul 1000 PosDiv 819 Unit millivolt
line_of PduTemp = Bias minus 1168 PreMul 220 PosDiv 9 Unit hundredth-of-a-degree  -- of a battery board too
line_of PiuTemp = Bias minus 868 PreMul 26400 PosDiv 819 Unit hundredth-of-a-degree
line_of VipVolt = Bias pos 0 PreMul 125 PosDiv 128 Unit millivolt
line_of VipCurr = Bias pos 0 PreMul 3125 PosDiv 10240 Unit milliampere  -- of VIP_INPUT, VIP_OUTPUT and VIP_VDx; of a battery board VIP_BP_INPUT too
line_of ChannelCurr = Bias pos 0 PreMul 3125 PosDiv 20480 Unit milliampere  -- of VIP_CH
line_of VipPowe = Bias pos 0 PreMul 3125 PosDiv 3200 Unit hundredth-of-a-watt  -- of the same
line_of ChannelPowe = Bias pos 0 PreMul 3125 PosDiv 6400 Unit hundredth-of-a-watt  -- of VIP_CH
line_of VoltCell = Bias minus 512 PreMul 3 PosDiv 2 Unit millivolt
line_of BatTemp1 = Bias minus 1969 PreMul 75 PosDiv 4 Unit hundredth-of-a-degree
line_of VoltMppt = Bias pos 0 PreMul 2625 PosDiv 128 Unit millivolt  -- of the input and of the output
line_of CurrMppt = Bias minus 41 PreMul 625 PosDiv 192 Unit milliampere  -- of the input and of the output

-- the three numbers of a line
abbrev pub factors_in : Line → Factors
factors_in (Bias b PreMul p PosDiv d Unit u) = record { bias = b; premul = p; posdiv = d }

abbrev pub factors_of : Row → Factors
factors_of row = factors_in (line_of row)

-- ---- the number that a word stands for: the three fields of a VIPD are int16 (Table 3-14), all others uint16
abbrev pub is_vipd : Row → Bool
is_vipd VoltBrdsup = false
is_vipd PduTemp = false
is_vipd PiuTemp = false
is_vipd VipVolt = true
is_vipd VipCurr = true
is_vipd ChannelCurr = true
is_vipd VipPowe = true
is_vipd ChannelPowe = true
is_vipd VoltCell = false
is_vipd BatTemp1 = false
is_vipd VoltMppt = false
is_vipd CurrMppt = false

unfoldable pub number_of : Bool → Raw → ℤ
number_of vipd raw = cond vipd (signed 2 raw.0) (pos raw.0)

-- ---- the exact value is a fraction: what stands above the line, and PosDiv below it
unfoldable pub above_the_line : Row → Raw → ℤ
above_the_line row raw = pos (factors_of row).premul *ℤ (number_of (is_vipd row) raw +ℤ (factors_of row).bias)

abbrev pub below_the_line : Row → ℕ
below_the_line row = (factors_of row).posdiv

-- to the nearest unit, halves away from zero
unfoldable pub nearest_units : Row → Raw → ℤ
nearest_units row raw = nearest (above_the_line row raw) (below_the_line row)

-- held to the ends of int16
unfoldable pub engineering_of : Row → Raw → Engineering
engineering_of row raw = record { 0 = held (nearest_units row raw) }
