-- How an engineering reading lies to the exact value of Table 3-12, the fraction with PreMul (Raw + Bias) above the
-- line and PosDiv below it; `Fraction` says how such a result lies to its fraction. `a ⇔ b` says that a and b follow
-- from each other. Assumes nothing: this is what is claimed, and proofs/Exact shows it.
use Rattle.std.specs.Prelude.{ℕ, ◌*◌, ◌%◌, ◌≡◌, true, false, ℤ}
use Rattle.std.specs.Int.Signed.{le_z}
use Rattle.rounding.specs.Rounding.{distance}
use Rattle.readings.specs.declared.apart.Raw.{Raw}
use Rattle.readings.specs.declared.table.Row.{Row}
use Rattle.readings.specs.declared.table.Row.TheVariants.{VoltBrdsup, PduTemp, PiuTemp, VipVolt, VipCurr, ChannelCurr, VipPowe, ChannelPowe, VoltCell, BatTemp1, VoltMppt, CurrMppt}
use Rattle.readings.specs.Table.{is_vipd, number_of, above_the_line, below_the_line, engineering_of}
use Rattle.exact.specs.Fraction.{◌⇔◌, passes_the_top, passes_the_bottom, HeldNearest}

-- ---- the result, and the exact value
abbrev pub result_of : Row → Raw → ℤ
result_of row raw = (engineering_of row raw).0

-- ---- the raw words whose exact value lies a whole half from the next unit: none, or one in each so many, counted
-- from 0
infix 40 each◌at◌
pub data Halves : Type 0 where
  never : Halves
  each◌at◌ : ℕ → ℕ → Halves

abbrev pub halves_of : Row → Halves
halves_of VoltBrdsup = never
halves_of PduTemp = never
halves_of PiuTemp = never
halves_of VipVolt = each 128 at 64
halves_of VipCurr = each 2048 at 1024
halves_of ChannelCurr = each 4096 at 2048
halves_of VipPowe = each 128 at 64
halves_of ChannelPowe = each 256 at 128
halves_of VoltCell = each 2 at 1
halves_of BatTemp1 = each 4 at 3
halves_of VoltMppt = each 128 at 64
halves_of CurrMppt = each 192 at 137

abbrev pub IsHalf : Halves → Raw → Type 0
IsHalf never raw = ⊥
IsHalf (each period at place) raw = raw.0 % period ≡ place

-- ---- what is claimed of a row and a raw reading
pub record ExactReading (row : Row) (raw : Raw) : Type 0 where
  -- the result is the exact value's nearest unit, held
  pub held_nearest : HeldNearest (above_the_line row raw) (below_the_line row) (result_of row raw)
  -- not held, it lies just half a unit from the exact value for these words alone
  pub at_half : passes_the_top (above_the_line row raw) (below_the_line row) ≡ false → passes_the_bottom (above_the_line row raw) (below_the_line row) ≡ false
      → (2 * distance (result_of row raw) (above_the_line row raw) (below_the_line row) ≡ below_the_line row) ⇔ IsHalf (halves_of row) raw

-- ---- a larger raw value never gives a smaller result
pub record NeverSmaller (row : Row) (a b : Raw) : Type 0 where
  pub not_smaller : le_z (number_of (is_vipd row) a) (number_of (is_vipd row) b) ≡ true → le_z (result_of row a) (result_of row b) ≡ true
