-- What holds of the numbers of every row, and how large what stands above the line can become. Assumes nothing.
use Prim.Native.Nat.{◌*◌, ◌≤◌, ◌<◌}
use mathlib.Core.Bool.{Bool, true, false}
use native.Mathlib.Nat.{mul-le-mul}
use native.Mathlib.Omega.{arith}
use lib.Dec.{lit<, lit≤}
use lib.IntN.{pos, nat_abs, ◌+ℤ◌}
use lib.Signed.{nat_abs-le}
use mir.Syntax.{w16}
use Rattle.wire.specs.Numbers.{signed}
use Rattle.wire.proofs.TwosComplement.{signed_fits}
use Rattle.rounding.proofs.Integers.{abs_add, abs_mul}
use Rattle.readings.specs.Table.{factors_of, is_vipd, number_of, above_the_line}
use Rattle.readings.specs.declared.apart.Raw.{Raw}
use Rattle.readings.specs.declared.table.Factors.{Factors}
use Rattle.readings.specs.declared.table.Row.{Row}
use Rattle.readings.specs.declared.table.Row.TheVariants.{VoltBrdsup, PduTemp, PiuTemp, VipVolt, VipCurr, ChannelCurr, VipPowe, ChannelPowe, VoltCell, BatTemp1, VoltMppt, CurrMppt}

pub record Small (f : Factors) : Type 0 where
  pub bias_small : nat_abs f.bias ≤ 1969
  pub premul_small : f.premul ≤ 26400
  pub posdiv_above : 0 < f.posdiv

tested : {f : Factors} → nat_abs f.bias ≤ 1969 → f.premul ≤ 26400 → 0 < f.posdiv → Small f
tested b p d = record { bias_small = b; premul_small = p; posdiv_above = d }

pub small : (row : Row) → Small (factors_of row)
small VoltBrdsup = tested (lit≤ tt) (lit≤ tt) (lit< tt)
small PduTemp = tested (lit≤ tt) (lit≤ tt) (lit< tt)
small PiuTemp = tested (lit≤ tt) (lit≤ tt) (lit< tt)
small VipVolt = tested (lit≤ tt) (lit≤ tt) (lit< tt)
small VipCurr = tested (lit≤ tt) (lit≤ tt) (lit< tt)
small ChannelCurr = tested (lit≤ tt) (lit≤ tt) (lit< tt)
small VipPowe = tested (lit≤ tt) (lit≤ tt) (lit< tt)
small ChannelPowe = tested (lit≤ tt) (lit≤ tt) (lit< tt)
small VoltCell = tested (lit≤ tt) (lit≤ tt) (lit< tt)
small BatTemp1 = tested (lit≤ tt) (lit≤ tt) (lit< tt)
small VoltMppt = tested (lit≤ tt) (lit≤ tt) (lit< tt)
small CurrMppt = tested (lit≤ tt) (lit≤ tt) (lit< tt)

pub number_small : (vipd : Bool) (raw : Raw) → raw.0 < 65536 → nat_abs (number_of vipd raw) ≤ 65536
unfolding number_of
number_small false raw h = omega arith
number_small true raw h = omega (arith, nat_abs-le (signed 2 raw.0) (signed_fits w16 raw.0 (record { fits = h })).sfits)

pub above_small : (row : Row) (raw : Raw) → raw.0 < 65536 → nat_abs (above_the_line row raw) ≤ 26400 * 67505
unfolding above_the_line
above_small row raw h =
    let f = factors_of row in
    let s = small row in
    let sum = number_of (is_vipd row) raw +ℤ f.bias in
    let b : nat_abs sum ≤ 67505 = omega (arith, abs_add (number_of (is_vipd row) raw) f.bias, number_small (is_vipd row) raw h) in
    omega (arith, abs_mul (pos f.premul) sum, mul-le-mul s.premul_small b)
