-- The raw words whose exact value lies a whole half from the next unit, row by row. Where PosDiv is odd there are none.
-- Of each other row PreMul is g (2 l + 1) and PosDiv is g 2 m, and 2 j + 1 is an inverse of 2 l + 1 at 2 m. Assumes
-- nothing.
use Prim.Native.Nat.{ℕ, ◌+◌, ◌-◌, ◌*◌, ◌%◌, ◌<◌}
use mathlib.Core.Path.{◌≡◌, refl, ap, ◌∙◌}
use mathlib.Core.Logic.Iff
use mathlib.Core.Logic.{◌↔◌}
use mathlib.Core.Bool.{true, cond}
use native.Mathlib.Omega.{arith}
use lib.Dec.{ltb, lit<}
use lib.IntN.{pos, nat_abs, ◌+ℤ◌, ◌-ℤ◌, +ℤ_idr}
use Rattle.laws.proofs.Cases.{cases}
use Rattle.wire.specs.Numbers.{signed}
use Rattle.rounding.specs.Rounding.{distance}
use Rattle.rounding.proofs.Integers.{abs_mul, abs_sub, abs_minus}
use Rattle.rounding.proofs.Halves.{half_shared}
use Rattle.readings.specs.declared.apart.Raw.{Raw}
use Rattle.readings.specs.declared.table.Row.{Row}
use Rattle.readings.specs.declared.table.Row.TheVariants.{VoltBrdsup, PduTemp, PiuTemp, VipVolt, VipCurr, ChannelCurr, VipPowe, ChannelPowe, VoltCell, BatTemp1, VoltMppt, CurrMppt}
use Rattle.readings.specs.Table.{factors_of, is_vipd, number_of, above_the_line, below_the_line, nearest_units}
use Rattle.readings.proofs.Rows.{small}
use Rattle.exact.specs.Exact.{halves_of, IsHalf}

-- ---- Raw + Bias without its sign, and what stands above the line
abbrev size : Row → Raw → ℕ
size row raw = nat_abs (number_of (is_vipd row) raw +ℤ (factors_of row).bias)

above_size : (row : Row) (raw : Raw) → nat_abs (above_the_line row raw) ≡ (factors_of row).premul * size row raw
unfolding above_the_line
above_size row raw = abs_mul (pos (factors_of row).premul) (number_of (is_vipd row) raw +ℤ (factors_of row).bias)

-- the number of a VIPD's word lies as far from 0 as the word from 0, or from 65536
abbrev turns : ℕ → ℕ
turns x = cond (ltb x 32768) 0 1

vipd_size : (raw : Raw) → nat_abs (number_of true raw +ℤ pos 0) ≡ (raw.0 - 65536 * turns raw.0) + (65536 * turns raw.0 - raw.0)
unfolding number_of signed
vipd_size raw =
    let x = raw.0 in
    cases (ltb x 32768)
    (λ t. rw t (omega arith))
    (λ t. rw t (ap nat_abs (+ℤ_idr (pos x -ℤ pos 65536)) ∙ abs_minus x 65536))

-- ---- the rows
abbrev pub AtHalf : Row → Raw → Type 0
AtHalf row raw = 2 * distance (nearest_units row raw) (above_the_line row raw) (below_the_line row) ≡ below_the_line row

shared : (row : Row) (raw : Raw) (g m l j k : ℕ) → 0 < g → (2 * l + 1) * (2 * j + 1) ≡ 1 + 2 * m * k
    → (factors_of row).premul ≡ g * (2 * l + 1) → below_the_line row ≡ g * (2 * m)
    → AtHalf row raw ↔ ((size row raw + m) % (2 * m) ≡ 0)
unfolding nearest_units
shared row raw g m l j k h inverse p d =
    let e : nat_abs (above_the_line row raw) ≡ g * (2 * l + 1) * size row raw = above_size row raw ∙ ap (λ (t : ℕ). t * size row raw) p in
    rw d (half_shared g m l j k (size row raw) h inverse (above_the_line row raw) e (rw d at (small row).posdiv_above))

pub at_half_word : (row : Row) (raw : Raw) → AtHalf row raw ↔ IsHalf (halves_of row) raw
unfolding number_of
at_half_word VoltBrdsup raw = (λ t. omega arith, λ t. absurd t)
at_half_word PduTemp raw = (λ t. omega arith, λ t. absurd t)
at_half_word PiuTemp raw = (λ t. omega arith, λ t. absurd t)
at_half_word VipVolt raw = Iff.trans (shared VipVolt raw 1 64 62 42 83 (lit< tt) refl refl refl) (omega (arith, vipd_size raw))
at_half_word VipCurr raw = Iff.trans (shared VipCurr raw 5 1024 312 840 513 (lit< tt) refl refl refl) (omega (arith, vipd_size raw))
at_half_word ChannelCurr raw = Iff.trans (shared ChannelCurr raw 5 2048 312 1864 569 (lit< tt) refl refl refl) (omega (arith, vipd_size raw))
at_half_word VipPowe raw = Iff.trans (shared VipPowe raw 25 64 62 42 83 (lit< tt) refl refl refl) (omega (arith, vipd_size raw))
at_half_word ChannelPowe raw = Iff.trans (shared ChannelPowe raw 25 128 62 106 104 (lit< tt) refl refl refl) (omega (arith, vipd_size raw))
at_half_word VoltCell raw = Iff.trans (shared VoltCell raw 1 1 1 0 1 (lit< tt) refl refl refl) (omega (arith, abs_sub raw.0 512))
at_half_word BatTemp1 raw = Iff.trans (shared BatTemp1 raw 1 2 37 1 56 (lit< tt) refl refl refl) (omega (arith, abs_sub raw.0 1969))
at_half_word VoltMppt raw = Iff.trans (shared VoltMppt raw 1 64 1312 32 1333 (lit< tt) refl refl refl) (omega arith)
at_half_word CurrMppt raw = Iff.trans (shared CurrMppt raw 1 96 312 72 472 (lit< tt) refl refl refl) (omega (arith, abs_sub raw.0 41))
