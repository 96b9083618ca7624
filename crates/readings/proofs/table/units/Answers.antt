-- The steps of the table's rule, each by its own contract; no step passes its width.
use mathlib.Core.Path.{◌≡◌, ◌∙◌, ap}
use Prim.Native.Nat.{ℕ}
use mathlib.Core.Bool.{Bool}
use native.Mathlib.Omega.{arith}
use lib.IntN.{ℤ, nat_abs, pos, ◌+ℤ◌, ◌*ℤ◌}
use mir.Syntax.{w16, w32, w64}
use mir.Val.{SFits}
use mir.ValLaws.{to_z-of_z}
use Rattle.laws.proofs.Signed.{read}
use Rattle.rounding.specs.Rounding.{nearest, held}
use Rattle.rounding.proofs.Integers.{fits_abs}
use Rattle.readings.specs.Readings.{raw_of}
use Rattle.readings.specs.Table.{factors_of, is_vipd, number_of, above_the_line, nearest_units, engineering_of}
use Rattle.readings.specs.declared.table.Factors.{Factors}
use Rattle.readings.specs.declared.table.Row.{Row}
use Rattle.readings.proofs.Rows.{small, number_small, above_small}
use Rattle.readings.proofs.table.units.Goals as goal

-- what the steps before have, in the table's words
counted : (row : Row) (word : ℕ) (vipd : Bool) (n : ℤ) → SFits w64 n → vipd ≡ is_vipd row → n ≡ number_of vipd (raw_of word)
    → read w64 n ≡ number_of (is_vipd row) (raw_of word)
counted row word vipd n f v e = to_z-of_z w64 n f ∙ e ∙ ap (λ b. number_of b (raw_of word)) v

topped : (row : Row) (word : ℕ) (f : Factors) (n x : ℤ) → SFits w64 x → f ≡ factors_of row → n ≡ number_of (is_vipd row) (raw_of word)
    → x ≡ pos f.premul *ℤ (n +ℤ read w32 f.bias)
    → read w64 x ≡ above_the_line row (raw_of word)
unfolding above_the_line
topped row word f n x s e h g =
    let b : SFits w32 (factors_of row).bias = fits_abs w32 _ (omega (arith, (small row).bias_small)) in
    to_z-of_z w64 x s ∙ g ∙ rw (e, h, to_z-of_z w32 _ b)

pub scaled-above-requires : goal.scaled-above-requires
scaled-above-requires c =
    let row = c.args.row in
    let word = c.args.word in
    let e = ap (λ (f : Factors). f.premul) c.factors_of-f.ensures in
    let n = counted row word c.is_vipd.result c.number-n.result (record { sfits = c.number-n.type_inv }) c.is_vipd.ensures c.number-n.ensures in
    (omega (arith, ap nat_abs n, number_small (is_vipd row) (raw_of word) c.ranges.word.fits), omega (arith, (small row).premul_small))

pub nearest-requires : goal.nearest-requires
nearest-requires c =
    let row = c.args.row in
    let word = c.args.word in
    let e = ap (λ (f : Factors). f.posdiv) c.factors_of-f.ensures in
    let n = counted row word c.is_vipd.result c.number-n.result (record { sfits = c.number-n.type_inv }) c.is_vipd.ensures c.number-n.ensures in
    let x = topped row word c.factors_of-f.result _ c.scaled-above.result (record { sfits = c.scaled-above.type_inv }) c.factors_of-f.ensures n c.scaled-above.ensures in
    (omega (arith, (small row).posdiv_above), omega (arith, ap nat_abs x, above_small row (raw_of word) c.ranges.word.fits))

pub returns : goal.returns
unfolding engineering_of nearest_units
returns c =
    let row = c.args.row in
    let word = c.args.word in
    let d = ap (λ (f : Factors). f.posdiv) c.factors_of-f.ensures in
    let n = counted row word c.is_vipd.result c.number-n.result (record { sfits = c.number-n.type_inv }) c.is_vipd.ensures c.number-n.ensures in
    let x = topped row word c.factors_of-f.result _ c.scaled-above.result (record { sfits = c.scaled-above.type_inv }) c.factors_of-f.ensures n c.scaled-above.ensures in
    to_z-of_z w16 c.held.result (record { sfits = c.held.type_inv })
    ∙ c.held.ensures
    ∙ ap held
    (to_z-of_z w64 c.nearest.result (record { sfits = c.nearest.type_inv })
    ∙ c.nearest.ensures
    ∙ ap (λ x. nearest x c.factors_of-f.result.posdiv) x
    ∙ ap (nearest (above_the_line row (raw_of word))) d)
