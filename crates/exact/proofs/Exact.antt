-- How an engineering reading lies to the exact value of Table 3-12, and that a larger raw value never gives a smaller
-- one: the laws of the nearest whole number, at the numbers of each row. Assumes nothing.
use lib.IntN.{◌+ℤ◌}
use Rattle.rounding.proofs.Exactly as exactly
use Rattle.readings.specs.declared.apart.Raw.{Raw}
use Rattle.readings.specs.declared.table.Row.{Row}
use Rattle.readings.specs.Table.{factors_of, is_vipd, number_of, above_the_line, below_the_line, nearest_units, engineering_of}
use Rattle.readings.proofs.Rows.{small}
use Rattle.exact.specs.Exact.{ExactReading, NeverSmaller}
use Rattle.exact.proofs.Fraction.{held_nearest}
use Rattle.exact.proofs.Words.{at_half_word}

pub exact_reading : (row : Row) (raw : Raw) → ExactReading row raw
unfolding nearest_units engineering_of
exact_reading row raw =
    let n = above_the_line row raw in
    let d = below_the_line row in
    let h = (small row).posdiv_above in
    record {
      held_nearest = held_nearest n d h;
      at_half = λ t b. rw (exactly.not_held n d h t b) (at_half_word row raw);
    }

pub never_smaller : (row : Row) (a b : Raw) → NeverSmaller row a b
unfolding nearest_units engineering_of above_the_line
never_smaller row a b =
    let f = factors_of row in
    let x = number_of (is_vipd row) a in
    let y = number_of (is_vipd row) b in
    record {
      not_smaller = λ t.
          let s = exactly.times_rises f.premul (x +ℤ f.bias) (y +ℤ f.bias) (exactly.sum_rises f.bias x y t) in
          exactly.held_rises (nearest_units row a) (nearest_units row b)
          (exactly.nearest_rises (below_the_line row) (small row).posdiv_above (above_the_line row a) (above_the_line row b) s);
    }
