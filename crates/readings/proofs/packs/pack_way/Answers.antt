-- Part by part of a pack.
use Prim.Native.Nat.{◌+◌, ◌-◌}
use mathlib.Core.Path.{◌≡◌, sym, ap, ◌∙◌}
use native.Mathlib.Omega.{arith}
use Rattle.readings.specs.declared.packs.Way.TheVariants.{ByRow}
use Rattle.readings.specs.Packs.{pack_way}
use Rattle.readings.proofs.PackPlaces.{vipd_ways, cell_ways, curve_ways}
use Rattle.readings.proofs.packs.pack_way.Goals as goal

pub returns-then-word-lt3 : goal.returns-then-word-lt3
returns-then-word-lt3 c = ap ByRow c.vip_row.ensures ∙ sym (vipd_ways c.args.word (omega arith))

pub returns-then-word-eq3 : goal.returns-then-word-eq3
unfolding pack_way
returns-then-word-eq3 c = sym (ap pack_way c.if-word-eq3.true)

pub returns-then-word-lt8 : goal.returns-then-word-lt8
returns-then-word-lt8 c =
    let word = c.args.word in
    let e : word ≡ 4 + (word - 4) = omega arith in
    sym (ap pack_way e ∙ cell_ways (word - 4) (omega arith))

pub returns-then-word-eq8 : goal.returns-then-word-eq8
unfolding pack_way
returns-then-word-eq8 c = sym (ap pack_way c.if-word-eq8.true)

pub returns : goal.returns
returns c =
    let word = c.args.word in
    let e : word ≡ 9 + (word - 9) = omega arith in
    sym (ap pack_way e ∙ curve_ways (word - 9))
