-- What is passed stands in the units of its fields.
use mathlib.Core.Path.{◌≡◌, sym, ◌∙◌, ap}
use native.Mathlib.Omega.{arith}
use borrow.Author.Rules.{rules}
use lib.IntN.{pos}
use lib.ListN.{get_or, length, replicate, length-replicate}
use Rattle.readings.specs.declared.apart.Engineering.{Engineering}
use Rattle.readings.specs.declared.table.Row.{Row}
use Rattle.readings.specs.declared.table.Row.TheVariants.{ChannelPowe}
use Rattle.readings.specs.Readings.{raw_of}
use Rattle.readings.specs.Table.{engineering_of}
use Rattle.readings.specs.Layout.{POWE, VIP-CH, ◌by◌, layout, converted_by}
use Rattle.readings.proofs.Filling.{begun, turn, ended}
use Rattle.readings.proofs.Places.{length_layout, length_converted, converted_at}
use Rattle.readings.proofs.apart.convert_all.Goals as goal

abbrev none : Engineering
none = record { 0 = pos 0 }

pub loop-i-init : goal.loop-i-init
loop-i-init c =
    let l : length c.args.raws ≡ 130 = search rules in
    (l, begun 122 (replicate 122 none) (converted_by layout c.args.raws) (length_converted layout c.args.raws (omega (arith, length_layout)) ∙ length_layout) (length-replicate {A = Engineering} 122 none))

pub loop-i-preserved : goal.loop-i-preserved
loop-i-preserved c =
    let raws = c.args.raws in
    let i = c.loop-i.i in
    let at = converted_at layout raws i (POWE (VIP-CH 31) by ChannelPowe) (raw_of 0) none (omega (arith, length_layout)) (omega (arith, c.loop-i.invariant.0)) in
    let e = c.convert.ensures ∙ ap (λ (row : Row). engineering_of row (get_or raws i (raw_of 0))) c.row_at.ensures in
    (c.loop-i.invariant.0, turn 122 (replicate 122 none) (converted_by layout raws) none c.convert.result c.loop-i.reading-items i c.loop-i.invariant.1 (omega arith) (e ∙ sym at))

pub returns : goal.returns
returns c = ended 122 (replicate 122 none) (converted_by layout c.args.raws) c.loop-i.reading-items c.loop-i.i c.loop-i.invariant.1 (omega arith)
