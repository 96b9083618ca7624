-- After i turns the first i words stand in the room as raw readings.
use mathlib.Core.Path.{◌≡◌, sym, ap, ◌∙◌}
use mathlib.Core.List.{map}
use native.Mathlib.Omega.{arith}
use Rattle.std.proofs.lemmas.List.{length-take, get_or-take}
use lib.ListN.{get_or, length, take, length-map, length-replicate, get_or-map}
use Rattle.laws.proofs.Lists.{paste_more}
use Rattle.readings.specs.declared.apart.Raw.{Raw}
use Rattle.readings.specs.Readings.{raw_of, none_measured}
use Rattle.readings.proofs.Filling.{filled}
use Rattle.readings.proofs.apart.measured.Goals as goal

pub loop-i-preserved : goal.loop-i-preserved
loop-i-preserved c =
    let k = c.loop-i in
    let ws = c.args.words.now in
    let t = length-take c.min.result ws in
    let n = c.min.ensures in
    let l = length-map ws raw_of in
    let d : length none_measured ≡ 130 = length-replicate {A = Raw} 130 (raw_of 0) in
    let e : get_or (take c.min.result ws) k.i 0 ≡ get_or ws k.i 0 = get_or-take c.min.result ws k.i 0 (omega (arith, t)) in
    paste_more none_measured (map raw_of ws) (raw_of 0) 0 k.i k.i (raw_of (get_or (take c.min.result ws) k.i 0)) k.raws k.invariant (omega arith) (ap raw_of e ∙ sym (get_or-map raw_of ws k.i 0)) (omega (arith, n, t)) (omega (arith, n, t))

pub returns : goal.returns
returns c =
    let k = c.loop-i in
    let ws = c.args.words.now in
    let t = length-take c.min.result ws in
    let n = c.min.ensures in
    filled ws k.raws k.i (omega (arith, n, t)) k.invariant
