-- The first i values are the first i numbers from the place on.
use mathlib.Core.Path.{ap, ◌∙◌}
use native.Mathlib.Omega.{arith}
use lib.ListN.{drop, length-replicate}
use Rattle.image.proofs.Reading.{begun, one_more_lem, filled, number_place}
use Rattle.image.proofs.numbers.Goals as goal

pub loop-i-init : goal.loop-i-init
loop-i-init g c =
    let t = g.T.Travels in
    begun t.meaning t.WIDTH g.row.N (drop c.args.at c.args.image.now) _ (length-replicate g.row.N c.read_at-values.result)

pub loop-i-preserved : goal.loop-i-preserved
loop-i-preserved g c =
    let t = g.T.Travels in
    let l = c.loop-i in
    let image = c.args.image.now in
    let e = rw c.WIDTH.ensures at c.read_at.ensures in
    one_more_lem t.meaning t.WIDTH g.row.N (drop c.args.at image) l.value-items l.i _ l.invariant (omega arith) (e ∙ ap t.meaning (number_place t.WIDTH c.args.at l.i image))

pub returns : goal.returns
returns g c =
    let t = g.T.Travels in
    let l = c.loop-i in
    filled t.meaning t.WIDTH g.row.N (drop c.args.at c.args.image.now) l.value-items l.i l.invariant c.loop-i-test.false
