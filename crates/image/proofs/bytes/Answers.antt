-- After each turn the image begins with the bytes of the ids walked so far. Assumes nothing.
use mathlib.Core.Path.{refl}
use native.Mathlib.Omega.{arith}
use Rattle.image.proofs.Writing.{nothing_yet, whole, fits, laid}
use Rattle.image.proofs.bytes.Goals as goal

pub loop-place-init : goal.loop-place-init
loop-place-init c = nothing_yet c.args.s _ refl

pub put-requires : goal.put-requires
put-requires c =
    let l = c.loop-place in
    fits c.args.s l.image l.at l.place c.id_at.result c.parameter_bytes-v.result c.parameter_bytes-v.ensures l.invariant (omega arith) c.id_at.ensures

pub overflow_add-at : goal.overflow_add-at
overflow_add-at c =
    let l = c.loop-place in
    omega (arith, l.invariant.sized, (fits c.args.s l.image l.at l.place c.id_at.result c.parameter_bytes-v.result c.parameter_bytes-v.ensures l.invariant (omega arith) c.id_at.ensures).1)

pub loop-place-preserved : goal.loop-place-preserved
loop-place-preserved c =
    let l = c.loop-place in
    laid c.args.s l.image l.at l.place c.id_at.result c.parameter_bytes-v.result c.parameter_bytes-v.ensures l.invariant (omega arith) c.id_at.ensures _ c.put.ensures

pub returns : goal.returns
returns c =
    let l = c.loop-place in
    whole c.args.s l.image l.at l.place l.invariant (omega arith)
