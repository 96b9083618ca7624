-- What is passed stands as 0x62 tells it.
use Prim.Native.Nat.{ℕ}
use mathlib.Core.Path.{◌≡◌, sym, ◌∙◌, ap}
use native.Mathlib.Omega.{arith}
use borrow.Author.Rules.{rules}
use lib.ListN.{get_or, length, replicate, length-replicate}
use Rattle.readings.specs.declared.packs.Way.{Way}
use Rattle.readings.specs.Readings.{raw_of}
use Rattle.readings.specs.Packs.{packs, word_by, told_by}
use Rattle.readings.proofs.Filling.{begun, turn, ended}
use Rattle.readings.proofs.PackPlaces.{length_packs_told, told_at}
use Rattle.readings.proofs.apart.packs_told.Goals as goal

pub loop-i-init : goal.loop-i-init
loop-i-init c =
    let l : length c.args.raws ≡ 130 = search rules in
    (l, begun 39 (replicate 39 0) (told_by packs c.args.raws) (length_packs_told c.args.raws l) (length-replicate {A = ℕ} 39 0))

pub loop-i-preserved : goal.loop-i-preserved
loop-i-preserved c =
    let raws = c.args.raws in
    let i = c.loop-i.i in
    let at = told_at raws i (raw_of 0) 0 c.loop-i.invariant.0 (omega arith) in
    let e = c.told.ensures ∙ ap (λ (way : Way). word_by way (get_or raws i (raw_of 0))) c.way_at.ensures in
    (c.loop-i.invariant.0, turn 39 (replicate 39 0) (told_by packs raws) 0 c.told.result c.loop-i.word-items i c.loop-i.invariant.1 (omega arith) (e ∙ sym at))

pub returns : goal.returns
returns c = ended 39 (replicate 39 0) (told_by packs c.args.raws) c.loop-i.word-items c.loop-i.i c.loop-i.invariant.1 (omega arith)
