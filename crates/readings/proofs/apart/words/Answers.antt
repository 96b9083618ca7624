-- What is passed stands as the words that were measured.
use mathlib.Core.Path.{◌≡◌, sym, ◌∙◌}
use Prim.Native.Nat.{ℕ}
use native.Mathlib.Omega.{arith}
use borrow.Author.Rules.{rules}
use lib.ListN.{get_or, length, replicate, length-map, length-replicate, get_or-map}
use Rattle.readings.specs.declared.apart.Raw.{Raw}
use Rattle.readings.specs.Readings.{raw_of, raw_words}
use Rattle.readings.proofs.Filling.{begun, turn, ended}
use Rattle.readings.proofs.apart.words.Goals as goal

pub loop-i-init : goal.loop-i-init
unfolding raw_words
loop-i-init c =
    let l : length c.args.raws ≡ 130 = search rules in
    (l, begun 130 (replicate 130 0) (raw_words c.args.raws) (length-map c.args.raws (λ (r : Raw). r.0) ∙ l) (length-replicate {A = ℕ} 130 0))

pub loop-i-preserved : goal.loop-i-preserved
unfolding raw_words
loop-i-preserved c =
    let raws = c.args.raws in
    (c.loop-i.invariant.0, turn 130 (replicate 130 0) (raw_words raws) 0 (get_or raws c.loop-i.i (raw_of 0)).0 c.loop-i.word-items c.loop-i.i c.loop-i.invariant.1 (omega arith) (sym (get_or-map (λ (r : Raw). r.0) raws c.loop-i.i (raw_of 0))))

pub returns : goal.returns
returns c = ended 130 (replicate 130 0) (raw_words c.args.raws) c.loop-i.word-items c.loop-i.i c.loop-i.invariant.1 (omega arith)
