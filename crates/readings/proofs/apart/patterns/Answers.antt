-- What is passed stands as the words on the wire.
use mathlib.Core.Path.{◌≡◌, sym, ◌∙◌}
use Prim.Native.Nat.{ℕ}
use native.Mathlib.Omega.{arith}
use borrow.Author.Rules.{rules}
use lib.IntN.{pos}
use lib.ListN.{get_or, length, replicate, length-map, length-replicate, get_or-map}
use Rattle.wire.specs.Numbers.{pattern}
use Rattle.readings.specs.declared.apart.Engineering.{Engineering}
use Rattle.readings.specs.Readings.{engineering_words}
use Rattle.readings.proofs.Filling.{begun, turn, ended}
use Rattle.readings.proofs.apart.patterns.Goals as goal

pub loop-i-init : goal.loop-i-init
unfolding engineering_words pattern
loop-i-init c =
    let l : length c.args.readings ≡ 122 = search rules in
    (l, begun 122 (replicate 122 0) (engineering_words c.args.readings) (length-map c.args.readings (λ (r : Engineering). pattern 2 r.0) ∙ l) (length-replicate {A = ℕ} 122 0))

pub loop-i-preserved : goal.loop-i-preserved
unfolding engineering_words pattern
loop-i-preserved c =
    let readings = c.args.readings in
    let none : Engineering = record { 0 = pos 0 } in
    (c.loop-i.invariant.0, turn 122 (replicate 122 0) (engineering_words readings) 0 c.pattern_of.result c.loop-i.word-items c.loop-i.i c.loop-i.invariant.1 (omega arith) (c.pattern_of.ensures ∙ sym (get_or-map (λ (r : Engineering). pattern 2 r.0) readings c.loop-i.i none)))

pub returns : goal.returns
returns c = ended 122 (replicate 122 0) (engineering_words c.args.readings) c.loop-i.word-items c.loop-i.i c.loop-i.invariant.1 (omega arith)
