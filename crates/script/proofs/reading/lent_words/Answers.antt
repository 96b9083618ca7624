-- The words that are left, stored behind those so far. Assumes nothing.
use Rattle.std.proofs.Common.{◌≡◌, ℕ, ◌-◌, ◌+◌, ◌*◌, drop, get_or, ap, sym, ◌∙◌, arith}
use lib.Seq.{sets}
use Rattle.laws.proofs.Lists.{sets_turn}
use Rattle.script.specs.Reading.{words_of}
use Rattle.script.proofs.Turns.{covering, words_turn, words_length, words_end}
use Rattle.script.proofs.reading.lent_words.Goals as goal

pub loop-i-init : goal.loop-i-init
loop-i-init c = covering _ (words_of 512 c.args.bytes.now) (words_length 512 c.args.bytes.now)

pub loop-i-preserved : goal.loop-i-preserved
loop-i-preserved c =
    let l = c.loop-i in
    let b = c.args.bytes.now in
    let left : ℕ = 512 - l.i in
    let e : 512 - (l.i + 1) ≡ left - 1 = omega arith in
    let f : 2 * (l.i + 1) ≡ 2 * l.i + 2 = omega arith in
    let v : c.byte.result * 256 + c.byte-in-loop-i.result ≡ get_or b (2 * l.i) 0 * 256 + get_or b (2 * l.i + 1) 0 = rw (c.byte.ensures, c.byte-in-loop-i.ensures) in
    rw (e, f) (sets_turn l.ws l.i (words_turn left b (2 * l.i) (omega arith)) v ∙ l.invariant)

pub returns : goal.returns
returns c =
    let l = c.loop-i in
    sym (ap (sets l.ws l.i) (words_end (512 - l.i) (drop (2 * l.i) c.args.bytes.now) (omega arith))) ∙ l.invariant
