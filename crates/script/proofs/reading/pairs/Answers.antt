-- The pairs that are left, counted behind those so far and stored behind what they stored. Assumes nothing.
use Rattle.std.proofs.Common.{◌≡◌, ◌+◌, ◌*◌, ◌/◌, length, drop, refl, ap, sym, ◌∙◌, arith, Some}
use lib.Seq.{sets}
use Rattle.laws.proofs.Lists.{sets_turn}
use Rattle.script.specs.Reading.{sound}
use Rattle.script.proofs.Turns.{sound_bad, sound_good, count_bad, count_full, count_good, count_end, count_half, sound_end, sets_out}
use Rattle.script.proofs.reading.pairs.Goals as goal

pub returns-in_err-b-clause-answer : goal.returns-in_err-b-clause-answer
returns-in_err-b-clause-answer c =
    let l = c.loop-k in
    let w = sym c.pair.ensures ∙ c.in_err-b.was in
    c.from_residual.ensures ∙ sym (count_bad c.args.text.now (2 * l.k) (omega arith) l.k (length c.args.out.now) w) ∙ l.invariant.counted

pub returns-in_err-b-clause-held : goal.returns-in_err-b-clause-held
returns-in_err-b-clause-held c =
    let l = c.loop-k in
    let w = sym c.pair.ensures ∙ c.in_err-b.was in
    sym (ap (sets l.out l.k) (sound_bad c.args.text.now (2 * l.k) (omega arith) w)) ∙ l.invariant.held

pub returns-then-out-k-clause-answer : goal.returns-then-out-k-clause-answer
returns-then-out-k-clause-answer c =
    let l = c.loop-k in
    let w = sym c.pair.ensures ∙ c.in_ok-b.was in
    sym (count_full c.args.text.now (2 * l.k) (omega arith) l.k (length c.args.out.now) c.in_ok-b.b w (omega arith)) ∙ l.invariant.counted

pub returns-then-out-k-clause-held : goal.returns-then-out-k-clause-held
returns-then-out-k-clause-held c =
    let l = c.loop-k in
    sym (sets_out l.out l.k (sound (drop (2 * l.k) c.args.text.now)) (omega arith)) ∙ l.invariant.held

pub loop-k-preserved : goal.loop-k-preserved
loop-k-preserved c =
    let l = c.loop-k in
    let s = c.args.text.now in
    let w = sym c.pair.ensures ∙ c.in_ok-b.was in
    let e : 2 * (l.k + 1) ≡ 2 * l.k + 2 = omega arith in
    record {
      counted = rw e (sym (count_good s (2 * l.k) (omega arith) l.k (length c.args.out.now) c.in_ok-b.b w (omega arith)) ∙ l.invariant.counted);
      held = rw e (sets_turn l.out l.k (sound_good s (2 * l.k) (omega arith) c.in_ok-b.b w) refl ∙ l.invariant.held);
    }

pub returns-then-n-text-clause-answer : goal.returns-then-n-text-clause-answer
returns-then-n-text-clause-answer c =
    let l = c.loop-k in
    sym (count_half l.k (length c.args.out.now) c.args.text.now (2 * l.k) (omega arith)) ∙ l.invariant.counted

pub returns-then-n-text-clause-held : goal.returns-then-n-text-clause-held
returns-then-n-text-clause-held c =
    let l = c.loop-k in
    sym (ap (sets l.out l.k) (sound_end c.args.text.now (2 * l.k) (omega arith) (omega arith))) ∙ l.invariant.held

pub returns-clause-answer : goal.returns-clause-answer
returns-clause-answer c =
    let l = c.loop-k in
    let s = c.args.text.now in
    let e : length s / 2 ≡ l.k = omega arith in
    ap Some e ∙ sym (count_end l.k (length c.args.out.now) s (2 * l.k) (omega arith)) ∙ l.invariant.counted

pub returns-clause-held : goal.returns-clause-held
returns-clause-held c =
    let l = c.loop-k in
    sym (ap (sets l.out l.k) (sound_end c.args.text.now (2 * l.k) (omega arith) (omega arith))) ∙ l.invariant.held
