-- The answer from the rest on, after some pairs, is the answer from the start. Assumes nothing.
use Rattle.hexadecimal.proofs.Reading.{turn_short, turn_bad, turn_last, turn_gap, turn_more, two_left, gap_off, three_off}
use Rattle.hexadecimal.specs.Hex.{payload_of}
use Rattle.hexadecimal.specs.Passes.{form_of}
use native.Mathlib.Omega.{arith}
use mathlib.Core.Path.{sym, ap, subst, ◌∙◌}
use Rattle.std.proofs.Common.{◌≡◌, ◌≤◌, length, List, ℕ, take, drop, get_or, ◌+◌, ◌-◌, length-drop}
use Rattle.hexadecimal.proofs.count.Goals as goal

pub returns-in_default : goal.returns-in_default
returns-in_default c =
    let l = c.loop-rest in
    sym (turn_short l.rest.now 0 l.pairs (omega (arith, c.in_default.len_below))) ∙ l.invariant.1

pub returns-in_err-pair : goal.returns-in_err-pair
returns-in_err-pair c =
    let l = c.loop-rest in
    c.from_residual.ensures ∙ sym (turn_bad l.rest.now 0 l.pairs (omega (arith, c.in-len2-up.len_at_least)) (sym c.pair.ensures ∙ c.in_err-pair.was)) ∙ l.invariant.1

pub returns-then-last : goal.returns-then-last
returns-then-last c =
    let l = c.loop-rest in
    let s = l.rest.now in
    sym (turn_last s 0 l.pairs _ (omega (arith, c.in-len2-up.len_at_least, c.if-last.true, two_left s)) (sym c.pair.ensures ∙ c.in_ok-pair.was)) ∙ l.invariant.1

pub returns-in_default-behind-2 : goal.returns-in_default-behind-2
returns-in_default-behind-2 c =
    let l = c.loop-rest in
    let s = l.rest.now in
    let other : get_or (take (length s - 2) (drop 2 s)) 0 0 ≡ 32 → ⊥ = λ e. omega (arith, e) in
    sym (turn_gap s 0 l.pairs (omega (arith, c.in-len2-up.len_at_least, c.in_default-behind.len_at_least, two_left s)) (λ e. other (gap_off s ∙ e))) ∙ l.invariant.1

pub loop-rest-preserved : goal.loop-rest-preserved
loop-rest-preserved c =
    let l = c.loop-rest in
    let s = l.rest.now in
    let some : 1 ≤ length (take (length s - 2) (drop 2 s)) = c.in-32.len_at_least in
    let same : get_or (take (length s - 2) (drop 2 s)) 0 0 ≡ 32 = omega arith in
    let gap : get_or s 2 0 ≡ 32 = sym (gap_off s) ∙ same in
    let more = turn_more s 0 l.pairs _ (omega (arith, c.in-len2-up.len_at_least, some, two_left s)) (sym c.pair.ensures ∙ c.in_ok-pair.was) gap in (
      subst (λ (b : List ℕ). l.pairs + 1 + length b ≤ length c.args.text.now) (sym (three_off s)) (omega (arith, l.invariant.0, length-drop 3 s, c.in-len2-up.len_at_least, some, two_left s)),
      ap (λ (b : List ℕ). form_of (l.pairs + 1) (payload_of b)) (three_off s) ∙ sym more ∙ l.invariant.1,
    )
