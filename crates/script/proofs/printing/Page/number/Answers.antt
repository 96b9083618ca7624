-- The digits that are left, put behind what stands on the page now. Assumes nothing.
use Rattle.std.proofs.Common.{ℕ, ◌≡◌, ◌-◌, ◌%◌, ◌∷◌, [], sym, ap, ◌∙◌, arith}
use Rattle.hexadecimal.specs.Hex.{capital_of}
use Rattle.script.specs.Printing.{page, typed, over, digits_of}
use Rattle.script.proofs.Turns.{turn, digits_turn}
use Rattle.script.proofs.printing.Page.number.Goals as goal

pub loop-left-preserved : goal.loop-left-preserved
loop-left-preserved c =
    let l = c.loop-left in
    let n = c.args.n in
    let now = page l.self.out.now l.self.at in
    let e = c.put.ensures.typed ∙ ap (λ (d : ℕ). typed now (d ∷ [])) (c.capital.ensures ∙ ap (λ (k : ℕ). capital_of (k % 16)) c.over.ensures) in
    record {
      same = c.put.ensures.same_reference ∙ l.invariant.same;
      left = turn now _ (capital_of (over (l.left - 1) n % 16) ∷ []) (digits_of (l.left - 1) n) (digits_of l.left n) e (digits_turn l.left n (omega arith)) ∙ l.invariant.left;
    }

pub returns-clause-typed : goal.returns-clause-typed
unfolding typed digits_of
returns-clause-typed c =
    let l = c.loop-left in
    let e : l.left ≡ 0 = omega arith in
    sym (ap (λ (k : ℕ). typed (page l.self.out.now l.self.at) (digits_of k c.args.n)) e) ∙ l.invariant.left
