-- The bytes stand at the place where what is left of the text begins with them. Assumes nothing.
use native.Mathlib.Omega.{arith}
use mathlib.Core.Path.{sym, ◌∙◌}
use Rattle.grammar.proofs.Refusals.{with_number}
use Rattle.grammar.proofs.Bytes.{text_begins, text_not}
use Rattle.grammar.proofs.literal.Goals as goal

pub returns-then-starts_with : goal.returns-then-starts_with
returns-then-starts_with c =
    let a = c.args in
    let whole = rw c.rest.ensures at c.starts_with.ensures.value in
    with_number (text_begins a.wanted.now a.s.now a.at (λ k. omega (arith, c.type_inv.wanted k)) (sym whole ∙ c.if-starts_with.true))

pub returns-else-starts_with : goal.returns-else-starts_with
returns-else-starts_with c =
    let a = c.args in
    let whole = rw c.rest.ensures at c.starts_with.ensures.value in
    with_number (text_not a.wanted.now a.s.now a.at (λ k. omega (arith, c.type_inv.wanted k)) (sym whole ∙ c.if-starts_with.false))
