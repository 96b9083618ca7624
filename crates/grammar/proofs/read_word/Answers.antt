-- The eight digits are those of the part from the place on. Assumes nothing.
use native.Mathlib.Omega.{arith}
use Prim.Native.Nat.{◌+◌}
use mathlib.Core.Path.{◌≡◌, sym, ap, ◌∙◌}
use lib.ListN.{take, drop}
use Rattle.std.specs.Prelude.{Some, None}
use Rattle.hexadecimal.specs.Hex.{word_of}
use Rattle.grammar.proofs.Refusals.{with_number}
use Rattle.grammar.proofs.Words.{eight, seen_word, room}
use Rattle.grammar.proofs.read_word.Goals as goal

pub returns-in_err-value : goal.returns-in_err-value
returns-in_err-value c =
    let a = c.args in
    let none : None ≡ word_of (take 8 (drop a.at a.s.now)) = rw (c.first.ensures, c.rest.ensures) at c.in_err-value.ensures.value in
    rw c.from_residual.ensures (with_number (ap (seen_word (a.at + 8)) none ∙ sym (eight a.s.now a.at)))

pub overflow_add-result : goal.overflow_add-result
overflow_add-result c =
    let a = c.args in
    let some : Some c.in_ok-value.value ≡ word_of (take 8 (drop a.at a.s.now)) = rw (c.first.ensures, c.rest.ensures) at c.in_ok-value.ensures.value in
    omega (arith, room a.s.now a.at _ (sym some))

pub returns : goal.returns
returns c =
    let a = c.args in
    let some : Some c.in_ok-value.value ≡ word_of (take 8 (drop a.at a.s.now)) = rw (c.first.ensures, c.rest.ensures) at c.in_ok-value.ensures.value in
    with_number (ap (seen_word (a.at + 8)) some ∙ sym (eight a.s.now a.at))
