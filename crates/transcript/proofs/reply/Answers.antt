-- The room is enough for every reply, so all of its digits are there to be put. Assumes nothing.
use mathlib.Core.Path.{◌≡◌, ap, sym, ◌∙◌}
use Prim.Native.Nat.{ℕ}
use lib.ListN.{length, take, replicate, length-replicate}
use Rattle.wire.specs.Replies.{shown}
use Rattle.script.specs.Printing.{page, typed}
use Rattle.transcript.proofs.Digits.{shown_short, digits_written, digits_fit}
use borrow.Author.Rules.{rules}
use Rattle.transcript.proofs.reply.Goals as goal

pub unwrap-n-requires : goal.unwrap-n-requires
unfolding shown
unwrap-n-requires c =
    let a = c.args in
    let whole : length a.r.bytes ≡ 274 = search rules in
    let told = rw c.first.ensures at c.write.ensures.answer in
    rw told (digits_fit (take a.r.len a.r.bytes) (replicate 1024 0) (shown_short a.r.len a.r.bytes whole) (length-replicate {A = ℕ} 1024 0))

pub returns-clause-typed : goal.returns-clause-typed
unfolding shown
returns-clause-typed c =
    let a = c.args in
    let whole : length a.r.bytes ≡ 274 = search rules in
    let told = rw c.first.ensures at c.write.ensures.answer in
    let held = rw c.first.ensures at c.write.ensures.held in
    let shown_bytes = digits_written (take a.r.len a.r.bytes) (replicate 1024 0) (shown_short a.r.len a.r.bytes whole) (length-replicate {A = ℕ} 1024 0) _ (sym told ∙ c.unwrap-n.ensures) in
    rw (c.text.ensures.typed, c.first-2.ensures, held) (ap (typed (page a.line.now.out.now a.line.now.at)) shown_bytes)
