-- What is shown, as far as the buffer goes, and 0xFF behind it.
use mathlib.Core.Path.{◌≡◌, refl, ◌∙◌}
use native.Mathlib.Omega.{arith}
use borrow.Author.Rules.{rules}
use lib.ListN.{length, take}
use lib.Seq.{length-take-le}
use Rattle.wire.proofs.Room.{filled, then_filled}
use Rattle.wire.proofs.reply.Reply.fill.Goals as goal

pub returns : goal.returns
returns c =
    let r = c.args.self in
    let n = length c.args.out.now in
    let count = c.min-count.result in
    let l : length r.bytes ≡ 274 = search rules in
    let p : c.copy_from_slice.new.self ≡ take count r.bytes = c.copy_from_slice.ensures.after in
    let k : length c.copy_from_slice.new.self ≡ count = rw p (length-take-le count r.bytes (omega arith)) in
    then_filled n count _ _ c.args.out.now k refl (omega arith) (c.fill.ensures.after (λ y h. h))
    ∙ rw p (filled r n count l (omega arith))
