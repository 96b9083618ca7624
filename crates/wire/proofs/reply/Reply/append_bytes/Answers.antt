-- The bytes that fit stand behind what the reply shows.
use Prim.Native.Nat.{◌+◌, ◌-◌}
use mathlib.Core.Path.{◌≡◌, refl}
use native.Mathlib.Omega.{arith}
use borrow.Author.Rules.{rules}
use lib.ListN.{length}
use Rattle.wire.proofs.Room.{appended, laid_over}
use Rattle.wire.specs.Replies.{room}
use Rattle.wire.proofs.reply.Reply.append_bytes.Goals as goal

pub returns : goal.returns
unfolding room
returns c =
    let r = c.args.self in
    let start = c.min-start.result in
    let count = c.min-count.result in
    let l : length r.bytes ≡ 274 = search rules in
    let b = laid_over r.bytes c.args.xs.now c.copy_from_slice.new.self start count (start + count - start) (omega arith) c.copy_from_slice.ensures.after in
    appended r c.args.xs.now start count (start + count) _ l c.min-start.ensures c.min-count.ensures refl b
