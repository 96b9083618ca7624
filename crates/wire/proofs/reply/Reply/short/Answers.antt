-- Five stores into an empty room; a number or 1 is the number with its lowest bit set.
use Prim.Native.Nat.{◌+◌, ◌*◌, ◌/◌}
use mathlib.Core.Path.{◌≡◌}
use native.Mathlib.Omega.{arith}
use lib.Bits.{bit_or, or_step, or_zero_r}
use Rattle.wire.specs.Replies.{room, written, reply_of, reply_code, short}
use Rattle.wire.proofs.reply.Reply.short.Goals as goal

pub returns : goal.returns
unfolding room written reply_of reply_code short
returns c =
    let code = c.args.code in
    let e : bit_or code 1 ≡ code / 2 * 2 + 1 = omega (arith, or_step code 1, or_zero_r (code / 2)) in
    rw e
