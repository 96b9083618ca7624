-- Each of the five is below 256, so nothing of it is dropped.
use mathlib.Core.Path.{refl, ap}
use native.Mathlib.Omega.{arith}
use Rattle.wire.specs.Numbers.{bytes_of}
use Rattle.wire.specs.Replies.{reply_of, reply_code, short, laid_out}
use Rattle.wire.proofs.LittleEndian.{cons_eq}
use Rattle.replies.specs.Layouts.{short_reply}
use Rattle.replies.proofs.Head.short.Goals as goal

pub returns : goal.returns
unfolding short_reply laid_out bytes_of short reply_code
returns c =
    rw c.short.ensures
    (ap reply_of (cons_eq (omega arith) (cons_eq (omega arith) (cons_eq (omega arith) (cons_eq (omega arith) (cons_eq (omega arith) refl))))))
