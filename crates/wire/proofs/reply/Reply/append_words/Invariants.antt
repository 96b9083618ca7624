-- After i turns the first i words stand behind what the reply shows, two bytes each.
use Prim.Native.Nat.{◌*◌}
use mathlib.Core.Path.{◌≡◌}
use lib.Seq.{paste}
use Rattle.wire.specs.Replies.{words}
use Rattle.wire.proofs.reply.Reply.append_words.Given as goal

abbrev pub invariant-loop-i : goal.invariant-loop-i
invariant-loop-i l = l.bytes ≡ paste l.initial.bytes l.start (words l.ws) (2 * l.i)
