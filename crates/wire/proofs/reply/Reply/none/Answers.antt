-- No byte is shown, and the room is 0.
use mathlib.Core.Path.{refl}
use Rattle.wire.specs.Replies.{room, written, reply_of}
use Rattle.wire.proofs.reply.Reply.none.Goals as goal

pub returns : goal.returns
unfolding room written reply_of
returns c = refl
