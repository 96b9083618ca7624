-- The 5 bytes and then a 0.
use mathlib.Core.Path.{refl}
use Rattle.wire.specs.Numbers.{bytes_of}
use Rattle.wire.specs.Replies.{laid_out}
use Rattle.wire.proofs.Room.{after_reply_of}
use Rattle.replies.specs.Layouts.{short_reply}
use Rattle.replies.proofs.Head.longer.Goals as goal

pub returns : goal.returns
unfolding short_reply laid_out bytes_of
returns c = rw (c.append_bytes.ensures, c.short.ensures, after_reply_of) refl
