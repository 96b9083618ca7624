-- One row of words behind the six bytes.
use Rattle.wire.proofs.Room.{after_reply_of}
use Rattle.replies.proofs.Parts.{battery_row}
use Rattle.replies.proofs.Head.engineering_battery.Goals as goal

pub returns : goal.returns
returns c = rw (c.append_packs.ensures, c.longer.ensures, after_reply_of, battery_row)
