-- One row of words behind the six bytes.
use Rattle.wire.proofs.Room.{after_reply_of}
use Rattle.readings.specs.Readings.{raw_words}
use Rattle.replies.proofs.Parts.{take_again, battery_row}
use Rattle.replies.proofs.Head.raw_battery.Goals as goal

pub returns : goal.returns
returns c =
    let a = c.args in
    rw (c.append_raw.ensures, c.longer.ensures, after_reply_of, take_again a.count (raw_words a.raws), battery_row)
