-- Five words, the channel words and the other words are one row behind the six bytes.
use Rattle.wire.proofs.Room.{after_reply_of}
use Rattle.readings.specs.Readings.{raw_words}
use Rattle.replies.proofs.Parts.{after_words, take_again, housekeeping_row_lem}
use Rattle.replies.proofs.Head.raw_housekeeping.Goals as goal

pub returns : goal.returns
returns c =
    let a = c.args in
    rw (
      c.append_raw.ensures,
      c.append_words.ensures,
      c.append_raw-front.ensures,
      c.longer.ensures,
      after_reply_of,
      after_words,
      after_words,
      c.channel_words-four.ensures,
      take_again a.count (raw_words a.raws),
      housekeeping_row_lem,
    )
