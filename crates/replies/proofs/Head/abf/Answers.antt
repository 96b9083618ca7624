-- The six bytes, and the same byte twice.
use Rattle.wire.proofs.Room.{after_reply_of}
use Rattle.replies.proofs.Parts.{abf_parts}
use Rattle.replies.proofs.Head.abf.Goals as goal

pub returns : goal.returns
returns c = rw (
  c.append_bytes.ensures,
  c.longer.ensures,
  after_reply_of,
  c.abf_byte-told.ensures,
  abf_parts,
)
