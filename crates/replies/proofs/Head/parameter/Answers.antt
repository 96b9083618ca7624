-- The six bytes, the id and the value stand behind each other.
use mathlib.Core.Path.{refl}
use mir.Syntax.{w16}
use Rattle.wire.proofs.LittleEndian.{to_le_bytes_lem}
use Rattle.wire.proofs.Room.{after_reply_of}
use Rattle.replies.proofs.Parts.{parameter_parts}
use Rattle.replies.proofs.Head.parameter.Goals as goal

pub returns : goal.returns
returns c =
    rw (
      c.append_bytes-2.ensures,
      c.first.ensures,
      c.append_bytes.ensures,
      c.longer.ensures,
      after_reply_of,
      after_reply_of,
      c.to_le_bytes-id_bytes.ensures,
      to_le_bytes_lem w16 c.args.id,
      parameter_parts,
    )
    refl
