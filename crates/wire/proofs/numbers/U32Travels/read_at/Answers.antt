-- The bytes found spell the number that stands there.
use mathlib.Core.Path.{◌∙◌}
use mir.Syntax.{w32}
use lib.ListN.{drop}
use Rattle.wire.proofs.LittleEndian.{bytes_behind, read_number_lem}
use Rattle.wire.proofs.numbers.U32Travels.read_at.Goals as goal

pub returns : goal.returns
returns c =
    let s = c.args.s.now in
    c.from_le_bytes.ensures
    ∙ read_number_lem w32 c.bytes_at.result (drop c.args.at s) (bytes_behind c.args.at s (λ i. (c.type_inv.s i).fits)) c.bytes_at.ensures
