-- The read is by the form in force, and its scratch the part that was lent. Assumes nothing.
use Rattle.std.proofs.Common.{ℕ, List, length, ap, ◌∙◌}
use Rattle.reading.specs.Lines.{line_held}
use Rattle.unit.specs.Machine.{heard_of}
use Rattle.handling.specs.Benches.{received_of}
use Rattle.speaking.proofs.Fronts.{untouched}
use Rattle.handling.proofs.received.Goals as goal

pub returns : goal.returns
unfolding received_of
returns c =
    let m = c.args.machine in
    let u = untouched c.within.result c.args.room c.untouched-buffer.result c.within.ensures c.untouched-buffer.ensures in
    let held = c.read_line-heard.ensures.held ∙ ap (line_held m.board.form c.args.bytes.now) u in
    let answer = c.read_line-heard.ensures.answer ∙ ap (λ (s : List ℕ). heard_of c.args.bytes.now (length s) m) u in
    rw (c.answer.ensures, held, ← answer)
