-- What is due, laid into the part that was lent. Assumes nothing.
use Rattle.std.proofs.Common.{ℕ, List, length, ap, ◌∙◌}
use Rattle.hexadecimal.specs.Hex.{laid}
use Rattle.framing.specs.Framing.{framed_of}
use Rattle.unit.specs.Machine.{due_of}
use Rattle.looking.specs.Looking.{framing_line}
use Rattle.speaking.proofs.Fronts.{untouched}
use Rattle.looking.proofs.framed.Goals as goal

pub returns : goal.returns
unfolding framing_line
returns c =
    let u = untouched c.within.result c.args.room c.untouched-buffer.result c.within.ensures c.untouched-buffer.ensures in
    let held = c.frame-framed.ensures.held ∙ ap (laid (due_of c.args.m)) u in
    let answer = c.frame-framed.ensures.answer ∙ ap (λ (s : List ℕ). framed_of (due_of c.args.m) (length s)) u in
    rw (c.framed.ensures, held, answer)
