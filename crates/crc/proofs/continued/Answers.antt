-- The checksum of what is left, from the remainder so far, is the checksum of the whole. Assumes nothing.
use mathlib.Core.Path.{sym, ap, ◌∙◌}
use native.Mathlib.Omega.{arith}
use Rattle.laws.proofs.Lists.{drop_step, drop_end}
use Rattle.crc.specs.Division.{continued_of}
use Rattle.crc.proofs.continued.Goals as goal

pub loop-b-preserved : goal.loop-b-preserved
unfolding continued_of
loop-b-preserved c =
    let l = c.loop-b in
    rw (c.divide_byte-left.ensures, c.from.ensures)
    (sym (ap (continued_of l.left) (drop_step c.args.bytes.now l.b-index (omega arith))) ∙ l.invariant)

pub returns : goal.returns
unfolding continued_of
returns c =
    let l = c.loop-b in
    sym (ap (continued_of l.left) (drop_end c.args.bytes.now l.b-index (omega arith))) ∙ l.invariant
