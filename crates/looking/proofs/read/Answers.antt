-- The bytes that were lent are what is found. Assumes nothing.
use Rattle.std.proofs.Common.{sym, ap, ◌∙◌}
use Rattle.wire.specs.Replies.{found}
use Rattle.speaking.proofs.Fronts.{lent}
use Rattle.looking.specs.Looking.{read_line}
use Rattle.looking.proofs.read.Goals as goal

pub returns : goal.returns
unfolding read_line
returns c =
    let n = lent c.within.result c.args.count c.untouched-buffer.result c.within.ensures c.untouched-buffer.ensures in
    let e = c.bus_read.ensures ∙ ap (found c.args.m.board.reply) (sym n ∙ c.within.ensures) in
    rw (c.bytes_line.ensures, e)
