-- The text goes between the tags. Assumes nothing.
use native.Mathlib.Omega.{arith}
use mathlib.Core.Path.{sym, ◌∙◌}
use Rattle.framing.specs.Framing.{written}
use Rattle.framing.proofs.Enclosing.{enclosed}
use Rattle.framing.proofs.reply_frame.Goals as goal

pub returns-clause-held : goal.returns-clause-held
returns-clause-held c =
    let a = c.args in
    let f = c.in_form in
    c.enclose.ensures ∙ (enclosed (written a.form a.reply.now) a.out.now (omega arith) f.new.out f.ensures.held (sym c.in_ok-n.was ∙ f.ensures.answer)).1
