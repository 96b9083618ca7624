-- The two texts, one after the other. Assumes nothing.
use Rattle.wire.specs.declared.forms.Form.TheVariants.{Raw, Ascii}
use Rattle.reading.specs.Lines.{switch_text, switch_of}
use Rattle.reading.proofs.Same.{told_same}
use Rattle.reading.proofs.switch_of.Goals as goal

pub returns-then-eq : goal.returns-then-eq
unfolding switch_of
returns-then-eq c = rw (told_same c.args.payload.now (switch_text Raw) c.as_slice.ensures c.eq.ensures c.if-eq.true)

pub returns-then-eq-2 : goal.returns-then-eq-2
unfolding switch_of
returns-then-eq-2 c =
    rw (
      told_same c.args.payload.now (switch_text Raw) c.as_slice.ensures c.eq.ensures c.if-eq.false,
      told_same c.args.payload.now (switch_text Ascii) c.as_slice-2.ensures c.eq-2.ensures c.if-eq-2.true,
    )

pub returns : goal.returns
unfolding switch_of
returns c =
    rw (
      told_same c.args.payload.now (switch_text Raw) c.as_slice.ensures c.eq.ensures c.if-eq.false,
      told_same c.args.payload.now (switch_text Ascii) c.as_slice-2.ensures c.eq-2.ensures c.if-eq-2.false,
    )
