-- A signed word is taken as the language takes its pattern.
use borrow.Author.Rules.{rules}
use mathlib.Core.Path.{sym, ◌∙◌}
use mir.Syntax.{w16, w64}
use mir.Val.{SFits}
use mir.ValLaws.{to_z-of_z}
use Rattle.wire.proofs.TwosComplement.{signed_to_z}
use Rattle.readings.specs.Table.{number_of}
use Rattle.readings.proofs.table.number.Goals as goal

pub returns-then-vipd : goal.returns-then-vipd
unfolding number_of
returns-then-vipd c =
    let r = c.cast_signed.result in
    let f : SFits w16 r = search rules in
    let g : SFits w64 r = search rules in
    rw (c.if-vipd.true, to_z-of_z w16 r f, to_z-of_z w64 r g) (c.cast_signed.ensures ∙ sym (signed_to_z w16 c.args.word c.ranges.word))
