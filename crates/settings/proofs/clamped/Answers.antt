use mathlib.Core.Path.{sym, subst}
use lib.Dec.{T}
use lib.Signed.{le_z_yes}
use mir.Syntax.{w32}
use mir.Val.{SFits}
use mir.ValLaws.{to_z-of_z}
use borrow.Author.Rules.{rules}
use Rattle.settings.proofs.Rows.{ends_ordered}
use Rattle.settings.proofs.clamped.Goals as goal

pub clamp-requires : goal.clamp-requires
clamp-requires c =
    let ends = c.ends_of-ends.result in
    let f : SFits w32 ends.low = search rules in
    let g : SFits w32 ends.high = search rules in
    rw (to_z-of_z w32 ends.low f, c.ends_of-ends.ensures.low, to_z-of_z w32 ends.high g, c.ends_of-ends.ensures.high) (le_z_yes (subst T (sym (ends_ordered c.args.id)) tt))
