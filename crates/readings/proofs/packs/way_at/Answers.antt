-- The five words in front, the board's status, then packs.
use mathlib.Core.Path.{sym, ap, ◌∙◌}
use native.Mathlib.Omega.{arith}
use Rattle.readings.specs.declared.packs.Way.TheVariants.{ByRow, ByCurve}
use Rattle.readings.specs.Layout.{BAT-TEMP}
use Rattle.readings.specs.Packs.{◌told◌, way_of, way_at, pack_way}
use Rattle.readings.proofs.PackPlaces.{front_at, front_way, pack_way_at}
use Rattle.readings.proofs.packs.way_at.Goals as goal

pub returns-then-i-lt5 : goal.returns-then-i-lt5
returns-then-i-lt5 c = ap ByRow c.row_at.ensures ∙ sym (front_way c.args.i (omega arith))

pub returns-then-i-eq5 : goal.returns-then-i-eq5
returns-then-i-eq5 c = sym (ap way_at (omega arith) ∙ ap way_of (front_at (BAT-TEMP 3 3 told ByCurve)).5)

pub returns : goal.returns
returns c =
    c.pack_way.ensures ∙ ap pack_way (omega arith) ∙ sym (pack_way_at c.args.i (omega arith) (omega (arith, c.requires)))
