-- What is clamped fits int16, so the casts leave it.
use Rattle.std.proofs.Common.{◌∙◌, ap, w16, w64}
use mir.Facts.{sfits_widen}
use mir.ValLaws.{to_z-of_z}
use Rattle.laws.proofs.Signed.{read}
use Rattle.rounding.specs.Rounding.{held}
use Rattle.rounding.proofs.Rounding.{held_is, held_fits}
use Rattle.rounding.proofs.held.Goals as goal

pub returns : goal.returns
returns c =
    let z = c.args.z in
    let e = simp (c.from.ensures, c.from-2.ensures, to_z-of_z w64 z c.ranges.z) at c.clamp.ensures.value in
    ap (λ x. read w16 (read w64 x)) (e ∙ held_is z)
    ∙ ap (read w16) (to_z-of_z w64 (held z) (sfits_widen {w = w16} {w' = w64} tt (held_fits z)))
    ∙ to_z-of_z w16 (held z) (held_fits z)
