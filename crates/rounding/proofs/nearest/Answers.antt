-- The units of the number without its sign, and then its sign.
use Rattle.std.proofs.Common.{◌≡◌, ◌<◌, ◌^◌, ◌∙◌, ap, nat_abs, pos, w64, ℤ, ℕ, arith}
use lib.IntN.{neg_ℤ}
use mir.Val.{SFits}
use mir.ValLaws.{to_z-of_z, to_z_pos}
use Rattle.laws.proofs.Signed.{plus, minus, same, read, order}
use Rattle.rounding.specs.Rounding.{up}
use Rattle.rounding.proofs.Rounding.{up_le, nearest_above, nearest_below}
use Rattle.rounding.proofs.Machine.{minus_is}
use Rattle.rounding.proofs.nearest.Goals as goal

-- the units that the two calls gave, of the number itself
units : (n : ℤ) (d e m r : ℕ) → SFits w64 n → m ≡ nat_abs (read w64 n) → e ≡ d → r ≡ up m e → r ≡ up (nat_abs n) d
units n d e m r f a b c = c ∙ ap (λ x. up x e) (a ∙ ap nat_abs (to_z-of_z w64 n f)) ∙ ap (up (nat_abs n)) b

below_half : (n d r : ℕ) → 0 < d → n < 2 ^ 63 → r ≡ up n d → r < 2 ^ 63
below_half n d r p h e = omega (arith, up_le n d p)

pub returns-then-n-lt0 : goal.returns-then-n-lt0
unfolding plus minus
returns-then-n-lt0 c =
    let n = c.args.n in
    let d = c.args.d in
    let r = c.rounded-units.result in
    let e = same (to_z-of_z w64 n c.ranges.n) in
    let u = units n d c.from.result c.unsigned_abs.result r c.ranges.n c.unsigned_abs.ensures.value c.from.ensures c.rounded-units.ensures in
    minus_is r (below_half (nat_abs n) d r c.requires.0 c.requires.1 u) ∙ ap (λ x. neg_ℤ (pos x)) u ∙ nearest_below n d (omega order)

pub returns-else-n-lt0 : goal.returns-else-n-lt0
unfolding plus minus
returns-else-n-lt0 c =
    let n = c.args.n in
    let d = c.args.d in
    let r = c.rounded-units.result in
    let e = same (to_z-of_z w64 n c.ranges.n) in
    let u = units n d c.from.result c.unsigned_abs.result r c.ranges.n c.unsigned_abs.ensures.value c.from.ensures c.rounded-units.ensures in
    to_z_pos w64 r (below_half (nat_abs n) d r c.requires.0 c.requires.1 u) ∙ ap pos u ∙ nearest_above n d (omega order)
