-- A test that a character lies in a range, from facts that `omega` shows. Assumes nothing.
use Prim.Native.Nat.{ℕ, ◌≤◌, ◌<◌}
use mathlib.Core.Path.{◌≡◌, refl, ap, ◌∙◌}
use mathlib.Core.Bool.{Bool, true, false, ◌&&◌}
use lib.Dec.{leb}
use borrow.Author.Tests.{le-leb, lt-leb}
use Rattle.hexadecimal.specs.Hex.{between}

pub between_yes : (lo hi x : ℕ) → lo ≤ x → x ≤ hi → between lo hi x ≡ true
unfolding between
between_yes lo hi x h k = simp (le-leb _ _ h, le-leb _ _ k)

pub between_low : (lo hi x : ℕ) → x < lo → between lo hi x ≡ false
unfolding between
between_low lo hi x h = simp (lt-leb _ _ h)

and_false : (b : Bool) → b && false ≡ false
and_false true = refl
and_false false = refl

pub between_high : (lo hi x : ℕ) → hi < x → between lo hi x ≡ false
unfolding between
between_high lo hi x h = ap (λ (t : Bool). leb lo x && t) (lt-leb _ _ h) ∙ and_false (leb lo x)
