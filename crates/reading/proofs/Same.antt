-- Two slices are equal just where two texts are the same. Assumes nothing.
use Prim.Native.Nat.{ℕ}
use mathlib.Core.Path.{◌≡◌, refl, sym, ap, ◌∙◌}
use mathlib.Core.Bool.{Bool, true, false, ◌&&◌}
use mathlib.Core.List.{List, [], ◌∷◌}
use lib.Dec.{eqb, eqb-suc-zero, eqb-zero-suc, eqb-suc-suc}
use lib.ListN.{length}
use lib.Pointwise.{pointwise}
use Rattle.frames.specs.Frames.{starts_with}
use Rattle.reading.specs.Lines.{same}

turn : (a b d : Bool) → a && (b && d) ≡ b && (a && d)
turn true b d = refl
turn false true d = refl
turn false false d = refl

pub same_is : (s text : List ℕ) → pointwise eqb s text ≡ same s text
unfolding same starts_with
same_is [] [] = refl
same_is [] (t ∷ text) = rw (eqb-zero-suc (length text))
same_is (x ∷ s) [] = rw (eqb-suc-zero (length s))
same_is (x ∷ s) (t ∷ text) =
    rw (eqb-suc-suc (length s) (length text))
    (ap (λ (b : Bool). eqb x t && b) (same_is s text) ∙ turn (eqb x t) (eqb (length s) (length text)) (starts_with text s))

-- what a comparison of slices told
pub told_same : {b v : Bool} (s text : List ℕ) {t : List ℕ} → t ≡ text → b ≡ pointwise eqb s t → b ≡ v → same s text ≡ v
told_same s text e f g = sym (same_is s text) ∙ sym (rw e at f) ∙ g
