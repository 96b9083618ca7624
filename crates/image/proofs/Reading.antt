-- A loop that fills an array with the numbers of an image, once for every type. Assumes nothing.
use mathlib.Core.Path.{◌≡◌, refl, sym, ap, ◌∙◌}
use mathlib.Core.List.{List, [], ◌∷◌, ◌++◌}
use Prim.Native.Nat.{ℕ, zero, suc, ◌+◌, ◌*◌, ◌≤◌, ◌<◌}
use native.Mathlib.Numerals.{add-one}
use native.Mathlib.Omega.{arith}
use lib.ListN.{length, take, drop, set, length-set}
use lib.Seq.{take-suc-set, take_all, drop-drop}
use Rattle.wire.specs.Numbers.{number}
use Rattle.image.specs.Image.{numbers_of}

module _ {A : Type 0} (f : ℕ → A) (w : ℕ) where
  -- one number more stands behind those before it
  numbers_more : (i : ℕ) (bytes : List ℕ) → numbers_of f w (suc i) bytes ≡ numbers_of f w i bytes ++ (f (number w (drop (w * i) bytes)) ∷ [])
  unfolding numbers_of
  numbers_more zero bytes = let e : w * 0 ≡ 0 = omega arith in rw e refl
  numbers_more (suc i) bytes =
      let e : w + w * i ≡ w * suc i = omega arith in
      ap (λ (l : List A). f (number w bytes) ∷ l)
      (numbers_more i (drop w bytes)
      ∙ ap (λ (d : List ℕ). numbers_of f w i (drop w bytes) ++ (f (number w d) ∷ [])) (drop-drop (w * i) w bytes ∙ ap (λ (k : ℕ). drop k bytes) e))

  -- the first i of n values are those of the bytes
  pub record SoFar (n : ℕ) (bytes : List ℕ) (values : List A) (i : ℕ) : Type 0 where
    pub sized : length values ≡ n
    pub within : i ≤ n
    pub same : take i values ≡ numbers_of f w i bytes

  pub begun : (n : ℕ) (bytes : List ℕ) (values : List A) → length values ≡ n → SoFar n bytes values 0
  unfolding numbers_of
  begun n bytes values e = record { sized = e; within = omega arith; same = refl }

  pub one_more_lem : (n : ℕ) (bytes : List ℕ) (values : List A) (i : ℕ) (v : A) → SoFar n bytes values i → i < n → v ≡ f (number w (drop (w * i) bytes))
      → SoFar n bytes (set values i v) (i + 1)
  one_more_lem n bytes values i v p h e =
      record {
        sized = length-set values i v ∙ p.sized;
        within = omega arith;
        same = rw (add-one i, e) (take-suc-set values i _ (omega (arith, p.sized)) ∙ ap (λ (l : List A). l ++ (f (number w (drop (w * i) bytes)) ∷ [])) p.same ∙ sym (numbers_more i bytes));
      }

  pub filled : (n : ℕ) (bytes : List ℕ) (values : List A) (i : ℕ) → SoFar n bytes values i → n ≤ i → values ≡ numbers_of f w n bytes
  filled n bytes values i p h =
      let e : i ≡ n = omega (arith, p.within) in
      sym (take_all i values (omega (arith, p.sized))) ∙ p.same ∙ ap (λ (k : ℕ). numbers_of f w k bytes) e

-- ---- where a number stands in the image, and where among those of its type
pub number_place : (w base i : ℕ) (image : List ℕ) → number w (drop (base + w * i) image) ≡ number w (drop (w * i) (drop base image))
number_place w base i image = ap (number w) (sym (drop-drop (w * i) base image))
