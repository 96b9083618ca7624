-- A table has a rule's number at each of its places where one computed test passes: the place of the first entry that
-- is not the rule's is the table's end. Assumes nothing.
use Prim.Native.Nat.{ℕ, zero, suc, ◌+◌, ◌<◌}
use mathlib.Core.Path.{◌≡◌, refl, sym, ap, ◌∙◌}
use mathlib.Core.Bool.{Bool, true, false, cond, false≢true}
use mathlib.Core.List.{List, [], ◌∷◌}
use native.Mathlib.Nat.{add-zero, zero-add}
use native.Mathlib.Omega.{arith}
use borrow.Author.Tests.{eqb-true}
use lib.Dec.{eqb}
use lib.IntN.{ℤ, pos, negsuc}
use lib.ListN.{length, get_or}

-- ---- whether two integers are the same
abbrev pub equal : ℤ → ℤ → Bool
equal (pos a) (pos b) = eqb a b
equal (pos a) (negsuc b) = false
equal (negsuc a) (pos b) = false
equal (negsuc a) (negsuc b) = eqb a b

pub equal_true : (x y : ℤ) → equal x y ≡ true → x ≡ y
equal_true (pos a) (pos b) h = ap pos (eqb-true a b h)
equal_true (pos a) (negsuc b) h = absurd (false≢true h)
equal_true (negsuc a) (pos b) h = absurd (false≢true h)
equal_true (negsuc a) (negsuc b) h = ap negsuc (eqb-true a b h)

-- ---- the place of the first entry that is not the rule's, of a table whose first place is i
abbrev pub first_wrong : (ℕ → ℤ) → ℕ → List ℤ → ℕ
first_wrong f i [] = i
first_wrong f i (x ∷ xs) = cond (equal x (f i)) (first_wrong f (suc i) xs) i

module _ (f : ℕ → ℤ) where
  right_head : (b : Bool) (i n m : ℕ) → cond b n i ≡ i + suc m → (b ≡ true) × (n ≡ suc i + m)
  right_head true i n m h = (refl, omega arith)
  right_head false i n m h = absurd (omega arith)

  from : (xs : List ℤ) (i k : ℕ) (d : ℤ) → first_wrong f i xs ≡ i + length xs → k < length xs → get_or xs k d ≡ f (i + k)
  from [] i k d t h = absurd (omega arith)
  from (x ∷ xs) i zero d t h = rw add-zero (equal_true x (f i) (right_head (equal x (f i)) i (first_wrong f (suc i) xs) (length xs) t).0)
  from (x ∷ xs) i (suc k) d t h =
      from xs (suc i) k d (right_head (equal x (f i)) i (first_wrong f (suc i) xs) (length xs) t).1 (omega arith) ∙ ap f (omega arith)

  pub each_entry : (xs : List ℤ) (n k : ℕ) (d : ℤ) → length xs ≡ n → first_wrong f 0 xs ≡ n → k < n → get_or xs k d ≡ f k
  each_entry xs n k d l t h = rw zero-add at (from xs 0 k d (t ∙ sym l ∙ sym (zero-add (length xs))) (omega arith))
