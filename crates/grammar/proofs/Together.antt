-- Parsers put together: what a caller's loop and its straight parts are made of. Assumes nothing.
use Prim.Native.Nat.{ℕ, zero, suc, ◌-◌, ◌<◌}
use mathlib.Core.Path.{◌≡◌, refl}
use mathlib.Core.List.{List, [], ◌∷◌}
use native.Mathlib.Omega.{arith}
use Rattle.grammar.specs.Grammar.{Read, fails, reads, Parser, on, times}

-- going on twice is going on with both
pub on_on : {A B C : Type 0} (r : Read A) (f : A → ℕ → Read B) (g : B → ℕ → Read C) → on (on r f) g ≡ on r (λ a j. on (f a j) g)
on_on fails f g = refl
on_on (reads a j) f g = refl

-- ---- n times over, a turn each
module _ {A : Type 0} (p : Parser A) (s : List ℕ) where
  pub times_end : (n i : ℕ) → n ≡ 0 → times n p s i ≡ reads [] i
  unfolding times
  times_end n i e = rw e

  pub times_bad : (n i : ℕ) → 0 < n → p s i ≡ fails → times n p s i ≡ fails
  unfolding times
  times_bad zero i h e = absurd (omega arith)
  times_bad (suc n) i h e = rw e

  pub times_more : (n i : ℕ) (a : A) (j : ℕ) → 0 < n → p s i ≡ reads a j → times n p s i ≡ on (times (n - 1) p s j) (λ rest k. reads (a ∷ rest) k)
  unfolding times
  times_more zero i a j h e = absurd (omega arith)
  times_more (suc n) i a j h e =
      let m : suc n - 1 ≡ n = omega arith in
      rw (m, e)
