-- What was read, taken apart again: a parser that reads after another one says what the first one read. Assumes
-- nothing.
use Prim.Native.Nat.{ℕ, zero, suc, ◌-◌, ◌<◌}
use mathlib.Core.Path.{◌≡◌, refl, ap, ◌∙◌}
use mathlib.Core.List.{List, [], ◌∷◌}
use lib.ListN.{length}
use native.Mathlib.Omega.{arith}
use Rattle.grammar.specs.Grammar.{Read, fails, reads, Parser, on, times}

-- the first of two read `what` up to `place`, and the second went on from there
pub record Went {A B : Type 0} (r : Read A) (f : A → ℕ → Read B) (b : B) (j : ℕ) : Type 0 where
  pub what : A
  pub place : ℕ
  pub first : r ≡ reads what place
  pub onward : f what place ≡ reads b j

pub went : {A B : Type 0} (r : Read A) (f : A → ℕ → Read B) (b : B) (j : ℕ) → on r f ≡ reads b j → Went r f b j
went fails f b j e = let z : ◌≡◌ {A = ℕ} 0 1 = cc in absurd (omega arith)
went (reads a k) f b j e = record { what = a; place = k; first = refl; onward = e }

-- ---- so many times over: the first of them, and the others behind it
pub record Step {A : Type 0} (n : ℕ) (p : Parser A) (s : List ℕ) (i : ℕ) (a : A) (rest : List A) (j : ℕ) : Type 0 where
  pub place : ℕ
  pub here : p s i ≡ reads a place
  pub others : times n p s place ≡ reads rest j

-- for a loop that counts down and has not seen the list yet
pub record Turn {A : Type 0} (n : ℕ) (p : Parser A) (s : List ℕ) (i : ℕ) (all : List A) (j : ℕ) : Type 0 where
  pub what : A
  pub rest : List A
  pub is : all ≡ what ∷ rest
  pub step : Step (n - 1) p s i what rest j

pub times_turn : {A : Type 0} (n : ℕ) (p : Parser A) (s : List ℕ) (i : ℕ) (all : List A) (j : ℕ) → 0 < n → times n p s i ≡ reads all j → Turn n p s i all j
unfolding times
times_turn zero p s i all j h e = absurd (omega arith)
times_turn (suc n) p s i all j h e =
    let w = went (p s i) (λ x k. on (times n p s k) (λ more m. reads (x ∷ more) m)) all j e in
    let o = went (times n p s w.place) (λ more m. reads (w.what ∷ more) m) all j w.onward in
    let l : all ≡ w.what ∷ o.what = cc in
    let t : times n p s w.place ≡ reads o.what j = cc in
    let m : suc n - 1 ≡ n = omega arith in
    record { what = w.what; rest = o.what; is = l; step = record { place = w.place; here = w.first; others = rw m t } }

-- for a list of which the first is known
pub times_step : {A : Type 0} (n : ℕ) (p : Parser A) (s : List ℕ) (i : ℕ) (a : A) (rest : List A) (j : ℕ) → times (suc n) p s i ≡ reads (a ∷ rest) j → Step n p s i a rest j
times_step n p s i a rest j e =
    let x = times_turn (suc n) p s i (a ∷ rest) j (omega arith) e in
    let m : suc n - 1 ≡ n = omega arith in
    let l = x.is in
    let f = x.step.here in
    let o = rw m at x.step.others in
    let h : p s i ≡ reads a x.step.place = cc in
    let t : times n p s x.step.place ≡ reads rest j = cc in
    record { place = x.step.place; here = h; others = t }

-- none are left
pub times_none : {A : Type 0} (n : ℕ) (p : Parser A) (s : List ℕ) (i : ℕ) (all : List A) (j : ℕ) → n ≡ 0 → times n p s i ≡ reads all j → (all ≡ []) × (i ≡ j)
unfolding times
times_none n p s i all j z e =
    let q = rw z at e in
    let l : all ≡ [] = cc in
    let m : i ≡ j = cc in
    (l, m)

-- there are as many as were asked for
pub times_length : {A : Type 0} (n : ℕ) (p : Parser A) (s : List ℕ) (i : ℕ) (all : List A) (j : ℕ) → times n p s i ≡ reads all j → length all ≡ n
times_length zero p s i all j e = ap length (times_none zero p s i all j refl e).0
times_length (suc n) p s i all j e =
    let x = times_turn (suc n) p s i all j (omega arith) e in
    let m : suc n - 1 ≡ n = omega arith in
    ap length x.is ∙ ap suc (times_length n p s x.step.place x.rest j (rw m at x.step.others))
