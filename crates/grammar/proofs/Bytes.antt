-- One byte, a literal and a search, one equation for each way that the code can go. Assumes nothing.
use Prim.Native.Nat.{ℕ, suc, ◌+◌, ◌-◌, ◌≤◌, ◌<◌}
use mathlib.Core.Path.{◌≡◌, refl, ap, sym, ◌∙◌}
use mathlib.Core.Bool.{Bool, true, false, cond, ◌&&◌}
use mathlib.Core.Option.{Option, none, some}
use mathlib.Core.List.{List, [], ◌∷◌}
use native.Mathlib.Numerals.{add-one}
use native.Mathlib.Omega.{arith}
use lib.Dec.{eqb}
use lib.ListN.{length, drop, take, get_or, get_or-eq_default}
use lib.Seq.{drop-cons, get_or-drop}
use borrow.Author.Tests.{eq-eqb, ne_eqb, eqb-true, eqb-false}
use mathlib.Core.Logic.{⊎_elim}
use Rattle.std.specs.List.{starts_with}
use Rattle.laws.proofs.Lists.{drop_step, drop_end, get_d_any, lt_or_le}
use Rattle.grammar.specs.Grammar.{fails, reads, on, peek_at, byte, end, text, first_from, part_to, up_to}

-- ---- what stands at a place
module _ (s : List ℕ) (i : ℕ) where
  pub peek_past : length s ≤ i → peek_at s i ≡ 256
  unfolding peek_at
  peek_past h = get_or-eq_default s 256 h

  pub peek_inside : i < length s → get_or s i 0 ≡ peek_at s i
  unfolding peek_at
  peek_inside h = get_d_any s i 0 256 h

  pub peek_front : i < length s → drop i s ≡ peek_at s i ∷ drop (i + 1) s
  unfolding peek_at
  peek_front h = rw (add-one, drop-cons s i 256)

-- ---- one byte
module _ (b : ℕ) (s : List ℕ) (i : ℕ) where
  pub byte_is : peek_at s i ≡ b → byte b s i ≡ reads tt (i + 1)
  unfolding byte
  byte_is e = rw (eq-eqb (peek_at s i) b e)

  pub byte_not : (peek_at s i ≡ b → ⊥) → byte b s i ≡ fails
  unfolding byte
  byte_not n = rw (ne_eqb (peek_at s i) b n)

-- ---- the end
module _ (s : List ℕ) (i : ℕ) where
  pub end_is : i ≡ length s → end s i ≡ reads tt i
  unfolding end
  end_is e = rw (eq-eqb i (length s) e)

  pub end_not : (i ≡ length s → ⊥) → end s i ≡ fails
  unfolding end
  end_not n = rw (ne_eqb i (length s) n)

-- ---- a literal: it stands where what is left of the text starts with it
text_starts : (wanted s : List ℕ) (i : ℕ) → ((k : ℕ) → get_or wanted k 0 < 256) → text wanted s i ≡ cond (starts_with eqb (drop i s) wanted) (reads tt (i + length wanted)) fails
unfolding text
text_starts [] s i small = let z : i ≡ i + 0 = omega arith in ap (reads tt) z
text_starts (b ∷ bs) s i small =
    ⊎_elim
    (λ (h : i < length s). rw (drop_step s i h) (go h (text_starts bs s (i + 1) (λ k. small (suc k))) (eqb b (get_or s i 0)) refl))
    (λ (h : length s ≤ i). rw (drop_end s i h, byte_not b s i (λ e. omega (arith, e, peek_past s i h, small 0))))
    (lt_or_le i (length s))
  where
    go : i < length s → text bs s (i + 1) ≡ cond (starts_with eqb (drop (i + 1) s) bs) (reads tt (i + 1 + length bs)) fails → (t : Bool) → eqb b (get_or s i 0) ≡ t
        → on (byte b s i) (λ u j. text bs s j) ≡ cond (t && starts_with eqb (drop (i + 1) s) bs) (reads tt (i + suc (length bs))) fails
    go h rest true e =
        let here : peek_at s i ≡ b = sym (eqb-true b (get_or s i 0) e ∙ peek_inside s i h) in
        let behind : i + 1 + length bs ≡ i + suc (length bs) = omega arith in
        rw (byte_is b s i here, ← behind) rest
    go h rest false e = rw (byte_not b s i (λ q. eqb-false b (get_or s i 0) e (sym q ∙ sym (peek_inside s i h))))

module _ (wanted s : List ℕ) (i : ℕ) (small : (k : ℕ) → get_or wanted k 0 < 256) where
  pub text_begins : starts_with eqb (drop i s) wanted ≡ true → reads tt (i + length wanted) ≡ text wanted s i
  text_begins e = sym (text_starts wanted s i small ∙ rw e)

  pub text_not : starts_with eqb (drop i s) wanted ≡ false → fails ≡ text wanted s i
  text_not e = sym (text_starts wanted s i small ∙ rw e)

-- ---- a search: a turn over the places
module _ (b : ℕ) (s : List ℕ) (i : ℕ) where
  pub first_none : length s ≤ i → first_from b i (drop i s) ≡ none
  unfolding first_from
  first_none h = rw (drop_end s i h)

  pub first_here : i < length s → get_or s i 0 ≡ b → first_from b i (drop i s) ≡ some i
  unfolding first_from
  first_here h e = rw (drop_step s i h, eq-eqb (get_or s i 0) b e)

  pub first_next : i < length s → (get_or s i 0 ≡ b → ⊥) → first_from b i (drop i s) ≡ first_from b (i + 1) (drop (i + 1) s)
  unfolding first_from
  first_next h n = rw (drop_step s i h, ne_eqb (get_or s i 0) b n)

-- what a search told from here on is what it tells from the start
module _ (b : ℕ) (s : List ℕ) (at : ℕ) where
  pub up_to_place : (place : ℕ) → first_from b at (drop at s) ≡ some place → reads (take (place - at) (drop at s)) place ≡ up_to b s at
  unfolding up_to
  up_to_place place e = sym (ap (part_to s at) e)

  pub up_to_never : first_from b at (drop at s) ≡ none → fails ≡ up_to b s at
  unfolding up_to
  up_to_never e = sym (ap (part_to s at) e)

-- ---- what a search found: the byte itself stands at the place
module _ (b : ℕ) where
  record Stands (l : List ℕ) (i place : ℕ) : Type 0 where
    k : ℕ
    at : place ≡ i + k
    here : get_or l k 256 ≡ b

  stands : (l : List ℕ) (i place : ℕ) → first_from b i l ≡ some place → Stands l i place
  unfolding first_from
  stands [] i place e = let z : ◌≡◌ {A = ℕ} 0 1 = cc in absurd (omega arith)
  stands (x ∷ l) i place e = go (eqb x b) refl e (stands l (i + 1) place)
    where
      go : (t : Bool) → eqb x b ≡ t → cond t (some i) (first_from b (i + 1) l) ≡ some place → (first_from b (i + 1) l ≡ some place → Stands l (i + 1) place)
          → Stands (x ∷ l) i place
      go true q e r = let p : i ≡ place = cc in record { k = 0; at = omega arith; here = eqb-true x b q }
      go false q e r = let f = r e in record { k = suc f.k; at = omega (arith, f.at); here = f.here }

  -- so a byte b is read next
  pub up_to_byte : (s : List ℕ) (at : ℕ) (xs : List ℕ) (place : ℕ) → up_to b s at ≡ reads xs place → byte b s place ≡ reads tt (place + 1)
  unfolding up_to peek_at
  up_to_byte s at xs place e = go (first_from b at (drop at s)) refl e
    where
      go : (o : Option ℕ) → first_from b at (drop at s) ≡ o → part_to s at o ≡ reads xs place → byte b s place ≡ reads tt (place + 1)
      go none q e = let z : ◌≡◌ {A = ℕ} 0 1 = cc in absurd (omega arith)
      go (some j) q e =
          let p : j ≡ place = cc in
          let f = stands (drop at s) at j q in
          byte_is b s place (ap (peek_at s) (sym p ∙ f.at) ∙ sym (get_or-drop at s f.k 256) ∙ f.here)
