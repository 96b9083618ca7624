-- The equations of a search, one for each way that a turn of its loops can go, and the three answers of a scan. Assumes
-- nothing.
use Prim.Native.Nat.{ℕ, ◌+◌, ◌≤◌, ◌<◌}
use mathlib.Core.Path.{◌≡◌, refl, ap, sym, ◌∙◌}
use mathlib.Core.Bool.{Bool, true, false, ◌&&◌, and-false}
use Rattle.std.specs.Prelude.{Option, Some, None}
use mathlib.Core.List.{List, [], ◌∷◌}
use native.Mathlib.Omega.{arith}
use lib.Dec.{eqb}
use lib.ListN.{length, drop, get_or, length-drop}
use borrow.Author.Tests.{eq-eqb, ne_eqb}
use Rattle.laws.proofs.Lists.{drop_step, drop_end}
use Rattle.frames.specs.declared.Place.{Place}
use Rattle.frames.specs.Frames.{starts_with, first_at, place_of, opening_tag, closing_tag, opened_at, closed_at, frame_of, found, stands}

-- ---- a turn over the tag's bytes
module _ (tag s : List ℕ) (k j : ℕ) where
  pub starts_end : length tag ≤ k → starts_with (drop k tag) (drop j s) ≡ true
  unfolding starts_with
  starts_end h = rw (drop_end tag k h)

  pub starts_same : k < length tag → j < length s → get_or s j 0 ≡ get_or tag k 0 → starts_with (drop k tag) (drop j s) ≡ starts_with (drop (k + 1) tag) (drop (j + 1) s)
  unfolding starts_with
  starts_same h g e = rw (drop_step tag k h, drop_step s j g, eq-eqb (get_or s j 0) (get_or tag k 0) e)

  pub starts_other : k < length tag → j < length s → (get_or s j 0 ≡ get_or tag k 0 → ⊥) → starts_with (drop k tag) (drop j s) ≡ false
  unfolding starts_with
  starts_other h g n = rw (drop_step tag k h, drop_step s j g, ne_eqb (get_or s j 0) (get_or tag k 0) n)

-- ---- a turn over the places
starts_short : (tag l : List ℕ) → length l < length tag → starts_with tag l ≡ false
unfolding starts_with
starts_short [] l h = absurd (omega arith)
starts_short (t ∷ ts) [] h = refl
starts_short (t ∷ ts) (x ∷ l) h = ap (λ (b : Bool). eqb x t && b) (starts_short ts l (omega arith)) ∙ and-false (eqb x t)

first_short : (tag : List ℕ) (i : ℕ) (l : List ℕ) → length l < length tag → first_at tag i l ≡ None
unfolding first_at
first_short tag i [] h = rw (starts_short tag [] h)
first_short tag i (x ∷ l) h = rw (starts_short tag (x ∷ l) h) (first_short tag (i + 1) l (omega arith))

module _ (tag s : List ℕ) (i : ℕ) where
  pub first_none : length s < i + length tag → i ≤ length s → first_at tag i (drop i s) ≡ None
  first_none h g = first_short tag i (drop i s) (simp length-drop (omega arith))

  pub first_here : starts_with tag (drop i s) ≡ true → first_at tag i (drop i s) ≡ Some i
  unfolding first_at
  first_here e = go (drop i s) e
    where
      go : (l : List ℕ) → starts_with tag l ≡ true → first_at tag i l ≡ Some i
      go [] e = rw e
      go (x ∷ l) e = rw e

  pub first_next : i < length s → starts_with tag (drop i s) ≡ false → first_at tag i (drop i s) ≡ first_at tag (i + 1) (drop (i + 1) s)
  unfolding first_at
  first_next h e =
      let f : starts_with tag (get_or s i 0 ∷ drop (i + 1) s) ≡ false = rw (drop_step s i h) at e in
      rw (drop_step s i h, f)

-- ---- what a search answers, and what its answer tells
pub found_at : (tag s : List ℕ) (i behind : ℕ) → behind ≡ i + length tag → starts_with tag (drop i s) ≡ true → stands i behind ≡ place_of (length tag) (first_at tag i (drop i s))
found_at tag s i behind e t = rw (first_here tag s i t, e)

pub known_nowhere : (n : ℕ) (o : Option ℕ) → place_of n o ≡ None → o ≡ None
known_nowhere n None e = refl
known_nowhere n (Some i) e = let z : ◌≡◌ {A = ℕ} 0 1 = cc in absurd (omega arith)

pub known_at : (n : ℕ) (o : Option ℕ) (p : Place) → place_of n o ≡ Some p → (o ≡ Some p.start) × (p.behind ≡ p.start + n)
known_at n None p e = let z : ◌≡◌ {A = ℕ} 0 1 = cc in absurd (omega arith)
known_at n (Some j) p e = let q : ◌≡◌ {A = Place} (record { start = j; behind = j + n }) p = cc in rw (← q) (refl, refl)

-- ---- the three answers of a scan
module _ (s : List ℕ) where
  pub unopened : place_of 5 (first_at opening_tag 0 s) ≡ None → None ≡ frame_of s
  unfolding frame_of
  unopened e = sym (ap (opened_at s) (known_nowhere 5 (first_at opening_tag 0 s) e))

  module _ (opening : Place) (o : place_of 5 (first_at opening_tag 0 s) ≡ Some opening) where
    abbrev i : ℕ
    i = opening.start

    abbrev a : ℕ
    a = opening.behind

    pub unclosed : place_of 6 (first_at closing_tag a (drop a s)) ≡ None → None ≡ frame_of s
    unfolding frame_of
    unclosed e =
        let k = known_at 5 (first_at opening_tag 0 s) opening o in
        let c : first_at closing_tag (i + 5) (drop (i + 5) s) ≡ None = rw k.1 at (known_nowhere 6 (first_at closing_tag a (drop a s)) e) in
        sym (ap (opened_at s) k.0 ∙ ap (closed_at (i + 5)) c)

    pub whole : (closing : Place) → place_of 6 (first_at closing_tag a (drop a s)) ≡ Some closing → found a closing.start closing.behind ≡ frame_of s
    unfolding frame_of
    whole closing e =
        let k = known_at 5 (first_at opening_tag 0 s) opening o in
        let m = known_at 6 (first_at closing_tag a (drop a s)) closing e in
        let c : first_at closing_tag (i + 5) (drop (i + 5) s) ≡ Some closing.start = rw k.1 at m.0 in
        rw (k.1, m.1) (sym (ap (opened_at s) k.0 ∙ ap (closed_at (i + 5)) c))
