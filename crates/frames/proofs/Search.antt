-- The search finds the first place and nothing else: what it finds is a frame as `First` says it, no other frame is
-- there, and where it finds none there is no complete one. Assumes nothing.
use Prim.Native.Nat.{ℕ, zero, suc, ◌+◌, ◌-◌, ◌≤◌, ◌<◌}
use mathlib.Core.Path.{◌≡◌, refl, ap, sym, ◌∙◌}
use mathlib.Core.Bool.{Bool, true, false, cond, false≢true}
use mathlib.Core.Logic.{⊎_elim}
use Rattle.std.specs.Prelude.{Option, Some, None}
use mathlib.Core.List.{List, [], ◌∷◌}
use native.Mathlib.Omega.{arith}
use lib.ListN.{drop}
use lib.Seq.{drop-drop}
use Rattle.laws.proofs.Lists.{lt_or_le}
use Rattle.frames.specs.Frames.{starts_with, first_at, opening_tag, closing_tag, opened_at, closed_at, frame_of, found}
use Rattle.frames.specs.First.{StandsAt, FirstFrom, FrameAt, Complete}
use Rattle.frames.specs.declared.Frame.{Frame}

-- ---- one tag

-- what is found in s, where s begins at place i
record Here (tag s : List ℕ) (i j : ℕ) : Type 0 where
  k : ℕ
  at : j ≡ i + k
  here : starts_with tag (drop k s) ≡ true
  before : (m : ℕ) → m < k → starts_with tag (drop m s) ≡ false

module _ (tag : List ℕ) where
  some_here : (s : List ℕ) (i j : ℕ) → first_at tag i s ≡ Some j → Here tag s i j
  unfolding first_at
  some_here [] i j e = go (starts_with tag []) refl e
    where
      go : (t : Bool) → starts_with tag [] ≡ t → cond t (Some i) None ≡ Some j → Here tag [] i j
      go true q e = let p : i ≡ j = cc in record { k = 0; at = omega arith; here = q; before = λ m l. absurd (omega arith) }
      go false q e = let z : ◌≡◌ {A = ℕ} 0 1 = cc in absurd (omega arith)
  some_here (x ∷ s) i j e = go (starts_with tag (x ∷ s)) refl e (some_here s (i + 1) j)
    where
      go : (t : Bool) → starts_with tag (x ∷ s) ≡ t → cond t (Some i) (first_at tag (i + 1) s) ≡ Some j → (first_at tag (i + 1) s ≡ Some j → Here tag s (i + 1) j) → Here tag (x ∷ s) i j
      go true q e r = let p : i ≡ j = cc in record { k = 0; at = omega arith; here = q; before = λ m l. absurd (omega arith) }
      go false q e r =
          let f = r e in
          record { k = suc f.k; at = omega (arith, f.at); here = f.here; before = later q f.k f.before }
        where
          later : starts_with tag (x ∷ s) ≡ false → (k : ℕ) → ((m : ℕ) → m < k → starts_with tag (drop m s) ≡ false) → (m : ℕ) → m < suc k → starts_with tag (drop m (x ∷ s)) ≡ false
          later q k h zero l = q
          later q k h (suc m) l = h m (omega arith)

  none_here : (s : List ℕ) (i : ℕ) → first_at tag i s ≡ None → (m : ℕ) → starts_with tag (drop m s) ≡ false
  unfolding first_at
  none_here [] i e m = go (starts_with tag []) refl e m
    where
      go : (t : Bool) → starts_with tag [] ≡ t → cond t (Some i) None ≡ None → (m : ℕ) → starts_with tag (drop m []) ≡ false
      go true q e m = let z : ◌≡◌ {A = ℕ} 0 1 = cc in absurd (omega arith)
      go false q e zero = q
      go false q e (suc m) = q
  none_here (x ∷ s) i e m = go (starts_with tag (x ∷ s)) refl e (none_here s (i + 1)) m
    where
      go : (t : Bool) → starts_with tag (x ∷ s) ≡ t → cond t (Some i) (first_at tag (i + 1) s) ≡ None → (first_at tag (i + 1) s ≡ None → (m : ℕ) → starts_with tag (drop m s) ≡ false)
          → (m : ℕ) → starts_with tag (drop m (x ∷ s)) ≡ false
      go true q e r m = let z : ◌≡◌ {A = ℕ} 0 1 = cc in absurd (omega arith)
      go false q e r zero = q
      go false q e r (suc m) = r e m

module _ (tag s : List ℕ) (from : ℕ) where
  -- a place from `from` on, counted from there
  counted : (m : ℕ) → from ≤ m → (k : ℕ) × (m ≡ from + k) × (drop k (drop from s) ≡ drop m s)
  counted m h =
      let e : m ≡ from + (m - from) = omega arith in
      (m - from, e, drop-drop (m - from) from s ∙ ap (λ (n : ℕ). drop n s) (sym e))

  pub found_first : (j : ℕ) → first_at tag from (drop from s) ≡ Some j → FirstFrom tag s from j
  unfolding StandsAt
  found_first j e =
      let h = some_here tag (drop from s) from j e in
      record {
        after = omega (arith, h.at);
        here = sym (ap (starts_with tag) (drop-drop h.k from s ∙ ap (λ (n : ℕ). drop n s) (sym h.at))) ∙ h.here;
        none_before = λ m l n t.
            let w = counted m l in
            false≢true (sym (h.before w.0 (omega (arith, h.at, w.1))) ∙ ap (starts_with tag) w.2 ∙ t);
      }

  pub none_stands : first_at tag from (drop from s) ≡ None → (m : ℕ) → from ≤ m → StandsAt tag s m → ⊥
  unfolding StandsAt
  none_stands e m l t =
      let w = counted m l in
      false≢true (sym (none_here tag (drop from s) from e w.0) ∙ ap (starts_with tag) w.2 ∙ t)

  -- there is no second first place
  pub first_unique : (j k : ℕ) → FirstFrom tag s from j → FirstFrom tag s from k → j ≡ k
  first_unique j k a b =
      ⊎_elim
      (λ (l : j < k). absurd (b.none_before j a.after l a.here))
      (λ (l : k ≤ j).
      ⊎_elim
      (λ (m : k < j). absurd (a.none_before k b.after m b.here))
      (λ (m : j ≤ k). omega arith)
      (lt_or_le k j))
      (lt_or_le j k)

  -- where the tag stands at all, the first place is found
  pub stands_found : (m : ℕ) → from ≤ m → StandsAt tag s m → (j : ℕ) × (first_at tag from (drop from s) ≡ Some j) × (j ≤ m)
  stands_found m l t = go (first_at tag from (drop from s)) refl
    where
      go : (o : Option ℕ) → first_at tag from (drop from s) ≡ o → (j : ℕ) × (first_at tag from (drop from s) ≡ Some j) × (j ≤ m)
      go None e = absurd (none_stands e m l t)
      go (Some j) e =
          ⊎_elim
          (λ (n : m < j). absurd ((found_first j e).none_before m l n t))
          (λ (n : j ≤ m). (j, e, n))
          (lt_or_le m j)

  pub first_found : (j : ℕ) → FirstFrom tag s from j → first_at tag from (drop from s) ≡ Some j
  first_found j f =
      let w = stands_found j f.after f.here in
      w.1 ∙ ap Some (first_unique w.0 j (found_first w.0 w.1) f)

-- ---- the frame
module _ (s : List ℕ) where
  closed_found : (o : Option ℕ) (a start end behind : ℕ) → closed_at a o ≡ found start end behind → (a ≡ start) × (o ≡ Some end) × (behind ≡ end + 6)
  closed_found None a start end behind e = let z : ◌≡◌ {A = ℕ} 0 1 = cc in absurd (omega arith)
  closed_found (Some j) a start end behind e =
      let q : ◌≡◌ {A = Frame} (record { start = a; end = j; behind = j + 6 }) (record { start = start; end = end; behind = behind }) = cc in
      let p : j ≡ end = ap (λ (f : Frame). f.end) q in
      (ap (λ (f : Frame). f.start) q, ap Some p, sym (ap (λ (f : Frame). f.behind) q) ∙ ap (λ (n : ℕ). n + 6) p)

  -- what is found is a frame
  pub found_frame : (start end behind : ℕ) → frame_of s ≡ found start end behind → FrameAt s start end behind
  unfolding frame_of
  found_frame start end behind e = go (first_at opening_tag 0 s) refl e
    where
      go : (o : Option ℕ) → first_at opening_tag 0 s ≡ o → opened_at s o ≡ found start end behind → FrameAt s start end behind
      go None q e = let z : ◌≡◌ {A = ℕ} 0 1 = cc in absurd (omega arith)
      go (Some i) q e =
          let w = closed_found (first_at closing_tag (i + 5) (drop (i + 5) s)) (i + 5) start end behind e in
          record {
            opening = i;
            opened = found_first opening_tag s 0 i q;
            begins = sym w.0;
            closed = rw (← w.0) (found_first closing_tag s (i + 5) end w.1);
            ends = w.2;
          }

  -- a frame that is there is found, and so there is no second one
  pub frame_found : (start end behind : ℕ) → FrameAt s start end behind → frame_of s ≡ found start end behind
  unfolding frame_of
  frame_found start end behind f =
      let c : first_at closing_tag (f.opening + 5) (drop (f.opening + 5) s) ≡ Some end = rw f.begins at (first_found closing_tag s start end f.closed) in
      rw (f.begins, f.ends) (ap (opened_at s) (first_found opening_tag s 0 f.opening f.opened) ∙ ap (closed_at (f.opening + 5)) c)

  -- where none is found, none is complete
  pub not_there_lem : frame_of s ≡ None → Complete s → ⊥
  unfolding frame_of
  not_there_lem e c =
      let w = stands_found opening_tag s 0 c.opening (omega arith) c.opened in
      let v = stands_found closing_tag s (w.0 + 5) c.closing (omega (arith, w.2, c.behind)) c.closed in
      let f : found (w.0 + 5) v.0 (v.0 + 6) ≡ None = sym (ap (opened_at s) w.1 ∙ ap (closed_at (w.0 + 5)) v.1) ∙ e in
      let z : ◌≡◌ {A = ℕ} 0 1 = cc in
      absurd (omega arith)

  -- and where none is complete, none is found
  pub none_complete : (Complete s → ⊥) → frame_of s ≡ None
  none_complete n = go (frame_of s) refl
    where
      go : (o : Option Frame) → frame_of s ≡ o → frame_of s ≡ None
      go None e = e
      go (Some frame) e =
          let f = found_frame frame.start frame.end frame.behind e in
          absurd (n (record {
            opening = f.opening;
            closing = frame.end;
            opened = f.opened.here;
            closed = f.closed.here;
            behind = omega (arith, f.begins, f.closed.after);
          }))
