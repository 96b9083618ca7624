-- When 10 is told: a complete frame is there exactly where the search finds one. Assumes nothing.
use Prim.Native.Nat.{ℕ, zero, suc, ◌+◌, ◌-◌, ◌≤◌}
use mathlib.Core.Path.{◌≡◌, refl, ap, sym, ◌∙◌}
use mathlib.Core.Bool.{true, or-true, false≢true}
use mathlib.Core.List.{List, [], ◌∷◌}
use native.Mathlib.Omega.{arith}
use lib.ListN.{drop}
use lib.Seq.{drop-drop}
use Rattle.laws.proofs.Cases.{cases}
use Rattle.std.specs.Prelude.{Option, Some, None}
use Rattle.frames.specs.Frames.{starts_with, opening_tag, closing_tag, frame_of}
use Rattle.frames.specs.First.{StandsAt, Complete}
use Rattle.frames.specs.Answers.{frame_number, holds, has_frame, scan_number}
use Rattle.frames.specs.declared.Frame.{Frame}
use Rattle.frames.proofs.Search.{found_frame, not_there_lem}

holds_at : (tag s : List ℕ) (k : ℕ) → starts_with tag (drop k s) ≡ true → holds tag s ≡ true
unfolding holds
holds_at tag [] zero e = e
holds_at tag [] (suc k) e = e
holds_at tag (x ∷ s) zero e = rw e
holds_at tag (x ∷ s) (suc k) e = rw (holds_at tag s k e, or-true)

at_holds : (tag s : List ℕ) → holds tag s ≡ true → (k : ℕ) × (starts_with tag (drop k s) ≡ true)
unfolding holds
at_holds tag [] e = (0, e)
at_holds tag (x ∷ s) e =
    cases (starts_with tag (x ∷ s))
    (λ t. (0, t))
    (λ f. let w = at_holds tag s (rw f at e) in (suc w.0, w.1))

complete_has : (s : List ℕ) (opening closing : ℕ) → starts_with opening_tag (drop opening s) ≡ true → starts_with closing_tag (drop closing s) ≡ true → opening + 5 ≤ closing → has_frame s ≡ true
unfolding has_frame starts_with
complete_has [] zero closing o c h = absurd (false≢true o)
complete_has [] (suc opening) closing o c h = absurd (false≢true o)
complete_has (x ∷ s) zero closing o c h =
    let n : 5 + (closing - 5) ≡ closing = omega arith in
    let there : starts_with closing_tag (drop (closing - 5) (drop 5 (x ∷ s))) ≡ true = rw (drop-drop (closing - 5) 5 (x ∷ s), n) c in
    rw (o, holds_at closing_tag (drop 5 (x ∷ s)) (closing - 5) there)
complete_has (x ∷ s) (suc opening) zero o c h = absurd (omega arith)
complete_has (x ∷ s) (suc opening) (suc closing) o c h = rw (complete_has s opening closing o c (omega arith), or-true)

has_complete : (s : List ℕ) → has_frame s ≡ true → Complete s
unfolding has_frame StandsAt
has_complete [] e = absurd (false≢true e)
has_complete (x ∷ s) e =
    cases (starts_with opening_tag (x ∷ s))
    (λ o. cases (holds closing_tag (drop 5 (x ∷ s)))
    (λ t. let w = at_holds closing_tag (drop 5 (x ∷ s)) t in record {
      opening = 0;
      closing = 5 + w.0;
      opened = o;
      closed = sym (ap (starts_with closing_tag) (drop-drop w.0 5 (x ∷ s))) ∙ w.1;
      behind = omega arith;
    })
    (λ f. later (has_complete s (rw (o, f) at e))))
    (λ n. later (has_complete s (rw n at e)))
  where
    later : Complete s → Complete (x ∷ s)
    later c = record {
      opening = suc c.opening;
      closing = suc c.closing;
      opened = c.opened;
      closed = c.closed;
      behind = omega (arith, c.behind);
    }

pub scan_number_lem : (s : List ℕ) → frame_number (frame_of s) ≡ scan_number s
unfolding StandsAt
scan_number_lem s = go (frame_of s) refl
  where
    go : (o : Option Frame) → frame_of s ≡ o → frame_number o ≡ scan_number s
    go (Some f) e =
        let w = found_frame s f.start f.end f.behind e in
        rw (complete_has s w.opening f.end w.opened.here w.closed.here (omega (arith, w.begins, w.closed.after)))
    go None e = cases (has_frame s) (λ t. absurd (not_there_lem s e (has_complete s t))) (λ f. rw f)
