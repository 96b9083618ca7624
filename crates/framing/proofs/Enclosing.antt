-- What was written between the tags and the tags around it are the frame. Assumes nothing.
use Prim.Native.Nat.{ℕ, ◌+◌, ◌-◌, ◌≤◌, ◌<◌}
use mathlib.Core.Path.{◌≡◌, refl, ap, ap₂, sym, ◌∙◌}
use mathlib.Core.Bool.{Bool, true, false, cond}
use mathlib.Core.Logic.{⊎_elim}
use mathlib.Core.List.{List, ◌++◌, append_assoc}
use native.Mathlib.Omega.{arith}
use lib.Dec.{leb}
use lib.ListN.{length, take, drop, length-append, length-drop, take-append-drop}
use lib.Seq.{sets, sets-eq, length-take-le, take-append_seam, drop-append-add, drop-append-le, drop_at, drop-drop}
use borrow.Author.Tests.{le-leb, lt-leb}
use borrow.Rule.Slice.PartMut.{mid_of, put_mid, mid_len, put_same, same_len_mid}
use Rattle.laws.proofs.Lists.{lt_or_le, sets_front}
use Rattle.hexadecimal.specs.Hex.{laid}
use Rattle.std.specs.Prelude.{Result, Ok, Err}
use Rattle.framing.specs.Framing.{reply_tag, reply_end, reply_frame, framed_of, enclosed_held}
use Rattle.framing.specs.declared.FrameRefusal.{FrameRefusal}
use Rattle.framing.specs.declared.FrameRefusal.TheVariants.{OutputTooShort}

-- ---- a text at the front of a buffer: there is the room for it, or there is not
module _ (text : List ℕ) where
  pub framed_fits : (room : ℕ) → length text ≤ room → framed_of text room ≡ Ok (length text)
  framed_fits room h = rw (le-leb (length text) room h)

  pub framed_short : (room : ℕ) → room < length text → framed_of text room ≡ Err OutputTooShort
  framed_short room h = rw (lt-leb (length text) room h)

  pub laid_fits : (held : List ℕ) → length text ≤ length held → laid text held ≡ text ++ drop (length text) held
  laid_fits held h = rw (le-leb (length text) (length held) h)

  pub laid_short : (held : List ℕ) → length held < length text → laid text held ≡ held
  laid_short held h = rw (lt-leb (length text) (length held) h)

differ : {X : Type 0} {e : FrameRefusal} {n : ℕ} → ◌≡◌ {A = Result ℕ FrameRefusal} (Err e) (Ok n) → X
differ e = let z : ◌≡◌ {A = ℕ} 0 1 = cc in absurd (omega arith)

same_length : {n m : ℕ} → ◌≡◌ {A = Result ℕ FrameRefusal} (Ok n) (Ok m) → n ≡ m
same_length e = cc

-- ---- the tags around a text

pub frame_length : (text : List ℕ) → length (reply_frame text) ≡ length text + 13
frame_length text = omega (arith, length-append text reply_end)

-- a run of stores behind p
sets_behind : (p q new : List ℕ) (n : ℕ) → length p ≡ n → length new ≤ length q → sets (p ++ q) n new ≡ p ++ new ++ drop (length new) q
sets_behind p q new n e h =
    rw (← e)
    (sets-eq new (p ++ q) (length p) (omega (arith, length-append p q))
    ∙ ap₂ (λ (a b : List ℕ). a ++ new ++ b) (take-append_seam p q) (drop-append-add p q (length new)))

module _ (text out : List ℕ) (room : 13 ≤ length out) where
  -- what lies between the tags of the longest frame that out has room for, and out with other elements there
  abbrev between : List ℕ
  between = mid_of 5 (length out - 8 - 5) out

  abbrev back : List ℕ → List ℕ
  back inner = put_mid 5 (length out - 8 - 5) out inner

  between_length : length between + 13 ≡ length out
  between_length = omega (arith, mid_len 5 (length out - 8) out (omega arith))

  back_fits : length text + 13 ≤ length out → back (laid text between) ≡ take 5 out ++ (text ++ drop (5 + length text) out)
  back_fits h =
      let k = length out - 8 - 5 in
      let n = length text in
      let fits : n ≤ length between = omega (arith, between_length) in
      ap (λ (l : List ℕ). take 5 out ++ (l ++ drop k (drop 5 out))) (laid_fits text between fits)
      ∙ ap (λ (l : List ℕ). take 5 out ++ l)
      (append_assoc text (drop n between) (drop k (drop 5 out))
      ∙ ap (λ (l : List ℕ). text ++ l)
      (sym (drop-append-le n between (drop k (drop 5 out)) fits) ∙ ap (drop n) (take-append-drop k (drop 5 out)) ∙ drop-drop n 5 out))

  held_fits : length text + 13 ≤ length out
      → sets (sets (take 5 out ++ (text ++ drop (5 + length text) out)) 0 reply_tag) (5 + length text) reply_end ≡ reply_frame text ++ drop (length (reply_frame text)) out
  held_fits h =
      let rest = drop (5 + length text) out in
      let left : length rest ≡ length out - (5 + length text) = length-drop (5 + length text) out in
      let front : length (take 5 out) ≡ 5 = length-take-le 5 out (omega arith) in
      let tag : sets (take 5 out ++ (text ++ rest)) 0 reply_tag ≡ reply_tag ++ text ++ rest =
      sets_front (take 5 out ++ (text ++ rest)) reply_tag (omega (arith, length-append (take 5 out) (text ++ rest)))
      ∙ ap (λ (l : List ℕ). reply_tag ++ l) (drop_at (take 5 out) (text ++ rest) 5 front) in
      let whole : 5 + length text + 8 ≡ length (reply_frame text) = omega (arith, frame_length text) in
      let end : drop 8 rest ≡ drop (length (reply_frame text)) out = drop-drop 8 (5 + length text) out ∙ ap (λ (n : ℕ). drop n out) whole in
      ap (λ (l : List ℕ). sets l (5 + length text) reply_end) tag
      ∙ sets_behind (reply_tag ++ text) rest reply_end (5 + length text) (omega arith) (omega arith)
      ∙ ap (λ (l : List ℕ). reply_frame text ++ l) end

  -- what was written between the tags, and what between then holds
  module _ (written : List ℕ) (held : written ≡ laid text between) where
    module _ {n : ℕ} (answer : Ok n ≡ framed_of text (length between)) where
      told_length : (n ≡ length text) × (length text + 13 ≤ length out)
      told_length =
          let b = between_length in
          ⊎_elim
          (λ (l : length between < length text). differ (sym (answer ∙ framed_short text (length between) l)))
          (λ (l : length text ≤ length between). (same_length (answer ∙ framed_fits text (length between) l), omega arith))
          (lt_or_le (length between) (length text))

      pub enclosed : (Ok (n + 13) ≡ framed_of (reply_frame text) (length out)) × (enclosed_held n (back written) ≡ laid (reply_frame text) out)
      enclosed =
          let k = frame_length text in
          let t = told_length in
          let h = t.1 in
          rw (
            t.0,
            held,
            framed_fits (reply_frame text) (length out) (omega arith),
            laid_fits (reply_frame text) out (omega arith),
            back_fits h,
          )
          (ap Ok (sym k), held_fits h)

-- a text copied over what lay at a place
pub copied : (out text : List ℕ) (at : ℕ) → at + length text ≤ length out → {n : ℕ} → n ≡ length text → put_mid at n out text ≡ sets out at text
copied out text at h e = rw (e, drop-drop (length text) at out) (sym (append_assoc (take at out) text (drop (at + length text) out)) ∙ sym (sets-eq text out at h))
