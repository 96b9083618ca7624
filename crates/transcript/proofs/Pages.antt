-- A text that has the room stands whole at the front of a buffer, and no line of a transcript is longer than 1,024
-- characters. Assumes nothing.
use Prim.Native.Nat.{ℕ, zero, suc, ◌+◌, ◌/◌, ◌%◌, ◌^◌, ◌≤◌}
use mathlib.Core.Path.{◌≡◌, refl, ap, ◌∙◌}
use mathlib.Core.Bool.{Bool, true, false, cond}
use mathlib.Core.List.{List, [], ◌∷◌, ◌++◌}
use native.Mathlib.Omega.{arith}
use lib.Dec.{ltb}
use lib.ListN.{length, take, drop, set, length-set, length-append}
use lib.Seq.{sets}
use borrow.Author.Tests.{lt-ltb}
use Rattle.laws.proofs.Lists.{sets_step, sets_front}
use Rattle.hexadecimal.specs.Hex.{word_text}
use Rattle.wire.specs.Replies.{shown}
use Rattle.wire.specs.declared.reply.Reply.{Reply}
use Rattle.state.specs.declared.parts.Board.{Board}
use Rattle.script.specs.Printing.{page, and, typed}
use Rattle.transcript.specs.Transcript.{digit_for, digits_for, made_text, tick_text}
use Rattle.transcript.proofs.Digits.{text_fits_reply, shown_short}

typed_sets : (t held : List ℕ) (at : ℕ) → at + length t ≤ length held → typed (page held at) t ≡ page (sets held at t) (at + length t)
unfolding typed and
typed_sets [] held at h = let e : at ≡ at + 0 = omega arith in ap (page held) e
typed_sets (c ∷ t) held at h =
    let e : at + 1 + length t ≡ at + suc (length t) = omega arith in
    rw (lt-ltb at (length held) (omega arith))
    (typed_sets t (set held at c) (at + 1) (omega (arith, length-set held at c)) ∙ ap (λ (l : List ℕ). page l (at + 1 + length t)) (sets_step held at c t) ∙ ap (page (sets held at (c ∷ t))) e)

-- what is printed is the text, and the bytes behind it stay
pub printed_whole : (t held : List ℕ) → length t ≤ length held → typed (page held 0) t ≡ page (t ++ drop (length t) held) (length t)
printed_whole t held h =
    let e : 0 + length t ≡ length t = omega arith in
    typed_sets t held 0 (omega arith) ∙ ap (page (sets held 0 t)) e ∙ ap (λ (l : List ℕ). page l (length t)) (sets_front held t h)

-- ---- how long a line is
digit_length : (power n : ℕ) → length (digit_for power n) ≤ 1
digit_length power n = go (ltb n power) (n / power % 10 + 48)
  where
    go : (b : Bool) (d : ℕ) → length (cond b [] (d ∷ [])) ≤ 1
    go true d = omega arith
    go false d = omega arith

digits_length : (k n : ℕ) → length (digits_for k n) ≤ k + 1
unfolding digits_for
digits_length zero n = omega arith
digits_length (suc k) n = rw (length-append (digit_for (10 ^ suc k) n) (digits_for k n)) (omega (arith, digit_length (10 ^ suc k) n, digits_length k n))

word_length : (x : ℕ) → length (word_text x) ≡ 8
unfolding word_text
word_length x = refl

made_length : (replied : Bool) (r : Reply) → length r.bytes ≡ 274 → length (made_text replied r) ≤ 822
unfolding made_text shown
made_length true r e = omega (arith, text_fits_reply (take r.len r.bytes) (shown_short r.len r.bytes e))
made_length false r e = omega arith

pub line_length : (number : ℕ) (replied : Bool) (b : Board) → length b.reply.bytes ≡ 274 → length (tick_text number replied b) ≤ 1024
unfolding tick_text
line_length number replied b e =
    simp length-append
    (omega (arith, digits_length 9 number, word_length b.channels.on, word_length b.channels.latched, made_length replied b.reply e))
