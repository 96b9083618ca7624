-- What was written reads back: the same bytes, and the same number. Assumes nothing.
use Rattle.std.specs.Prelude.{Option, Some}
use Prim.Native.Nat.{ℕ, suc, ◌+◌, ◌*◌, ◌/◌, ◌%◌, ◌^◌, ◌≤◌, ◌<◌}
use mathlib.Core.Path.{◌≡◌, ap, ap₂, ◌∙◌}
use mathlib.Core.Logic.{⊎_elim}
use mathlib.Core.List.{List, [], ◌∷◌}
use native.Mathlib.Nat.{div-add-mod', div-div-eq-div-mul}
use native.Mathlib.Omega.{arith}
use lib.ListN.{get_or}
use borrow.Author.Tests.{lt-ltb, le-ltb}
use Rattle.laws.proofs.Lists.{lt_or_le}
use Rattle.hexadecimal.specs.Hex.{digit_of, joined, pair_of, led, payload_of, capital_of, spaced, text_of, word_of, word_text}
use Rattle.hexadecimal.proofs.Tests.{between_yes, between_high}

digit_back : (v : ℕ) → v < 16 → digit_of (capital_of v) ≡ Some v
digit_back v h =
    ⊎_elim
    (λ (l : v < 10). simp (lt-ltb v 10 l, between_yes 48 57 (v + 48) (omega arith) (omega arith)) (ap Some (omega arith)))
    (λ (l : 10 ≤ v). simp (le-ltb v 10 l, between_high 48 57 (v + 55) (omega arith), between_yes 65 70 (v + 55) (omega arith) (omega arith)) (ap Some (omega arith)))
    (lt_or_le v 10)

-- a byte's two digits
pub pair_back : (b : ℕ) → b < 256 → pair_of (capital_of (b / 16)) (capital_of (b % 16)) ≡ Some b
unfolding pair_of
pair_back b h =
    ap₂ joined (digit_back (b / 16) (omega arith)) (digit_back (b % 16) (omega arith)) ∙ ap Some (omega arith)

-- one or more bytes: reading the text that was written gives them again
pub reads_back : (b : ℕ) (bytes : List ℕ) → ((k : ℕ) → get_or (b ∷ bytes) k 0 < 256) → payload_of (text_of (b ∷ bytes)) ≡ Some (b ∷ bytes)
unfolding payload_of text_of spaced
reads_back b [] h = ap (λ (p : Option ℕ). led p (Some [])) (pair_back b (h 0))
reads_back b (a ∷ bytes) h =
    ap₂ led (pair_back b (h 0)) (reads_back a bytes (λ k. h (suc k)))

-- a 32-bit number
pub word_back : (x : ℕ) → x < 2 ^ 32 → word_of (word_text x) ≡ Some x
unfolding word_of word_text
word_back x h =
    let one : x / 256 * 256 + x % 256 ≡ x = div-add-mod' x 256 in
    let two : x / 65536 * 256 + x / 256 % 256 ≡ x / 256 = rw (div-div-eq-div-mul x 256 256) at (div-add-mod' (x / 256) 256) in
    let three : x / 16777216 * 256 + x / 65536 % 256 ≡ x / 65536 = rw (div-div-eq-div-mul x 65536 256) at (div-add-mod' (x / 65536) 256) in
    let four : x / 16777216 % 256 ≡ x / 16777216 = omega arith in
    rw (
      pair_back (x / 16777216 % 256) (omega arith),
      pair_back (x / 65536 % 256) (omega arith),
      pair_back (x / 256 % 256) (omega arith),
      pair_back (x % 256) (omega arith),
    )
    (ap Some (omega (arith, one, two, three, four)))
