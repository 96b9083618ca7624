-- The digits of a number, and the room that a reply's digits need. Assumes nothing.
use Prim.Native.Nat.{ℕ, zero, suc, ◌+◌, ◌-◌, ◌/◌, ◌%◌, ◌^◌, ◌≤◌, ◌<◌}
use mathlib.Core.Path.{◌≡◌, refl}
use mathlib.Core.Bool.{true}
use mathlib.Core.Logic.{⊎_elim}
use mathlib.Core.List.{List, [], ◌∷◌, ◌++◌}
use native.Mathlib.Omega.{arith}
use lib.Dec.{leb}
use lib.ListN.{length, take, drop, length-take}
use lib.Seq.{take_at}
use borrow.Author.Tests.{le-leb}
use Rattle.laws.proofs.Lists.{lt_or_le}
use Rattle.hexadecimal.specs.Hex.{text_of, laid, written_of}
use Rattle.std.specs.Prelude.{Ok, IsOk}
use borrow.Author.Rules.{rules}
use Rattle.hexadecimal.proofs.Writing.{text_length, text_none}
use Rattle.transcript.specs.Transcript.{digit_for, digits_for}

-- ---- a turn over the powers of ten
pub digits_turn : (k n power : ℕ) → 0 < k → power ≡ 10 ^ k → digits_for k n ≡ digit_for power n ++ digits_for (k - 1) n
unfolding digits_for
digits_turn zero n power h e = absurd (omega arith)
digits_turn (suc k) n power h e = let m : suc k - 1 ≡ k = omega arith in rw (m, e)

pub power_turn : (k power : ℕ) → 0 < k → power ≡ 10 ^ k → power / 10 ≡ 10 ^ (k - 1)
power_turn zero power h e = absurd (omega arith)
power_turn (suc k) power h e =
    let m : suc k - 1 ≡ k = omega arith in
    rw (m, e) (omega arith)

pub power_some : (k power : ℕ) → power ≡ 10 ^ k → 0 < power
power_some zero power e = omega (arith, e)
power_some (suc k) power e = omega (arith, e, power_some k (10 ^ k) refl)

pub digits_last : (k n : ℕ) → k ≡ 0 → digits_for k n ≡ (n % 10 + 48) ∷ []
unfolding digits_for
digits_last k n e = rw e

-- ---- 274 bytes are at most 821 characters
pub text_fits_reply : (bytes : List ℕ) → length bytes ≤ 274 → length (text_of bytes) ≤ 821
text_fits_reply bytes h =
    ⊎_elim
    (λ (l : 0 < length bytes). omega (arith, text_length bytes l))
    (λ (l : length bytes ≤ 0). rw (text_none bytes (omega arith)) (omega arith))
    (lt_or_le 0 (length bytes))

pub shown_short : (len : ℕ) (bytes : List ℕ) → length bytes ≡ 274 → length (take len bytes) ≤ 274
shown_short len bytes e = omega (arith, length-take len bytes)

module _ (bytes held : List ℕ) (h : length bytes ≤ 274) (room : length held ≡ 1024) where
  fits : leb (length (text_of bytes)) (length held) ≡ true
  fits = le-leb (length (text_of bytes)) (length held) (omega (arith, text_fits_reply bytes h))

  pub digits_written : (n : ℕ) → written_of (text_of bytes) (length held) ≡ Ok n → take n (laid (text_of bytes) held) ≡ text_of bytes
  digits_written n e =
      let w : Ok (length (text_of bytes)) ≡ Ok n = rw fits at e in
      let m : length (text_of bytes) ≡ n = cc in
      rw fits (take_at (text_of bytes) (drop (length (text_of bytes)) held) n m)

  pub digits_fit : IsOk (written_of (text_of bytes) (length held))
  digits_fit = rw fits (search rules)
