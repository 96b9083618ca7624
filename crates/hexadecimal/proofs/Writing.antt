-- The equations of the written form. Assumes nothing.
use Rattle.std.specs.Prelude.{Ok, Err}
use Rattle.hexadecimal.specs.declared.WriteRefusal.TheVariants.{NoRoom}
use Prim.Native.Nat.{ℕ, ◌+◌, ◌*◌, ◌≤◌, ◌<◌}
use mathlib.Core.Path.{◌≡◌, refl, ap, sym, ◌∙◌}
use mathlib.Core.Bool.{true, false}
use mathlib.Core.List.{List, [], ◌∷◌}
use native.Mathlib.Omega.{arith}
use native.Mathlib.Numerals.{towards_suc}
use lib.Dec.{leb}
use lib.ListN.{length, drop, get_or, set}
use lib.Seq.{sets}
use borrow.Author.Tests.{le-leb, lt-leb}
use Rattle.laws.proofs.Lists.{drop_step, drop_end, sets_front}
use Rattle.hexadecimal.specs.Hex.{digits_of, spaced, text_of, written_of, laid}

spaced_length : (bs : List ℕ) → length (spaced bs) ≡ 3 * length bs
unfolding spaced
spaced_length [] = refl
spaced_length (b ∷ bs) = omega (arith, spaced_length bs)

pub text_length : (bs : List ℕ) → 0 < length bs → length (text_of bs) + 1 ≡ 3 * length bs
unfolding text_of
text_length [] h = absurd (omega arith)
text_length (b ∷ bs) h = omega (arith, spaced_length bs)

pub text_none : (bs : List ℕ) → length bs ≡ 0 → text_of bs ≡ []
unfolding text_of
text_none [] h = refl
text_none (b ∷ bs) h = absurd (omega arith)

pub spaced_end : (bs : List ℕ) (i : ℕ) → length bs ≤ i → spaced (drop i bs) ≡ []
unfolding spaced
spaced_end bs i h = ap spaced (drop_end bs i h)

module _ (bs out : List ℕ) where
  -- the first pair, and then what is left
  pub first_pair : 0 < length bs → sets (sets out 0 (digits_of (get_or bs 0 0))) 2 (spaced (drop 1 bs)) ≡ sets out 0 (text_of bs)
  unfolding text_of
  first_pair h = sym (ap (λ (l : List ℕ). sets out 0 (text_of l)) (drop_step bs 0 h))

  -- a turn
  pub next_pair : (i k : ℕ) → i < length bs
      → sets (sets (set out k 32) (k + 1) (digits_of (get_or bs i 0))) (k + 3) (spaced (drop (i + 1) bs)) ≡ sets out k (spaced (drop i bs))
  unfolding spaced
  next_pair i k h = rw (drop_step bs i h) (simp towards_suc)

  pub write_none : length bs ≡ 0 → (Ok 0 ≡ written_of (text_of bs) (length out)) × (out ≡ laid (text_of bs) out)
  write_none h =
      let t : leb 0 (length out) ≡ true = le-leb 0 (length out) (omega arith) in
      rw (text_none bs h, t) (refl, refl)

  pub write_short : (length out + 1) < 3 * length bs → (Err NoRoom ≡ written_of (text_of bs) (length out)) × (out ≡ laid (text_of bs) out)
  write_short h =
      let t : leb (length (text_of bs)) (length out) ≡ false = lt-leb (length (text_of bs)) (length out) (omega (arith, text_length bs (omega arith))) in
      rw t (refl, refl)

  pub write_whole : (k : ℕ) (held : List ℕ) → 0 < length bs → k + 1 ≡ 3 * length bs → k ≤ length out → held ≡ sets out 0 (text_of bs)
      → (Ok k ≡ written_of (text_of bs) (length out)) × (held ≡ laid (text_of bs) out)
  write_whole k held p e h q =
      let n : k ≡ length (text_of bs) = omega (arith, text_length bs p) in
      let t : leb (length (text_of bs)) (length out) ≡ true = le-leb (length (text_of bs)) (length out) (omega arith) in
      rw t (ap Ok n, q ∙ sets_front out (text_of bs) (omega arith))
