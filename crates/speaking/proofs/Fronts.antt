-- The front of an untouched buffer, lent to a call. Assumes nothing.
use Prim.Native.Nat.{ℕ, ◌≤◌, ◌<◌, min}
use mathlib.Core.Path.{◌≡◌, sym, ap, ◌∙◌}
use mathlib.Core.List.{List}
use mathlib.Core.Logic.{⊎_elim}
use native.Mathlib.Omega.{arith}
use native.Mathlib.Nat.{min-le_right, min-eq_left, min-eq_right}
use lib.ListN.{length, take, length-replicate}
use lib.Seq.{length-take-le, take_all}
use Rattle.laws.proofs.Lists.{lt_or_le}
use Rattle.speaking.specs.Speaking.{blank}

blank_length : length blank ≡ 1024
unfolding blank
blank_length = length-replicate {A = ℕ} 1024 0xEE

module _ (n count : ℕ) (b : List ℕ) (is : n ≡ min count 1024) (all : b ≡ blank) where
  room : length b ≡ 1024
  room = ap length all ∙ blank_length

  fits : n ≤ length b
  fits = rw (room, is) (min-le_right count 1024)

  pub lent : n ≡ length (take n b)
  lent = sym (length-take-le n b fits)

  -- the part that is lent is the front of an untouched buffer
  pub untouched : take n b ≡ take count blank
  untouched =
      ⊎_elim
      (λ (h : count < 1024).
      let e : min count 1024 ≡ count = min-eq_left (omega arith) in
      rw (is, all, e))
      (λ (h : 1024 ≤ count).
      let e : min count 1024 ≡ 1024 = min-eq_right h in
      rw (is, all, e, take_all 1024 blank (omega (arith, blank_length)), take_all count blank (omega (arith, blank_length))))
      (lt_or_le count 1024)
