-- One bit of the division, as the code does it: twice the remainder without its highest bit, and the divisor taken off
-- where that bit and the message's differ. Assumes nothing.
use mathlib.Core.Path.{◌≡◌, refl, ap, ◌∙◌}
use Prim.Native.Nat.{ℕ, zero, suc, ◌+◌, ◌*◌, ◌^◌, ◌<◌}
use native.Mathlib.Omega.{arith}
use lib.Bits.{bit_xor, xor_block, xor_zero_r, xor_self}
use borrow.Author.Tests.{le-leb, lt-leb}
use Rattle.crc.specs.Division.{divided}

-- the message's bit meets only the bit that leaves
raised_at : (top bit moved : ℕ) → moved < 2 ^ 16 → bit_xor (top * 2 ^ 16 + moved) (bit * 2 ^ 16) ≡ bit_xor top bit * 2 ^ 16 + moved
raised_at top bit moved h =
    let e : bit * 2 ^ 16 ≡ bit * 2 ^ 16 + 0 = omega arith in
    rw e (xor_block 16 top bit moved 0 h (omega arith) ∙ ap (λ (x : ℕ). bit_xor top bit * 2 ^ 16 + x) (xor_zero_r moved))

-- two different bits
differing : (top bit : ℕ) → top < 2 → bit < 2 → (top ≡ bit → ⊥) → bit_xor top bit ≡ 1
differing zero zero h k n = absurd (n refl)
differing zero (suc zero) h k n = refl
differing (suc zero) zero h k n = refl
differing (suc zero) (suc zero) h k n = absurd (n refl)
differing (suc (suc top)) bit h k n = absurd (omega arith)
differing zero (suc (suc bit)) h k n = absurd (omega arith)
differing (suc zero) (suc (suc bit)) h k n = absurd (omega arith)

module _ (left bit top moved : ℕ) (e : left * 2 ≡ top * 2 ^ 16 + moved) (h : moved < 2 ^ 16) where
  pub kept : top ≡ bit → divided left bit ≡ moved
  unfolding divided
  kept s =
      let x : bit_xor (left * 2) (bit * 2 ^ 16) ≡ moved =
      ap (λ (n : ℕ). bit_xor n (bit * 2 ^ 16)) e ∙ raised_at top bit moved h
      ∙ ap (λ (n : ℕ). bit_xor n bit * 2 ^ 16 + moved) s
      ∙ ap (λ (n : ℕ). n * 2 ^ 16 + moved) (xor_self bit) ∙ omega arith in
      rw (x, lt-leb (2 ^ 16) moved h)

  pub taken_off : top < 2 → bit < 2 → (top ≡ bit → ⊥) → divided left bit ≡ bit_xor moved 0x1021
  unfolding divided
  taken_off t b n =
      let x : bit_xor (left * 2) (bit * 2 ^ 16) ≡ 1 * 2 ^ 16 + moved =
      ap (λ (n : ℕ). bit_xor n (bit * 2 ^ 16)) e ∙ raised_at top bit moved h
      ∙ ap (λ (n : ℕ). n * 2 ^ 16 + moved) (differing top bit t b n) in
      let y : bit_xor (1 * 2 ^ 16 + moved) (1 * 2 ^ 16 + 0x1021) ≡ bit_xor moved 0x1021 = xor_block 16 1 1 moved 0x1021 h (omega arith) ∙ omega arith in
      rw (x, le-leb (2 ^ 16) (1 * 2 ^ 16 + moved) (omega arith)) y
