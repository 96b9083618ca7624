-- Numbers with a sign. Assumes nothing.
use Prim.Native.Nat.{ℕ, zero, suc, ◌+◌, ◌-◌, ◌≤◌, ◌<◌}
use mathlib.Core.Path.{◌≡◌, refl, sym}
use mathlib.Core.List.{List}
use native.Mathlib.Omega.{arith}
use lib.IntN.{pos, negsuc}
use mir.Syntax.{w16, w32}
use mir.Val.{to_z, of_z}
use mir.ValLaws.{to_z-of_z}
use mathlib.Core.Bool.{true, false}
use Rattle.std.specs.Prelude.{Option, Some, None, nat_eq, ◌-ℤ◌, FitsSigned}
use Rattle.std.specs.Option.{option_eq}
use borrow.Author.Tests.{eqb-true, lt-ltb}
use Rattle.std.proofs.lemmas.Bool.{eqb-false}
use Rattle.grammar.specs.Views.{peeked}
use Rattle.grammar.specs.Grammar.{fails, reads, peek_at}
use Rattle.grammar.specs.Numbers.{number, signed}
use Rattle.grammar.proofs.Bytes.{byte_is, byte_not}
use Rattle.grammar.proofs.Digits.{digit_low, number_none}

-- ---- the sign that stands in front
pub dash : (o : Option ℕ) → true ≡ option_eq nat_eq o (Some 45) → peeked o ≡ 45
dash None e = let z : ◌≡◌ {A = ℕ} 0 1 = cc in absurd (omega arith)
dash (Some x) e = eqb-true x 45 (sym e)

pub no_dash : (o : Option ℕ) → false ≡ option_eq nat_eq o (Some 45) → peeked o ≡ 45 → ⊥
no_dash None e q = absurd (omega arith)
no_dash (Some x) e q = eqb-false x 45 (sym e) q

-- ---- casts of a magnitude
pub above16 : (m : ℕ) → m < 32768 → to_z w16 m ≡ pos m
above16 m h = to_z-of_z w16 (pos m) (record { sfits = omega arith })

pub above32 : (m : ℕ) → m ≤ 32768 → to_z w32 m ≡ pos m
above32 m h = to_z-of_z w32 (pos m) (record { sfits = omega arith })

negated : (m : ℕ) → 0 < m → pos 0 -ℤ pos m ≡ negsuc (m - 1)
negated zero h = absurd (omega arith)
negated (suc n) h = let e : suc n - 1 ≡ n = omega arith in rw (e, lt-ltb 0 (suc n) (omega arith))

module _ (m : ℕ) (some : 0 < m) (most : m ≤ 32768) where
  pub negative_fits : FitsSigned w32 (pos 0 -ℤ to_z w32 m)
  negative_fits = rw (above32 m most, negated m some) (record { sfits = omega arith })

  pub negative : to_z w32 (of_z w32 (pos 0 -ℤ to_z w32 m)) ≡ negsuc (m - 1)
  negative = rw (above32 m most, negated m some) (to_z-of_z w32 (negsuc (m - 1)) (record { sfits = omega arith }))

  pub negative16 : to_z w16 (of_z w16 (to_z w32 (of_z w32 (pos 0 -ℤ to_z w32 m)))) ≡ negsuc (m - 1)
  negative16 = rw negative (to_z-of_z w16 (negsuc (m - 1)) (record { sfits = omega arith }))

-- ---- the answers
module _ (s : List ℕ) (i : ℕ) where
  module _ (m : peek_at s i ≡ 45) where
    -- a - is no digit, so that what comes behind it is the only way
    no_digit : number 32767 s i ≡ fails
    no_digit = sym (number_none 32767 s i (omega (arith, digit_low s i (omega arith))))

    pub minus_fails : number 32768 s (i + 1) ≡ fails → fails ≡ signed s i
    unfolding signed
    minus_fails e = rw (byte_is 45 s i m, e, no_digit)

    pub minus_zero : (v j : ℕ) → number 32768 s (i + 1) ≡ reads v j → v ≡ 0 → fails ≡ signed s i
    unfolding signed
    minus_zero v j e z = rw (byte_is 45 s i m, e, z, no_digit)

    pub minus_is : (v j : ℕ) → number 32768 s (i + 1) ≡ reads v j → (v ≡ 0 → ⊥) → reads (negsuc (v - 1)) j ≡ signed s i
    unfolding signed
    minus_is zero j e n = absurd (n refl)
    minus_is (suc v) j e n =
        let p : suc v - 1 ≡ v = omega arith in
        rw (p, byte_is 45 s i m, e)

  module _ (m : peek_at s i ≡ 45 → ⊥) where
    pub plus_fails : number 32767 s i ≡ fails → fails ≡ signed s i
    unfolding signed
    plus_fails e = rw (byte_not 45 s i m, e)

    pub plus_is : (v j : ℕ) → number 32767 s i ≡ reads v j → reads (pos v) j ≡ signed s i
    unfolding signed
    plus_is v j e = rw (byte_not 45 s i m, e)
