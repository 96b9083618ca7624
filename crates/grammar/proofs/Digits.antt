-- A number's digits, one equation for each way that the code can go. Assumes nothing.
use Prim.Native.Nat.{ℕ, ◌+◌, ◌-◌, ◌*◌, ◌≤◌, ◌<◌}
use mathlib.Core.Path.{◌≡◌, refl, ap, sym}
use mathlib.Core.Bool.{Bool, true, false, cond, not}
use mathlib.Core.Logic.{⊎_elim}
use mathlib.Core.List.{List, [], ◌∷◌}
use native.Mathlib.Omega.{arith}
use lib.Dec.{leb, leb-zero}
use lib.ListN.{length, drop}
use borrow.Author.Tests.{ne_eqb, le-leb, lt-leb, leb-true}
use Rattle.hexadecimal.specs.Hex.{between}
use Rattle.hexadecimal.proofs.Tests.{between_yes, between_low, between_high}
use Rattle.laws.proofs.Lists.{drop_end, lt_or_le}
use Rattle.grammar.specs.Grammar.{Read, fails, reads, peek_at}
use Rattle.grammar.specs.Numbers.{digits, spells, plain, within, number, digit_at}
use Rattle.grammar.proofs.Bytes.{peek_past, peek_front}

-- ---- the digit at a place
module _ (s : List ℕ) (i : ℕ) where
  pub digit_low : peek_at s i < 48 → digit_at s i ≡ 10
  unfolding digit_at
  digit_low h = rw (between_low 48 57 (peek_at s i) h)

  pub digit_high : 57 < peek_at s i → digit_at s i ≡ 10
  unfolding digit_at
  digit_high h = rw (between_high 48 57 (peek_at s i) h)

  pub digit_is : 48 ≤ peek_at s i → peek_at s i ≤ 57 → digit_at s i ≡ peek_at s i - 48
  unfolding digit_at
  digit_is h k = rw (between_yes 48 57 (peek_at s i) h k)

  -- no digit stands here, at the end neither
  none_here : between 48 57 (peek_at s i) ≡ false → digits (drop i s) ≡ []
  unfolding digits
  none_here e =
      ⊎_elim
      (λ (h : i < length s). rw (peek_front s i h, e))
      (λ (h : length s ≤ i). rw (drop_end s i h))
      (lt_or_le i (length s))

  pub stop : 9 < digit_at s i → digits (drop i s) ≡ []
  stop h =
      ⊎_elim
      (λ (low : peek_at s i < 48). none_here (between_low 48 57 (peek_at s i) low))
      (λ (k : 48 ≤ peek_at s i).
      ⊎_elim
      (λ (high : 57 < peek_at s i). none_here (between_high 48 57 (peek_at s i) high))
      (λ (l : peek_at s i ≤ 57). absurd (omega (arith, digit_is k l)))
      (lt_or_le 57 (peek_at s i)))
      (lt_or_le (peek_at s i) 48)

  pub more : digit_at s i < 10 → digits (drop i s) ≡ digit_at s i ∷ digits (drop (i + 1) s)
  unfolding digits
  more h =
      ⊎_elim
      (λ (low : peek_at s i < 48). absurd (omega (arith, digit_low low)))
      (λ (k : 48 ≤ peek_at s i).
      ⊎_elim
      (λ (high : 57 < peek_at s i). absurd (omega (arith, digit_high high)))
      (λ (l : peek_at s i ≤ 57).
      ⊎_elim
      (λ (m : i < length s). rw (digit_is k l, peek_front s i m, between_yes 48 57 (peek_at s i) k l))
      (λ (m : length s ≤ i). absurd (omega (arith, peek_past s i m)))
      (lt_or_le i (length s)))
      (lt_or_le 57 (peek_at s i)))
      (lt_or_le (peek_at s i) 48)

-- ---- what digits spell
pub spells_grows : (v : ℕ) (ds : List ℕ) → v ≤ spells v ds
unfolding spells
spells_grows v [] = omega arith
spells_grows v (d ∷ ds) = omega (arith, spells_grows (v * 10 + d) ds)

pub spells_end : (v : ℕ) (ds : List ℕ) → ds ≡ [] → spells v ds ≡ v
unfolding spells
spells_end v ds e = ap (spells v) e

pub spells_turn : (s : List ℕ) (i v : ℕ) → digit_at s i < 10 → spells v (digits (drop i s)) ≡ spells (v * 10 + digit_at s i) (digits (drop (i + 1) s))
unfolding spells
spells_turn s i v h = ap (spells v) (more s i h)

plain_other : (d : ℕ) (ds : List ℕ) → (d ≡ 0 → ⊥) → plain (d ∷ ds) ≡ true
plain_other d [] n = refl
plain_other d (e ∷ ds) n = ap not (ne_eqb d 0 n)

no_way : (t : Bool) → cond {A = Read ℕ} t fails fails ≡ fails
no_way true = refl
no_way false = refl

-- ---- the answers
module _ (limit : ℕ) (s : List ℕ) (i : ℕ) where
  pub number_none : 9 < digit_at s i → fails ≡ number limit s i
  unfolding number
  number_none h = sym (ap (within limit i) (stop s i h))

  pub number_zero : digit_at s i ≡ 0 → 9 < digit_at s (i + 1) → reads 0 (i + 1) ≡ number limit s i
  unfolding number spells
  number_zero z h = rw (more s i (omega arith), z, stop s (i + 1) h, leb-zero limit)

  pub number_led : digit_at s i ≡ 0 → digit_at s (i + 1) < 10 → fails ≡ number limit s i
  unfolding number
  number_led z h = rw (more s i (omega arith), z, more s (i + 1) h)

  pub number_over : limit < spells 0 (digits (drop i s)) → fails ≡ number limit s i
  unfolding number
  number_over h = rw (lt-leb (spells 0 (digits (drop i s))) limit h, no_way (plain (digits (drop i s))))

  pub number_is : (v j : ℕ) → digit_at s i < 10 → (digit_at s i ≡ 0 → ⊥) → v ≡ spells 0 (digits (drop i s)) → v ≤ limit → j ≡ i + length (digits (drop i s))
      → reads v j ≡ number limit s i
  unfolding number
  number_is v j h n p m q =
      let t : plain (digits (drop i s)) ≡ true = rw (more s i h) (plain_other (digit_at s i) (digits (drop (i + 1) s)) n) in
      rw (p, q, t, le-leb (spells 0 (digits (drop i s))) limit (omega arith))

-- ---- a number is at most its limit
most : (limit v j x k : ℕ) (plainly under : Bool) → (under ≡ true → x ≤ limit) → cond plainly (cond {A = Read ℕ} under (reads x k) fails) fails ≡ reads v j → v ≤ limit
most limit v j x k true true h e = let p : x ≡ v = cc in omega (arith, h refl)
most limit v j x k true false h e = let z : ◌≡◌ {A = ℕ} 0 1 = cc in absurd (omega arith)
most limit v j x k false under h e = let z : ◌≡◌ {A = ℕ} 0 1 = cc in absurd (omega arith)

pub number_most : (limit : ℕ) (s : List ℕ) (i v j : ℕ) → number limit s i ≡ reads v j → v ≤ limit
unfolding number
number_most limit s i v j e =
    let ds = digits (drop i s) in
    most limit v j (spells 0 ds) (i + length ds) (plain ds) (leb (spells 0 ds) limit) (leb-true (spells 0 ds) limit) e
