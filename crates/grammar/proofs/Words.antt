-- Eight hex digits at a place are those of the part of the text from there on. Assumes nothing.
use Prim.Native.Nat.{ℕ, zero, suc, ◌+◌, ◌*◌, ◌≤◌, ◌<◌}
use mathlib.Core.Path.{◌≡◌, refl, ap, sym, ◌∙◌}
use mathlib.Core.Logic.{⊎_elim}
use mathlib.Core.List.{List, [], ◌∷◌}
use native.Mathlib.Omega.{arith}
use lib.ListN.{length, take, drop, length-take, length-drop}
use borrow.Author.Tests.{ne_eqb}
use Rattle.std.specs.Prelude.{Option, Some, None}
use Rattle.laws.proofs.Lists.{drop_step, lt_or_le}
use Rattle.hexadecimal.specs.Hex.{digit_of, joined, pair_of, four_pairs, word_of}
use Rattle.hexadecimal.proofs.Tests.{between_high}
use Rattle.grammar.specs.Grammar.{Read, fails, reads, on, peek_at}
use Rattle.grammar.specs.Numbers.{value_at, hex_digit, word}
use Rattle.grammar.proofs.Bytes.{peek_past, peek_inside}

-- past the end stands no digit
pub past_bad : (x : ℕ) → 255 < x → digit_of x ≡ None
past_bad x h = simp (between_high 48 57 x (omega arith), between_high 65 70 x (omega arith), between_high 97 102 x (omega arith))

-- where fewer characters are left than digits have to stand, they do not
word_short : (n v : ℕ) (s : List ℕ) (i : ℕ) → 0 < n → length s < i + n → word n v s i ≡ fails
unfolding word hex_digit
word_short zero v s i p h = absurd (omega arith)
word_short (suc n) v s i p h =
    ⊎_elim
    (λ (l : i < length s). go (λ d. word_short n (v * 16 + d) s (i + 1) (omega arith) (omega arith)) (digit_of (peek_at s i)))
    (λ (l : length s ≤ i). ap (λ (x : Option ℕ). on (value_at i x) (λ d j. word n (v * 16 + d) s j)) (past_bad (peek_at s i) (omega (arith, peek_past s i l))))
    (lt_or_le i (length s))
  where
    go : ((d : ℕ) → word n (v * 16 + d) s (i + 1) ≡ fails) → (x : Option ℕ) → on (value_at i x) (λ d j. word n (v * 16 + d) s j) ≡ fails
    go rest None = refl
    go rest (Some d) = rest d

-- what digits spell behind v, one by one
abbrev spelt_by : List (Option ℕ) → ℕ → ℕ → Read ℕ
spelt_by [] v j = reads v j
spelt_by (None ∷ xs) v j = fails
spelt_by (Some d ∷ xs) v j = spelt_by xs (v * 16 + d) j

abbrev digits_at : ℕ → List ℕ → ℕ → List (Option ℕ)
digits_at zero s i = []
digits_at (suc n) s i = digit_of (peek_at s i) ∷ digits_at n s (i + 1)

word_spelt : (n v : ℕ) (s : List ℕ) (i : ℕ) → word n v s i ≡ spelt_by (digits_at n s i) v (i + n)
unfolding word hex_digit
word_spelt zero v s i = let z : i ≡ i + 0 = omega arith in ap (reads v) z
word_spelt (suc n) v s i =
    let behind : i + suc n ≡ i + 1 + n = omega arith in
    rw behind (go (λ d. word_spelt n (v * 16 + d) s (i + 1)) (digit_of (peek_at s i)))
  where
    go : ((d : ℕ) → word n (v * 16 + d) s (i + 1) ≡ spelt_by (digits_at n s (i + 1)) (v * 16 + d) (i + 1 + n)) → (x : Option ℕ)
        → on (value_at i x) (λ d j. word n (v * 16 + d) s j) ≡ spelt_by (x ∷ digits_at n s (i + 1)) v (i + 1 + n)
    go rest None = refl
    go rest (Some d) = rest d

-- the place behind them
abbrev pub seen_word : ℕ → Option ℕ → Read ℕ
seen_word j (Some v) = reads v j
seen_word j None = fails

digits_worth : (j : ℕ) (a b c d e f g h : Option ℕ)
    → spelt_by (a ∷ b ∷ c ∷ d ∷ e ∷ f ∷ g ∷ h ∷ []) 0 j ≡ seen_word j (four_pairs (joined a b) (joined c d) (joined e f) (joined g h))
digits_worth j None b c d e f g h = refl
digits_worth j (Some a) None c d e f g h = refl
digits_worth j (Some a) (Some b) None d e f g h = refl
digits_worth j (Some a) (Some b) (Some c) None e f g h = refl
digits_worth j (Some a) (Some b) (Some c) (Some d) None f g h = refl
digits_worth j (Some a) (Some b) (Some c) (Some d) (Some e) None g h = refl
digits_worth j (Some a) (Some b) (Some c) (Some d) (Some e) (Some f) None h = refl
digits_worth j (Some a) (Some b) (Some c) (Some d) (Some e) (Some f) (Some g) None = refl
digits_worth j (Some a) (Some b) (Some c) (Some d) (Some e) (Some f) (Some g) (Some h) =
    let m : (((((((0 * 16 + a) * 16 + b) * 16 + c) * 16 + d) * 16 + e) * 16 + f) * 16 + g) * 16 + h ≡ (((a * 16 + b) * 256 + (c * 16 + d)) * 256 + (e * 16 + f)) * 256 + (g * 16 + h) = omega arith in
    ap (λ (v : ℕ). reads v j) m

module _ (s : List ℕ) (i : ℕ) where
  eight_stand : i + 8 ≤ length s → word 8 0 s i ≡ seen_word (i + 8) (word_of (take 8 (drop i s)))
  unfolding word_of pair_of
  eight_stand h =
      word_spelt 8 0 s i
      ∙ rw (
        drop_step s i (omega arith),
        drop_step s (i + 1) (omega arith),
        drop_step s (i + 1 + 1) (omega arith),
        drop_step s (i + 1 + 1 + 1) (omega arith),
        drop_step s (i + 1 + 1 + 1 + 1) (omega arith),
        drop_step s (i + 1 + 1 + 1 + 1 + 1) (omega arith),
        drop_step s (i + 1 + 1 + 1 + 1 + 1 + 1) (omega arith),
        drop_step s (i + 1 + 1 + 1 + 1 + 1 + 1 + 1) (omega arith),
        peek_inside s i (omega arith),
        peek_inside s (i + 1) (omega arith),
        peek_inside s (i + 1 + 1) (omega arith),
        peek_inside s (i + 1 + 1 + 1) (omega arith),
        peek_inside s (i + 1 + 1 + 1 + 1) (omega arith),
        peek_inside s (i + 1 + 1 + 1 + 1 + 1) (omega arith),
        peek_inside s (i + 1 + 1 + 1 + 1 + 1 + 1) (omega arith),
        peek_inside s (i + 1 + 1 + 1 + 1 + 1 + 1 + 1) (omega arith),
      )
      (digits_worth (i + 8) _ _ _ _ _ _ _ _)

  eight_short : length s < i + 8 → word 8 0 s i ≡ seen_word (i + 8) (word_of (take 8 (drop i s)))
  unfolding word_of
  eight_short h =
      let n = length-take 8 (drop i s) in
      let m = length-drop i s in
      word_short 8 0 s i (omega arith) h ∙ sym (rw (ne_eqb (length (take 8 (drop i s))) 8 (λ e. omega arith)))

  pub eight : word 8 0 s i ≡ seen_word (i + 8) (word_of (take 8 (drop i s)))
  eight = ⊎_elim eight_short eight_stand (lt_or_le (length s) (i + 8))

  -- where they stand, there is the room for them
  pub room : (v : ℕ) → word_of (take 8 (drop i s)) ≡ Some v → i + 8 ≤ length s
  unfolding word_of
  room v e =
      ⊎_elim
      (λ (h : length s < i + 8).
      let n = length-take 8 (drop i s) in
      let m = length-drop i s in
      let z : None ≡ Some v = rw (ne_eqb (length (take 8 (drop i s))) 8 (λ e. omega arith)) at e in
      let z : ◌≡◌ {A = ℕ} 0 1 = cc in
      absurd (omega arith))
      (λ (h : i + 8 ≤ length s). h)
      (lt_or_le (length s) (i + 8))
