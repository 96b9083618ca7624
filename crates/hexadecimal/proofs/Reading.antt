-- The equations of the form's recursion, one for each way that a turn of a loop can go. Assumes nothing.
use Rattle.std.specs.Prelude.{Option, Some, None, Ok, Err}
use Rattle.hexadecimal.specs.declared.PayloadRefusal.TheVariants.{NotOfForm, TooShort}
use Prim.Native.Nat.{ℕ, ◌+◌, ◌-◌, ◌≤◌, ◌<◌}
use mathlib.Core.Path.{◌≡◌, refl, ap, ap₂, sym, ◌∙◌}
use mathlib.Core.Bool.{Bool, true, false, cond}
use mathlib.Core.List.{List, [], ◌∷◌}
use native.Mathlib.Omega.{arith}
use mathlib.Core.Logic.{◌⊎◌, inl, inr, ⊎_elim}
use lib.Dec.{eqb, leb}
use lib.ListN.{length, take, drop, get_or, length-drop}
use Rattle.laws.proofs.Lists.{drop_two, drop_three, drop_end, lt_or_le, sets_front}
use lib.Seq.{sets, take_all, drop-drop, get_or-drop}
use borrow.Author.Tests.{eq-eqb, ne_eqb, le-leb, lt-leb}
use Rattle.hexadecimal.specs.Hex.{pair_of, led, payload_of, read_of, held_after}
use Rattle.hexadecimal.specs.Passes.{form_of, values, worth}

pub hex_short : (l : List ℕ) → length l < 2 → payload_of l ≡ None
unfolding payload_of
hex_short [] h = refl
hex_short (a ∷ []) h = refl
hex_short (a ∷ b ∷ l) h = absurd (omega arith)

pub hex_bad : (a b : ℕ) (l : List ℕ) → pair_of a b ≡ None → payload_of (a ∷ b ∷ l) ≡ None
unfolding payload_of
hex_bad a b [] e = ap (λ (h : Option ℕ). led h (Some [])) e
hex_bad a b (c ∷ l) e = ap (λ (h : Option ℕ). led h (cond (eqb c 32) (payload_of l) None)) e

led_none : (h : Option ℕ) → led h None ≡ None
led_none (Some v) = refl
led_none None = refl

pub hex_gap : (a b c : ℕ) (l : List ℕ) → (c ≡ 32 → ⊥) → payload_of (a ∷ b ∷ c ∷ l) ≡ None
unfolding payload_of
hex_gap a b c l n = ap (λ (t : Bool). led (pair_of a b) (cond t (payload_of l) None)) (ne_eqb c 32 n) ∙ led_none (pair_of a b)

led_form : (k v : ℕ) (o : Option (List ℕ)) → form_of k (led (Some v) o) ≡ form_of (k + 1) o
led_form k v None = refl
led_form k v (Some vs) = ap Some (omega arith)

pub form_last : (k a b v : ℕ) → pair_of a b ≡ Some v → form_of k (payload_of (a ∷ b ∷ [])) ≡ Some (k + 1)
unfolding payload_of
form_last k a b v e = ap (λ (h : Option ℕ). form_of k (led h (Some []))) e

pub form_more : (k a b c v : ℕ) (l : List ℕ) → pair_of a b ≡ Some v → c ≡ 32 → form_of k (payload_of (a ∷ b ∷ c ∷ l)) ≡ form_of (k + 1) (payload_of l)
unfolding payload_of
form_more k a b c v l e q =
    ap₂ (λ (h : Option ℕ) (t : Bool). form_of k (led h (cond t (payload_of l) None))) e (eq-eqb c 32 q) ∙ led_form k v (payload_of l)

-- ---- a turn of the first pass, at an index of the text
module _ (s : List ℕ) (i k : ℕ) where
  pub turn_short : length s < i + 2 → form_of k (payload_of (drop i s)) ≡ None
  turn_short h = ap (form_of k) (hex_short (drop i s) (simp length-drop (omega arith)))

  pub turn_bad : i + 1 < length s → pair_of (get_or s i 0) (get_or s (i + 1) 0) ≡ None → form_of k (payload_of (drop i s)) ≡ None
  turn_bad h e = ap (form_of k) (ap payload_of (drop_two s i h) ∙ hex_bad _ _ _ e)

  pub turn_last : (v : ℕ) → i + 2 ≡ length s → pair_of (get_or s i 0) (get_or s (i + 1) 0) ≡ Some v → form_of k (payload_of (drop i s)) ≡ Some (k + 1)
  turn_last v h e =
      let two : drop i s ≡ get_or s i 0 ∷ get_or s (i + 1) 0 ∷ [] = rw (← drop_end s (i + 2) (omega arith)) (drop_two s i (omega arith)) in
      ap (λ (l : List ℕ). form_of k (payload_of l)) two ∙ form_last k _ _ v e

  pub turn_gap : i + 2 < length s → (get_or s (i + 2) 0 ≡ 32 → ⊥) → form_of k (payload_of (drop i s)) ≡ None
  turn_gap h n = ap (form_of k) (ap payload_of (drop_three s i h) ∙ hex_gap _ _ _ _ n)

  pub turn_more : (v : ℕ) → i + 2 < length s → pair_of (get_or s i 0) (get_or s (i + 1) 0) ≡ Some v → get_or s (i + 2) 0 ≡ 32
      → form_of k (payload_of (drop i s)) ≡ form_of (k + 1) (payload_of (drop (i + 2 + 1) s))
  turn_more v h e q =
      let n : i + 2 + 1 ≡ i + 3 = omega arith in
      rw n (ap (λ (l : List ℕ). form_of k (payload_of l)) (drop_three s i h) ∙ form_more k _ _ _ v _ e q)

-- ---- what a turn of the first pass takes off a text: two digits, and the space behind them
module _ (s : List ℕ) where
  pub two_off : take (length s - 2) (drop 2 s) ≡ drop 2 s
  two_off = take_all (length s - 2) (drop 2 s) (omega (arith, length-drop 2 s))

  pub two_left : length (take (length s - 2) (drop 2 s)) ≡ length s - 2
  two_left = ap length two_off ∙ length-drop 2 s

  pub gap_off : get_or (take (length s - 2) (drop 2 s)) 0 0 ≡ get_or s 2 0
  gap_off = ap (λ (b : List ℕ). get_or b 0 0) two_off ∙ get_or-drop 2 s 0 0

  pub three_off : take (length (take (length s - 2) (drop 2 s)) - 1) (drop 1 (take (length s - 2) (drop 2 s))) ≡ drop 3 s
  three_off =
      ap (λ (b : List ℕ). take (length b - 1) (drop 1 b)) two_off
      ∙ take_all (length (drop 2 s) - 1) (drop 1 (drop 2 s)) (omega (arith, length-drop 1 (drop 2 s)))
      ∙ drop-drop 1 2 s

-- ---- a turn of the second pass
pub values_end : (s : List ℕ) (i : ℕ) → length s ≤ i + 1 → values (drop i s) ≡ []
unfolding values
values_end s i h = short (drop i s) (simp length-drop (omega arith))
  where
    short : (l : List ℕ) → length l ≤ 1 → values l ≡ []
    short [] h = refl
    short (a ∷ []) h = refl
    short (a ∷ b ∷ l) h = absurd (omega arith)

pub values_turn : (s : List ℕ) (i : ℕ) → i + 1 < length s → values (drop i s) ≡ worth (pair_of (get_or s i 0) (get_or s (i + 1) 0)) ∷ values (drop (i + 3) s)
unfolding values
values_turn s i h =
    ⊎_elim
    (λ (l : i + 2 < length s). ap values (drop_three s i l))
    (λ (l : length s ≤ i + 2).
    let two : drop i s ≡ get_or s i 0 ∷ get_or s (i + 1) 0 ∷ [] = rw (← drop_end s (i + 2) l) (drop_two s i h) in
    ap values two
    ∙ ap (λ (r : List ℕ). worth (pair_of (get_or s i 0) (get_or s (i + 1) 0)) ∷ values r) (sym (drop_end s (i + 3) (omega arith))))
    (lt_or_le (i + 2) (length s))

-- a text of the form spells what its pairs are worth
pub spelt : (s : List ℕ) → (payload_of s ≡ None) ⊎ (payload_of s ≡ Some (values s))
unfolding payload_of values
spelt [] = inl refl
spelt (a ∷ []) = inl refl
spelt (a ∷ b ∷ []) = go (pair_of a b)
  where
    go : (h : Option ℕ) → (led h (Some []) ≡ None) ⊎ (led h (Some []) ≡ Some (worth h ∷ []))
    go (Some v) = inr refl
    go None = inl refl
spelt (a ∷ b ∷ c ∷ l) = go (pair_of a b) (eqb c 32) (payload_of l) (spelt l)
  where
    go : (h : Option ℕ) (t : Bool) (o : Option (List ℕ)) → (o ≡ None) ⊎ (o ≡ Some (values l))
        → (led h (cond t o None) ≡ None) ⊎ (led h (cond t o None) ≡ Some (worth h ∷ values l))
    go None t o e = inl refl
    go (Some v) false o e = inl refl
    go (Some v) true o (inl e) = inl (ap (led (Some v)) e)
    go (Some v) true o (inr e) = inr (ap (led (Some v)) e)

-- ---- what the first pass's answer tells
pub known_not : (o : Option (List ℕ)) → form_of 0 o ≡ None → o ≡ None
known_not None e = refl
known_not (Some bs) e = let z : ◌≡◌ {A = ℕ} 0 1 = cc in absurd (omega arith)

pub known_pairs : (s : List ℕ) (n : ℕ) → form_of 0 (payload_of s) ≡ Some n → (payload_of s ≡ Some (values s)) × (n ≡ length (values s))
known_pairs s n e =
    ⊎_elim
    (λ (q : payload_of s ≡ None). let p : None ≡ Some n = sym (ap (form_of 0) q) ∙ e in let z : ◌≡◌ {A = ℕ} 0 1 = cc in absurd (omega arith))
    (λ (q : payload_of s ≡ Some (values s)).
    let p : Some (0 + length (values s)) ≡ Some n = sym (ap (form_of 0) q) ∙ e in
    let r : 0 + length (values s) ≡ n = cc in
    (q, omega arith))
    (spelt s)

-- the three answers, with what the buffer then holds
module _ (s out : List ℕ) where
  pub read_not : form_of 0 (payload_of s) ≡ None → (Err NotOfForm ≡ read_of (payload_of s) (length out)) × (out ≡ held_after (payload_of s) out)
  read_not e = rw (known_not (payload_of s) e) (refl, refl)

  pub read_short : (n : ℕ) → form_of 0 (payload_of s) ≡ Some n → length out < n → (Err TooShort ≡ read_of (payload_of s) (length out)) × (out ≡ held_after (payload_of s) out)
  read_short n e h =
      let k = known_pairs s n e in
      let t : leb (length (values s)) (length out) ≡ false = lt-leb (length (values s)) (length out) (omega arith) in
      rw (k.0, t) (refl, refl)

  pub read_bytes : (n : ℕ) (held : List ℕ) → form_of 0 (payload_of s) ≡ Some n → n ≤ length out → held ≡ sets out 0 (values s)
      → (Ok n ≡ read_of (payload_of s) (length out)) × (held ≡ held_after (payload_of s) out)
  read_bytes n held e h q =
      let k = known_pairs s n e in
      let t : leb (length (values s)) (length out) ≡ true = le-leb (length (values s)) (length out) (omega arith) in
      rw (k.0, t) (ap Ok k.1, q ∙ sets_front out (values s) (omega arith))
