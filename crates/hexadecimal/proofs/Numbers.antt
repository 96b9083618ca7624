-- Which number is given when: the answers' definitions in document 01's conditions. Assumes nothing.
use Rattle.std.specs.Prelude.{Option, Some, None, Result, is_some}
use Rattle.hexadecimal.specs.{declared.PayloadRefusal.PayloadRefusal, declared.WriteRefusal.WriteRefusal}
use Prim.Native.Nat.{ℕ, ◌≤◌, ◌<◌}
use mathlib.Core.Path.{◌≡◌, refl, ap, ◌∙◌}
use mathlib.Core.Bool.{Bool, true, false, cond, not, ◌&&◌}
use mathlib.Core.Logic.{⊎_elim}
use mathlib.Core.List.{List, [], ◌∷◌}
use lib.Dec.{eqb}
use lib.ListN.{length}
use native.Mathlib.Omega.{arith}
use borrow.Author.Tests.{le-leb, lt-leb, lt-ltb, le-ltb, ne_eqb}
use Rattle.laws.proofs.Lists.{lt_or_le}
use Rattle.hexadecimal.specs.Hex.{digit_of, joined, pair_of, led, payload_of, read_of, text_of, written_of, four_pairs, word_of}
use Rattle.hexadecimal.specs.Answers.{read_number, write_number, word_number, short_number, is_digit, is_of_form, bytes_in, payload_number, are_digits, is_eight_digits}

module _ (text : List ℕ) (room : ℕ) where
  pub read_12 : payload_of text ≡ None → read_number (read_of (payload_of text) room) ≡ 12
  read_12 e = rw e

  pub read_13 : (bytes : List ℕ) → payload_of text ≡ Some bytes → room < length bytes → read_number (read_of (payload_of text) room) ≡ 13
  read_13 bytes e h = rw (e, lt-leb (length bytes) room h)

  pub read_0 : (bytes : List ℕ) → payload_of text ≡ Some bytes → length bytes ≤ room → read_number (read_of (payload_of text) room) ≡ 0
  read_0 bytes e h = rw (e, le-leb (length bytes) room h)

module _ (bytes : List ℕ) (room : ℕ) where
  pub write_13 : room < length (text_of bytes) → write_number (written_of (text_of bytes) room) ≡ 13
  write_13 h = rw (lt-leb (length (text_of bytes)) room h)

  pub write_0 : length (text_of bytes) ≤ room → write_number (written_of (text_of bytes) room) ≡ 0
  write_0 h = rw (le-leb (length (text_of bytes)) room h)

-- ---- a text is of the form exactly where it spells bytes
abbrev spells : Option (List ℕ) → Bool
spells None = false
spells (Some bytes) = true

pair_good : (a b : ℕ) → is_some (pair_of a b) ≡ (is_digit a && is_digit b)
unfolding pair_of
pair_good a b = go (digit_of a) (digit_of b)
  where
    go : (x y : Option ℕ) → is_some (joined x y) ≡ (is_some x && is_some y)
    go (Some x) (Some y) = refl
    go (Some x) None = refl
    go None y = refl

spells_form : (s : List ℕ) → spells (payload_of s) ≡ is_of_form s
unfolding payload_of is_of_form
spells_form [] = refl
spells_form (a ∷ []) = refl
spells_form (a ∷ b ∷ []) = last (pair_of a b) ∙ pair_good a b
  where
    last : (h : Option ℕ) → spells (led h (Some [])) ≡ is_some h
    last (Some v) = refl
    last None = refl
spells_form (a ∷ b ∷ c ∷ s) =
    go (pair_of a b) (eqb c 32) (payload_of s) (spells_form s)
    ∙ ap (λ (t : Bool). t && eqb c 32 && is_of_form s) (pair_good a b)
  where
    go : (h : Option ℕ) (t : Bool) (o : Option (List ℕ)) → spells o ≡ is_of_form s → spells (led h (cond t o None)) ≡ (is_some h && t && is_of_form s)
    go (Some v) true None f = f
    go (Some v) true (Some bytes) f = f
    go (Some v) false o f = refl
    go None t o f = refl

pub payload_number_lem : (s : List ℕ) (room : ℕ) → read_number (read_of (payload_of s) room) ≡ payload_number s room
unfolding payload_number
payload_number_lem s room = rw (← spells_form s) (go (payload_of s))
  where
    go : (o : Option (List ℕ)) → read_number (read_of o room) ≡ cond (not (spells o)) 12 (short_number (bytes_in o) room)
    go None = refl
    go (Some bytes) =
        ⊎_elim
        (λ (l : room < length bytes). rw (lt-leb (length bytes) room l, lt-ltb room (length bytes) l))
        (λ (l : length bytes ≤ room). rw (le-leb (length bytes) room l, le-ltb room (length bytes) l))
        (lt_or_le room (length bytes))

pub written_number : (text : List ℕ) (room : ℕ) → write_number (written_of text room) ≡ short_number (length text) room
written_number text room =
    ⊎_elim
    (λ (l : room < length text). rw (lt-leb (length text) room l, lt-ltb room (length text) l))
    (λ (l : length text ≤ room). rw (le-leb (length text) room l, le-ltb room (length text) l))
    (lt_or_le room (length text))

-- ---- four pairs, and eight digits
pub pairs_number : (a b c d : Option ℕ) → word_number (four_pairs a b c d) ≡ cond (is_some a && is_some b && is_some c && is_some d) 0 14
pairs_number None b c d = refl
pairs_number (Some a) None c d = refl
pairs_number (Some a) (Some b) None d = refl
pairs_number (Some a) (Some b) (Some c) None = refl
pairs_number (Some a) (Some b) (Some c) (Some d) = refl

digits_number : (a b c d e f g h : Option ℕ)
    → word_number (four_pairs (joined a b) (joined c d) (joined e f) (joined g h))
    ≡ cond (is_some a && (is_some b && (is_some c && (is_some d && (is_some e && (is_some f && (is_some g && (is_some h && true)))))))) 0 14
digits_number None b c d e f g h = refl
digits_number (Some a) None c d e f g h = refl
digits_number (Some a) (Some b) None d e f g h = refl
digits_number (Some a) (Some b) (Some c) None e f g h = refl
digits_number (Some a) (Some b) (Some c) (Some d) None f g h = refl
digits_number (Some a) (Some b) (Some c) (Some d) (Some e) None g h = refl
digits_number (Some a) (Some b) (Some c) (Some d) (Some e) (Some f) None h = refl
digits_number (Some a) (Some b) (Some c) (Some d) (Some e) (Some f) (Some g) None = refl
digits_number (Some a) (Some b) (Some c) (Some d) (Some e) (Some f) (Some g) (Some h) = refl

pub word_number_lem : (s : List ℕ) → word_number (word_of s) ≡ cond (is_eight_digits s) 0 14
unfolding word_of is_eight_digits are_digits pair_of
word_number_lem [] = refl
word_number_lem (a ∷ []) = refl
word_number_lem (a ∷ b ∷ []) = refl
word_number_lem (a ∷ b ∷ c ∷ []) = refl
word_number_lem (a ∷ b ∷ c ∷ d ∷ []) = refl
word_number_lem (a ∷ b ∷ c ∷ d ∷ e ∷ []) = refl
word_number_lem (a ∷ b ∷ c ∷ d ∷ e ∷ f ∷ []) = refl
word_number_lem (a ∷ b ∷ c ∷ d ∷ e ∷ f ∷ g ∷ []) = refl
word_number_lem (a ∷ b ∷ c ∷ d ∷ e ∷ f ∷ g ∷ h ∷ []) =
    digits_number (digit_of a) (digit_of b) (digit_of c) (digit_of d) (digit_of e) (digit_of f) (digit_of g) (digit_of h)
word_number_lem (a ∷ b ∷ c ∷ d ∷ e ∷ f ∷ g ∷ h ∷ i ∷ s) = simp (ne_eqb (length (a ∷ b ∷ c ∷ d ∷ e ∷ f ∷ g ∷ h ∷ i ∷ s)) 8 (λ e. omega arith))

-- ---- an answer that is its definition's has the number too
pub with_read_number : {r : Result ℕ PayloadRefusal} {H : Type 0} (s : List ℕ) (room : ℕ) → (r ≡ read_of (payload_of s) room) × H → (r ≡ read_of (payload_of s) room) × (H × (read_number r ≡ payload_number s room))
with_read_number s room p = (p.0, (p.1, ap read_number p.0 ∙ payload_number_lem s room))

pub with_write_number : {r : Result ℕ WriteRefusal} {H : Type 0} (text : List ℕ) (room : ℕ) → (r ≡ written_of text room) × H → (r ≡ written_of text room) × (H × (write_number r ≡ short_number (length text) room))
with_write_number text room p = (p.0, (p.1, ap write_number p.0 ∙ written_number text room))
