-- One turn of a loop is one step of a definition: what is left to print or to read, taken apart at its front. Assumes
-- nothing.
use Prim.Native.Nat.{ℕ, zero, suc, ◌+◌, ◌-◌, ◌*◌, ◌/◌, ◌%◌, ◌≤◌, ◌<◌}
use mathlib.Core.Path.{◌≡◌, refl, sym, ap, ◌∙◌}
use mathlib.Core.List.{List, [], ◌∷◌, ◌++◌, append-nil}
use native.Mathlib.Omega.{arith}
use lib.ListN.{length, get_or, drop}
use lib.Seq.{sets, set_out, get_or-drop, drop-drop}
use lib.Dec.{ltb}
use borrow.Author.Tests.{lt-ltb, le-ltb}
use mathlib.Core.Bool.{cond}
use mathlib.Core.Logic.{⊎_elim}
use Rattle.std.specs.Prelude.{Some, None}
use Rattle.laws.proofs.Lists.{lt_or_le, drop_step, drop_two, drop_end, sets_front}
use Rattle.hexadecimal.specs.Hex.{capital_of, digit_of, pair_of}
use Rattle.hexadecimal.specs.Passes.{worth}
use Rattle.script.specs.Printing.{Page, and, typed, over, digits_of, row, hex_of}
use Rattle.script.specs.Reading.{where_one, field_of, count_of, sound, words_of}

-- ---- printing

pub typed_append : (p : Page) (xs ys : List ℕ) → typed p (xs ++ ys) ≡ typed (typed p xs) ys
unfolding typed
typed_append p [] ys = refl
typed_append p (x ∷ xs) ys = typed_append (and p x) xs ys

-- a page on which the first part was put, and what is left
pub turn : (p q : Page) (xs rest all : List ℕ) → q ≡ typed p xs → all ≡ xs ++ rest → typed q rest ≡ typed p all
turn p q xs rest all e f = rw (e, f) (sym (typed_append p xs rest))

pub over_turn : (k n : ℕ) → 0 < k → over k n ≡ over (k - 1) (n / 16)
unfolding over
over_turn zero n h = absurd (omega arith)
over_turn (suc k) n h = let e : suc k - 1 ≡ k = omega arith in rw e

pub digits_turn : (k n : ℕ) → 0 < k → digits_of k n ≡ capital_of (over (k - 1) n % 16) ∷ digits_of (k - 1) n
unfolding digits_of
digits_turn zero n h = absurd (omega arith)
digits_turn (suc k) n h = let e : suc k - 1 ≡ k = omega arith in rw e

pub row_turn : (k : ℕ) (s : List ℕ) (i : ℕ) → i < length s → row k (drop i s) ≡ digits_of k (get_or s i 0) ++ row k (drop (i + 1) s)
unfolding row
row_turn k s i h = rw (drop_step s i h)

pub row_end : (k : ℕ) (s : List ℕ) (i : ℕ) → length s ≤ i → row k (drop i s) ≡ []
unfolding row
row_end k s i h = rw (drop_end s i h)

pub hex_none : (s : List ℕ) → length s ≡ 0 → hex_of s ≡ 45 ∷ []
unfolding hex_of
hex_none [] h = refl
hex_none (x ∷ s) h = absurd (omega arith)

pub hex_some : (s : List ℕ) → 0 < length s → hex_of s ≡ row 2 s
unfolding hex_of
hex_some [] h = absurd (omega arith)
hex_some (x ∷ s) h = refl

-- ---- reading

number_turn : (n k : ℕ) (text : List ℕ) (i : ℕ) → 0 < k
    → field_of n k (drop i text) ≡ where_one (digit_of (get_or text i 0)) (field_of (n % 268435456 * 16 + worth (digit_of (get_or text i 0))) (k - 1) (drop (i + 1) text)) None
unfolding field_of
number_turn n zero text i h = absurd (omega arith)
number_turn n (suc k) text i h =
    let e : suc k - 1 ≡ k = omega arith in
    let z : i + 0 ≡ i = omega arith in
    rw (e, get_or-drop i text 0 0, z, drop-drop 1 i text)

module _ (n k : ℕ) (text : List ℕ) (i : ℕ) (left : 0 < k) where
  pub number_bad : digit_of (get_or text i 0) ≡ None → field_of n k (drop i text) ≡ None
  number_bad w = number_turn n k text i left ∙ rw w

  pub number_good : (d : ℕ) → digit_of (get_or text i 0) ≡ Some d → field_of n k (drop i text) ≡ field_of (n % 268435456 * 16 + d) (k - 1) (drop (i + 1) text)
  number_good d w = number_turn n k text i left ∙ rw w

pub number_end : (n k : ℕ) (text : List ℕ) → k ≡ 0 → field_of n k text ≡ Some n
unfolding field_of
number_end n k text e = rw e

count_turn : (k room : ℕ) (text : List ℕ) (i : ℕ) → i + 1 < length text
    → count_of k room (drop i text)
    ≡ where_one (pair_of (get_or text i 0) (get_or text (i + 1) 0)) (cond (ltb k room) (count_of (k + 1) room (drop (i + 2) text)) None) None
unfolding count_of
count_turn k room text i h = rw (drop_two text i h)

sound_turn : (text : List ℕ) (i : ℕ) → i + 1 < length text
    → sound (drop i text)
    ≡ where_one (pair_of (get_or text i 0) (get_or text (i + 1) 0)) (worth (pair_of (get_or text i 0) (get_or text (i + 1) 0)) ∷ sound (drop (i + 2) text)) []
unfolding sound
sound_turn text i h = rw (drop_two text i h)

module _ (text : List ℕ) (i : ℕ) (two : i + 1 < length text) where
  pub sound_bad : pair_of (get_or text i 0) (get_or text (i + 1) 0) ≡ None → sound (drop i text) ≡ []
  sound_bad w = sound_turn text i two ∙ rw w

  pub sound_good : (b : ℕ) → pair_of (get_or text i 0) (get_or text (i + 1) 0) ≡ Some b → sound (drop i text) ≡ b ∷ sound (drop (i + 2) text)
  sound_good b w = sound_turn text i two ∙ rw w

  pub count_bad : (k room : ℕ) → pair_of (get_or text i 0) (get_or text (i + 1) 0) ≡ None → count_of k room (drop i text) ≡ None
  count_bad k room w = count_turn k room text i two ∙ rw w

  pub count_full : (k room b : ℕ) → pair_of (get_or text i 0) (get_or text (i + 1) 0) ≡ Some b → room ≤ k → count_of k room (drop i text) ≡ None
  count_full k room b w h = count_turn k room text i two ∙ rw (w, le-ltb _ _ h)

  pub count_good : (k room b : ℕ) → pair_of (get_or text i 0) (get_or text (i + 1) 0) ≡ Some b → k < room
      → count_of k room (drop i text) ≡ count_of (k + 1) room (drop (i + 2) text)
  count_good k room b w h = count_turn k room text i two ∙ rw (w, lt-ltb _ _ h)

-- nothing is left, or half a pair
pub count_end : (k room : ℕ) (text : List ℕ) (i : ℕ) → length text ≤ i → count_of k room (drop i text) ≡ Some k
unfolding count_of
count_end k room text i h = rw (drop_end text i h)

pub count_half : (k room : ℕ) (text : List ℕ) (i : ℕ) → i + 1 ≡ length text → count_of k room (drop i text) ≡ None
unfolding count_of
count_half k room text i h = rw (drop_step text i (omega arith), drop_end text (i + 1) (omega arith))

pub sound_end : (text : List ℕ) (i : ℕ) → length text ≤ i + 1 → i ≤ length text → sound (drop i text) ≡ []
unfolding sound
sound_end text i h g =
    ⊎_elim
    (λ (a : i < length text). rw (drop_step text i a, drop_end text (i + 1) (omega arith)))
    (λ (b : length text ≤ i). rw (drop_end text i b))
    (lt_or_le i (length text))

-- past the end nothing is stored
pub sets_out : (l : List ℕ) (k : ℕ) (vs : List ℕ) → length l ≤ k → sets l k vs ≡ l
sets_out l k [] h = refl
sets_out l k (v ∷ vs) h = ap (λ (m : List ℕ). sets m (suc k) vs) (set_out l k v h) ∙ sets_out l (suc k) vs (omega arith)

-- stores that go over the whole buffer
pub covering : (l vs : List ℕ) → length vs ≡ length l → sets l 0 vs ≡ vs
covering l vs e = sets_front l vs (omega arith) ∙ rw (drop_end l (length vs) (omega arith)) (append-nil vs)

pub words_turn : (n : ℕ) (bytes : List ℕ) (i : ℕ) → 0 < n
    → words_of n (drop i bytes) ≡ (get_or bytes i 0 * 256 + get_or bytes (i + 1) 0) ∷ words_of (n - 1) (drop (i + 2) bytes)
unfolding words_of
words_turn zero bytes i h = absurd (omega arith)
words_turn (suc n) bytes i h =
    let e : suc n - 1 ≡ n = omega arith in
    let z : i + 0 ≡ i = omega arith in
    rw (e, get_or-drop i bytes 0 0, get_or-drop i bytes 1 0, z, drop-drop 2 i bytes)

pub words_length : (n : ℕ) (bytes : List ℕ) → length (words_of n bytes) ≡ n
unfolding words_of
words_length zero bytes = refl
words_length (suc n) bytes = ap suc (words_length n (drop 2 bytes))

pub words_end : (n : ℕ) (bytes : List ℕ) → n ≡ 0 → words_of n bytes ≡ []
unfolding words_of
words_end n bytes e = rw e
