-- What is in a set that is computed, at any width: `has` of a set that a rule picks, of `&`, `|`, `!` and `1 << c`, and
-- that no two numbers hold the same channels. A caller cites `has_out` for numbers above 31, `within_each` and
-- `each_within`, `has_with_channel` and `with_channel_above`. Assumes nothing.
use mathlib.Core.Path.{◌≡◌, refl, sym, ap, ◌∙◌, subst}
use mathlib.Core.Bool.{Bool, true, false, not, ◌&&◌, ◌||◌, xor, or-false, false≢true}
use mathlib.Core.Logic.{⊎_elim}
use mathlib.Core.List.{List}
use Prim.Native.Nat.{ℕ, zero, suc, ◌+◌, ◌-◌, ◌*◌, ◌/◌, ◌%◌, ◌^◌, ◌≤◌, ◌<◌, min, max, suc-le-suc}
use native.Mathlib.Nat.{add_comm, mul_assoc, mul_comm, pow-suc, add-mul-div_right, add-mul-mod_self_right, div-div-eq-div-mul, div-one, mod-lt, mod-eq_of_lt, div-eq_of_lt, div_self, zero-div, one-mul, le_refl, lt_of_lt_of_le, zero-lt-suc, le_of_suc-le-suc, not-suc-le-zero, lt_of_le_of_lt, eq-or-lt_of_le}
use native.Mathlib.Omega.{arith}
use borrow.Author.Tests.{eq-eqb, ne_eqb}
use lib.Dec.{eqb}
use lib.Arith.{lt-one, digits_mod}
use lib.Pow.{pow_pos, pow-add, pow_mono, pow-lt, high}
use lib.Bits.{bit_and, bit_or, bit_xor, differ, and_shr, or_shr, xor_shr, and_step, or_step, xor_step, xor_add_and, and_mask, and_le_l}
use lib.ListN.{length, get_or}
use lib.Seq.{ext_get_or}
use Rattle.laws.proofs.Cases.{both}
use Rattle.laws.proofs.Lists.{lt_or_le}
use Rattle.channels.specs.Sets.{has, bit, set_of, all_below, is_within, with_channel, list_of}

not_true : (x : Bool) → not x ≡ true → x ≡ false
not_true true e = absurd (false≢true e)
not_true false e = refl

two_pos : zero < 2
two_pos = zero-lt-suc 1

-- ---- bits below place n do not see what stands from place n on
pow_shift : (hi k c : ℕ) → hi * 2 ^ (suc k + c) ≡ hi * 2 ^ k * 2 * 2 ^ c
pow_shift hi k c = rw (pow-add 2 (suc k) c, pow-suc 2 k) (simp mul_assoc)

low_at : (hi lo k c : ℕ) → (hi * 2 ^ (suc k + c) + lo) / 2 ^ c % 2 ≡ lo / 2 ^ c % 2
low_at hi lo k c =
    ap (λ (x : ℕ). (x + lo) / 2 ^ c % 2) (pow_shift hi k c)
    ∙ ap (λ (x : ℕ). x / 2 ^ c % 2) (add_comm (hi * 2 ^ k * 2 * 2 ^ c) lo)
    ∙ ap (λ (x : ℕ). x % 2) (add-mul-div_right lo (hi * 2 ^ k * 2) (pow_pos c))
    ∙ add-mul-mod_self_right (lo / 2 ^ c) (hi * 2 ^ k) 2

low : (hi lo n c : ℕ) → c < n → (hi * 2 ^ n + lo) / 2 ^ c % 2 ≡ lo / 2 ^ c % 2
low hi lo n c h =
    let e : n ≡ suc (n - suc c) + c = omega arith in
    ap (λ (m : ℕ). (hi * 2 ^ m + lo) / 2 ^ c % 2) e ∙ low_at hi lo (n - suc c) c

-- ---- the set that a rule picks
bit_odd : (b : Bool) → eqb (bit b % 2) 1 ≡ b
bit_odd true = refl
bit_odd false = refl

pub set_of_lt : (n : ℕ) (p : ℕ → Bool) → set_of n p < 2 ^ n
unfolding set_of
set_of_lt zero p = omega arith
set_of_lt (suc n) p = below (p n) (set_of_lt n p)
  where
    below : {x : ℕ} (b : Bool) → x < 2 ^ n → bit b * 2 ^ n + x < 2 ^ suc n
    below true h = rw pow-suc (omega arith)
    below false h = rw pow-suc (omega arith)

pub has_set_of : (n : ℕ) (p : ℕ → Bool) (c : ℕ) → c < n → has (set_of n p) c ≡ p c
unfolding has set_of
has_set_of zero p c h = absurd (not-suc-le-zero h)
has_set_of (suc n) p c h =
    ⊎_elim
    (λ (e : c ≡ n). subst (λ (k : ℕ). has (bit (p n) * 2 ^ n + set_of n p) k ≡ p k) (sym e) (ap (λ (x : ℕ). eqb (x % 2) 1) (high (bit (p n)) n (set_of_lt n p)) ∙ bit_odd (p n)))
    (λ (l : c < n). ap (λ (x : ℕ). eqb x 1) (low (bit (p n)) (set_of n p) n c l) ∙ has_set_of n p c l)
    (eq-or-lt_of_le (le_of_suc-le-suc h))

-- ---- numbers that hold the same channels are the same
has_zero : (s : ℕ) → has s zero ≡ eqb (s % 2) 1
unfolding has
has_zero s = ap (λ (x : ℕ). eqb (x % 2) 1) (div-one s)

has_suc : (s c : ℕ) → has s (suc c) ≡ has (s / 2) c
unfolding has
has_suc s c =
    ap (λ (x : ℕ). eqb (s / x % 2) 1) (pow-suc 2 c ∙ mul_comm (2 ^ c) 2)
    ∙ ap (λ (x : ℕ). eqb (x % 2) 1) (sym (div-div-eq-div-mul s 2 (2 ^ c)))

bit_of : (x : ℕ) → x < 2 → x ≡ bit (eqb x 1)
bit_of zero h = refl
bit_of (suc zero) h = refl
bit_of (suc (suc x)) h = absurd (omega arith)

bit_inj : (x y : ℕ) → x < 2 → y < 2 → eqb x 1 ≡ eqb y 1 → x ≡ y
bit_inj x y hx hy e = bit_of x hx ∙ ap bit e ∙ sym (bit_of y hy)

pub ext : (n s t : ℕ) → s < 2 ^ n → t < 2 ^ n → ((c : ℕ) → c < n → has s c ≡ has t c) → s ≡ t
ext zero s t hs ht e = lt-one hs ∙ sym (lt-one ht)
ext (suc n) s t hs ht e =
    let ls : s < 2 ^ n * 2 = rw pow-suc at hs in
    let lt : t < 2 ^ n * 2 = rw pow-suc at ht in
    let halves : s / 2 ≡ t / 2 = ext n (s / 2) (t / 2) (omega arith) (omega arith) (λ c h. sym (has_suc s c) ∙ e (suc c) (suc-le-suc h) ∙ has_suc t c) in
    let odds : s % 2 ≡ t % 2 = bit_inj (s % 2) (t % 2) (mod-lt s two_pos) (mod-lt t two_pos) (sym (has_zero s) ∙ e zero (zero-lt-suc n) ∙ has_zero t) in
    omega arith

pub is_set_of : (n : ℕ) (p : ℕ → Bool) (s : ℕ) → s < 2 ^ n → ((c : ℕ) → c < n → has s c ≡ p c) → s ≡ set_of n p
is_set_of n p s hs e = ext n s (set_of n p) hs (set_of_lt n p) (λ c h. e c h ∙ sym (has_set_of n p c h))

-- ---- an operation that works bit by bit, from what it does to the four pairs of bits
pairs : (P : ℕ → ℕ → Type 0) → P 0 0 → P 0 1 → P 1 0 → P 1 1 → (x y : ℕ) → x < 2 → y < 2 → P x y
pairs P a b c d zero zero hx hy = a
pairs P a b c d zero (suc zero) hx hy = b
pairs P a b c d zero (suc (suc y)) hx hy = absurd (omega arith)
pairs P a b c d (suc zero) zero hx hy = c
pairs P a b c d (suc zero) (suc zero) hx hy = d
pairs P a b c d (suc zero) (suc (suc y)) hx hy = absurd (omega arith)
pairs P a b c d (suc (suc x)) y hx hy = absurd (omega arith)

module _ (f : ℕ → ℕ → ℕ) (g : Bool → Bool → Bool) where
  -- f of two bits is a bit, and says what g says of the two
  Table : ℕ → ℕ → Type 0
  Table x y = (f x y < 2) × (eqb (f x y) 1 ≡ g (eqb x 1) (eqb y 1))

module _ (op f : ℕ → ℕ → ℕ) (g : Bool → Bool → Bool)
    (shr : (a b k : ℕ) → op a b / 2 ^ k ≡ op (a / 2 ^ k) (b / 2 ^ k))
    (step : (a b : ℕ) → op a b ≡ op (a / 2) (b / 2) * 2 + f (a % 2) (b % 2))
    (table : (x y : ℕ) → x < 2 → y < 2 → Table f g x y) where
  odd_op : (x y : ℕ) → eqb (op x y % 2) 1 ≡ g (eqb (x % 2) 1) (eqb (y % 2) 1)
  unfolding Table
  odd_op x y =
      let t = table (x % 2) (y % 2) (mod-lt x two_pos) (mod-lt y two_pos) in
      ap (λ (z : ℕ). eqb (z % 2) 1) (step x y)
      ∙ ap (λ (z : ℕ). eqb z 1) (digits_mod (op (x / 2) (y / 2)) t.0)
      ∙ t.1

  has_op : (a b c : ℕ) → has (op a b) c ≡ g (has a c) (has b c)
  unfolding has
  has_op a b c = ap (λ (x : ℕ). eqb (x % 2) 1) (shr a b c) ∙ odd_op (a / 2 ^ c) (b / 2 ^ c)

and_table : (x y : ℕ) → x < 2 → y < 2 → Table min ◌&&◌ x y
unfolding Table
and_table = pairs (Table min ◌&&◌) (omega arith, refl) (omega arith, refl) (omega arith, refl) (omega arith, refl)

or_table : (x y : ℕ) → x < 2 → y < 2 → Table max ◌||◌ x y
unfolding Table
or_table = pairs (Table max ◌||◌) (omega arith, refl) (omega arith, refl) (omega arith, refl) (omega arith, refl)

xor_table : (x y : ℕ) → x < 2 → y < 2 → Table differ xor x y
unfolding Table xor
xor_table = pairs (Table differ xor) (omega arith, refl) (omega arith, refl) (omega arith, refl) (omega arith, refl)

pub has_and : (a b c : ℕ) → has (bit_and a b) c ≡ (has a c && has b c)
has_and = has_op bit_and min ◌&&◌ and_shr and_step and_table

pub has_or : (a b c : ℕ) → has (bit_or a b) c ≡ (has a c || has b c)
has_or = has_op bit_or max ◌||◌ or_shr or_step or_table

has_xor : (a b c : ℕ) → has (bit_xor a b) c ≡ xor (has a c) (has b c)
has_xor = has_op bit_xor differ xor xor_shr xor_step xor_table

-- ---- `!a`, which the machine computes as 2 ^ n - 1 - a
all_ones : (n : ℕ) → set_of n (λ c. true) ≡ 2 ^ n - 1
unfolding set_of
all_ones zero = refl
all_ones (suc n) =
    let ih : set_of n (λ c. true) ≡ 2 ^ n - 1 = all_ones n in
    let pos : zero < 2 ^ n = pow_pos n in
    rw pow-suc (omega arith)

has_ones : (n c : ℕ) → c < n → has (2 ^ n - 1) c ≡ true
has_ones n c h = ap (λ (s : ℕ). has s c) (sym (all_ones n)) ∙ has_set_of n (λ k. true) c h

xor_ones : (n a : ℕ) → a < 2 ^ n → bit_xor a (2 ^ n - 1) ≡ (2 ^ n - 1) - a
xor_ones n a h =
    let m : bit_and a (2 ^ n - 1) ≡ a = and_mask a n ∙ mod-eq_of_lt h in
    let s : bit_xor a (2 ^ n - 1) + bit_and a (2 ^ n - 1) * 2 ≡ a + (2 ^ n - 1) = xor_add_and a (2 ^ n - 1) in
    omega arith

xor_true : (b : Bool) → xor b true ≡ not b
unfolding xor
xor_true true = refl
xor_true false = refl

pub has_not : (n a c : ℕ) → a < 2 ^ n → c < n → has ((2 ^ n - 1) - a) c ≡ not (has a c)
has_not n a c ha hc =
    ap (λ (s : ℕ). has s c) (sym (xor_ones n a ha)) ∙ has_xor a (2 ^ n - 1) c
    ∙ ap (xor (has a c)) (has_ones n c hc) ∙ xor_true (has a c)

-- ---- the test `(s >> c) % 2 == 1`
pub is_has : (s c : ℕ) → eqb (s / 2 ^ c % 2) 1 ≡ has s c
unfolding has
is_has s c = refl

-- ---- no channel from n on is in a set below 2 ^ n
pub has_out : (n s c : ℕ) → s < 2 ^ n → n ≤ c → has s c ≡ false
unfolding has
has_out n s c h l = ap (λ (x : ℕ). eqb (x % 2) 1) (div-eq_of_lt (lt_of_lt_of_le h (pow_mono l)))

pub has_none : (c : ℕ) → has 0 c ≡ false
has_none c = has_out 0 0 c (omega arith) (omega arith)

-- ---- `1 << c`
has_bit : (c k : ℕ) → has (2 ^ c) k ≡ eqb k c
unfolding has
has_bit c k =
    ⊎_elim
    (λ (l : k < c). rw (ne_eqb k c (omega arith)) (ap (λ (x : ℕ). eqb x 1) (sym (ap (λ (x : ℕ). x / 2 ^ k % 2) (one_times (2 ^ c))) ∙ low 1 0 c k l ∙ ap (λ (x : ℕ). x % 2) (zero-div (2 ^ k)))))
    (λ (g : c ≤ k). ⊎_elim
    (λ (e : c ≡ k). rw (e, eq-eqb k k refl) (ap (λ (x : ℕ). eqb (x % 2) 1) (div_self (pow_pos k))))
    (λ (l : c < k). has_out (suc c) (2 ^ c) k (pow-lt (le_refl (suc c))) l ∙ sym (ne_eqb k c (omega arith)))
    (eq-or-lt_of_le g))
    (lt_or_le k c)
  where
    one_times : (x : ℕ) → 1 * x + 0 ≡ x
    one_times x = omega arith

pub has_one : (n c k : ℕ) → c < n → has (1 * 2 ^ c % 2 ^ n) k ≡ eqb k c
has_one n c k h = ap (λ (s : ℕ). has s k) (ap (λ (x : ℕ). x % 2 ^ n) (one-mul (2 ^ c)) ∙ mod-eq_of_lt (pow-lt h)) ∙ has_bit c k

-- ---- what holds of all channels below n, one by one and both ways
pub all_below_each : (n : ℕ) (p : ℕ → Bool) → all_below n p ≡ true → (c : ℕ) → c < n → p c ≡ true
unfolding all_below
all_below_each zero p e c h = absurd (not-suc-le-zero h)
all_below_each (suc n) p e c h =
    ⊎_elim
    (λ (q : c ≡ n). rw q (both (p n) (all_below n p) e).0)
    (λ (l : c < n). all_below_each n p (both (p n) (all_below n p) e).1 c l)
    (eq-or-lt_of_le (le_of_suc-le-suc h))

pub each_all_below : (n : ℕ) (p : ℕ → Bool) → ((c : ℕ) → c < n → p c ≡ true) → all_below n p ≡ true
unfolding all_below
each_all_below zero p e = refl
each_all_below (suc n) p e = rw (e n (le_refl (suc n)), each_all_below n p (λ c h. e c (omega arith))) refl

pub all_below_ext : (n : ℕ) (p q : ℕ → Bool) → ((c : ℕ) → c < n → p c ≡ q c) → all_below n p ≡ all_below n q
unfolding all_below
all_below_ext zero p q e = refl
all_below_ext (suc n) p q e = rw (e n (le_refl (suc n)), all_below_ext n p q (λ c h. e c (omega arith))) refl

-- ---- the test `s == 0`: no channel is in the set
pub is_none : (n s : ℕ) → s < 2 ^ n → eqb s 0 ≡ all_below n (λ c. not (has s c))
is_none n s b = by_test (all_below n (λ c. not (has s c))) refl
  where
    by_test : (x : Bool) → all_below n (λ c. not (has s c)) ≡ x → eqb s 0 ≡ x
    by_test true a = eq-eqb s 0 (ext n s 0 b (pow_pos n) (λ c h. not_true (has s c) (all_below_each n (λ c. not (has s c)) a c h) ∙ sym (has_none c)))
    by_test false a = ne_eqb s 0 (λ (z : s ≡ 0). false≢true (sym a ∙ each_all_below n (λ c. not (has s c)) (λ c h. rw (z, has_none c) refl)))

-- ---- the set `inner` lies within `outer`, said of each channel, both ways
implied : (x y : Bool) → (not x || y) ≡ true → x ≡ true → y ≡ true
implied true y e h = e
implied false y e h = absurd (false≢true h)

implies : (x y : Bool) → (x ≡ true → y ≡ true) → (not x || y) ≡ true
implies true y e = e refl
implies false y e = refl

pub within_each : (inner outer : ℕ) → is_within inner outer ≡ true → (c : ℕ) → c < 32 → has inner c ≡ true → has outer c ≡ true
unfolding is_within
within_each inner outer e c h = implied (has inner c) (has outer c) (all_below_each 32 (λ k. not (has inner k) || has outer k) e c h)

pub each_within : (inner outer : ℕ) → ((c : ℕ) → c < 32 → has inner c ≡ true → has outer c ≡ true) → is_within inner outer ≡ true
unfolding is_within
each_within inner outer e = each_all_below 32 (λ k. not (has inner k) || has outer k) (λ c h. implies (has inner c) (has outer c) (e c h))

-- ---- the set with channel c put in
pub has_with_channel : (s c k : ℕ) → k < 32 → has (with_channel s c) k ≡ (has s k || eqb k c)
unfolding with_channel
has_with_channel s c k h = has_set_of 32 (λ j. has s j || eqb j c) k h

pub with_channel_lt : (s c : ℕ) → with_channel s c < 2 ^ 32
unfolding with_channel
with_channel_lt s c = set_of_lt 32 (λ k. has s k || eqb k c)

pub with_channel_above : (s c : ℕ) → s < 2 ^ 32 → 31 < c → with_channel s c ≡ s
with_channel_above s c b l =
    ext 32 (with_channel s c) s (with_channel_lt s c) b
    (λ k h. has_with_channel s c k h ∙ rw (ne_eqb k c (omega arith)) (or-false (has s k)))

-- ---- bounds
pub and_below : (n a b : ℕ) → a < 2 ^ n → bit_and a b < 2 ^ n
and_below n a b h = lt_of_le_of_lt (and_le_l a b) h

-- ---- the list that a rule gives
pub length_list_of : (n : ℕ) (f : ℕ → ℕ) → length (list_of n f) ≡ n
unfolding list_of
length_list_of zero f = refl
length_list_of (suc n) f = ap suc (length_list_of n (λ k. f (suc k)))

pub get_or_list_of : (n : ℕ) (f : ℕ → ℕ) (i d : ℕ) → i < n → get_or (list_of n f) i d ≡ f i
unfolding list_of
get_or_list_of zero f i d h = absurd (not-suc-le-zero h)
get_or_list_of (suc n) f zero d h = refl
get_or_list_of (suc n) f (suc i) d h = get_or_list_of n (λ k. f (suc k)) i d (le_of_suc-le-suc h)

pub is_list_of : (n : ℕ) (f : ℕ → ℕ) (l : List ℕ) → length l ≡ n → ((i : ℕ) → i < n → get_or l i 0 ≡ f i) → l ≡ list_of n f
is_list_of n f l e h =
    ext_get_or 0 l (list_of n f) (e ∙ sym (length_list_of n f))
    (λ i b. let k : i < n = omega arith in h i k ∙ sym (get_or_list_of n f i 0 k))
