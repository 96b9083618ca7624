-- What stands before the ticks, one equation for each way that the code can go. Assumes nothing.
use Prim.Native.Nat.{ℕ, zero, suc, ◌+◌, ◌-◌, ◌≤◌, ◌<◌}
use mathlib.Core.Path.{◌≡◌, refl}
use mathlib.Core.List.{List, [], ◌∷◌}
use native.Mathlib.Omega.{arith}
use borrow.Author.Tests.{le-leb, lt-leb}
use Rattle.channels.specs.Sets.{with_channel}
use Rattle.grammar.specs.Grammar.{Read, fails, reads, on, byte, text}
use Rattle.grammar.specs.Numbers.{number}
use Rattle.grammar.proofs.Digits.{number_most}
use Rattle.sheet.specs.Form.{count, gap, channels_from, channel_list}
use Rattle.sheet.proofs.Behind.{went}

-- ---- a literal of one byte
alone : (r : Read (Unit {0})) → on r (λ u j. reads tt j) ≡ r
alone fails = refl
alone (reads tt j) = refl

pub text_one : (b : ℕ) (s : List ℕ) (i : ℕ) → text (b ∷ []) s i ≡ byte b s i
unfolding text
text_one b s i = alone (byte b s i)

-- ---- a count is at most its limit
pub count_most : (name : List ℕ) (limit : ℕ) (s : List ℕ) (i v j : ℕ) → count name limit s i ≡ reads v j → v ≤ limit
unfolding count
count_most name limit s i v j e =
    let w = went (text name s i) _ v j e in
    let n = went (number limit s w.place) _ v j w.onward in
    let u = went (byte 10 s n.place) (λ b k. reads n.what k) v j n.onward in
    let m = number_most limit s w.place n.what n.place n.first in
    let same : n.what ≡ v = cc in
    omega (arith, m)

-- a count that was read by the limit of the form
pub count_by : (name : List ℕ) (asked limit : ℕ) (s : List ℕ) (i : ℕ) (r : Read ℕ) → count name asked s i ≡ r → asked ≡ limit → count name limit s i ≡ r
count_by name asked limit s i r e q = rw q at e

-- ---- behind a channel
module _ (left : ℕ) (s : List ℕ) (i : ℕ) where
  pub gap_last : left ≡ 0 → text (10 ∷ []) s i ≡ gap left s i
  unfolding gap
  gap_last e = rw e (text_one 10 s i)

pub gap_more : (left : ℕ) (s : List ℕ) (i : ℕ) → (left ≡ 0 → ⊥) → text (32 ∷ []) s i ≡ gap left s i
unfolding gap
gap_more zero s i n = absurd (n refl)
gap_more (suc left) s i n = text_one 32 s i

-- ---- channels that rise, a turn each, read by a limit that has to be 31
module _ (set : ℕ) (s : List ℕ) where
  pub channels_end : (n least i : ℕ) → n ≡ 0 → channels_from n least set s i ≡ reads set i
  unfolding channels_from
  channels_end n least i e = rw e

  pub channels_none : (n least i limit : ℕ) → 0 < n → number limit s i ≡ fails → limit ≡ 31 → channels_from n least set s i ≡ fails
  unfolding channels_from
  channels_none zero least i limit h e q = absurd (omega arith)
  channels_none (suc n) least i limit h e q = rw (rw q at e)

  module _ (c j : ℕ) where
    pub channels_low : (n least i limit : ℕ) → 0 < n → number limit s i ≡ reads c j → limit ≡ 31 → c < least → channels_from n least set s i ≡ fails
    unfolding channels_from
    channels_low zero least i limit h e q l = absurd (omega arith)
    channels_low (suc n) least i limit h e q l = rw (rw q at e, lt-leb least c l)

    pub channels_apart : (n least i limit : ℕ) → 0 < n → number limit s i ≡ reads c j → limit ≡ 31 → least ≤ c → gap (n - 1) s j ≡ fails → channels_from n least set s i ≡ fails
    unfolding channels_from
    channels_apart zero least i limit h e q l g = absurd (omega arith)
    channels_apart (suc n) least i limit h e q l g =
        let m : suc n - 1 ≡ n = omega arith in
        rw (rw q at e, le-leb least c l, rw m at g)

    -- the next one is to be higher than this one
    pub channels_more : (n least i limit k : ℕ) → 0 < n → number limit s i ≡ reads c j → limit ≡ 31 → least ≤ c → gap (n - 1) s j ≡ reads tt k → (next : ℕ) → next ≡ c + 1
        → channels_from n least set s i ≡ channels_from (n - 1) next (with_channel set c) s k
    unfolding channels_from
    channels_more zero least i limit k h e q l g next p = absurd (omega arith)
    channels_more (suc n) least i limit k h e q l g next p =
        let m : suc n - 1 ≡ n = omega arith in
        rw (m, p, rw q at e, le-leb least c l, rw m at g)

-- ---- a list that is not empty
pub list_some : (n : ℕ) (s : List ℕ) (i : ℕ) → (n ≡ 0 → ⊥) → channel_list n s i ≡ channels_from n 0 0 s i
unfolding channel_list
list_some zero s i n = absurd (n refl)
list_some (suc n) s i _ = refl
