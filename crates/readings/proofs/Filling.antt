-- A loop that fills an array of n places with a list as long, place by place, whatever its elements are; and the raw
-- readings of words that are fewer or more than there is room for. Assumes nothing.
use Prim.Native.Nat.{ℕ, ◌+◌, ◌≤◌, ◌<◌, min}
use mathlib.Core.Path.{◌≡◌, ◌∙◌}
use mathlib.Core.List.{List, map}
use mathlib.Core.Logic.{⊎_elim}
use native.Mathlib.Omega.{arith}
use lib.ListN.{length, get_or, set, length-map, length-replicate, drop_of_length-le}
use lib.Seq.{paste, paste-zero, take_all}
use Rattle.laws.proofs.Lists.{lt_or_le, paste_more, paste_all}
use Rattle.readings.specs.declared.apart.Raw.{Raw}
use Rattle.readings.specs.Readings.{raw_of, none_measured, measured_as}

module _ {A : Type 0} (n : ℕ) (d s : List A) where
  -- what is passed of s stands in front, and behind it what was there before
  pub record Filled (out : List A) (i : ℕ) : Type 0 where
    pub reach : i ≤ n
    pub long : length s ≡ n
    pub room : length d ≡ n
    pub is : out ≡ paste d 0 s i

  pub begun : length s ≡ n → length d ≡ n → Filled d 0
  begun l r = record { reach = omega arith; long = l; room = r; is = paste-zero d 0 s }

  pub turn : (z v : A) (out : List A) (i : ℕ) → Filled out i → i < n → v ≡ get_or s i z → Filled (set out i v) (i + 1)
  turn z v out i f h e =
      let l = f.long in
      let r = f.room in
      record { reach = omega arith; long = l; room = r; is = paste_more d s z 0 i i v out f.is (omega arith) e (omega arith) (omega arith) }

  pub ended : (out : List A) (i : ℕ) → Filled out i → n ≤ i → out ≡ s
  ended out i f h =
      let l = f.long in
      let r = f.room in
      let g = f.reach in
      paste_all d s i out f.is (omega arith) (omega arith)

-- ---- as many words as there is room for
pub filled : (words : List ℕ) (raws : List Raw) (i : ℕ) → i ≡ min (length words) 130 → raws ≡ paste none_measured 0 (map raw_of words) i → raws ≡ measured_as words
unfolding measured_as
filled words raws i h e =
    let s : List Raw = map raw_of words in
    let m : length s ≡ length words = length-map words raw_of in
    let l : length none_measured ≡ 130 = length-replicate {A = Raw} 130 (raw_of 0) in
    ⊎_elim
    (λ (short : length words < 130).
    let k : i ≡ length words = omega arith in
    let z : 0 + length words ≡ length words = omega arith in
    e ∙ rw (k, z, take_all (length words) s (omega arith), take_all 130 s (omega arith)))
    (λ (full : 130 ≤ length words).
    let k : i ≡ 130 = omega arith in
    let z : 0 + 130 ≡ 130 = omega arith in
    let a : length none_measured ≤ 130 = omega arith in
    let b : length none_measured ≤ length words = omega arith in
    e ∙ rw (k, z, drop_of_length-le none_measured a, drop_of_length-le none_measured b))
    (lt_or_le (length words) 130)
