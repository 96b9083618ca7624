-- What stands at each of the 122 places: by name, the field of the page and the row for it. `get_or layout i p` is place
-- i, and p only stands where there is none. Assumes nothing.
use Prim.Native.Nat.{ℕ, zero, suc, ◌+◌, ◌*◌, ◌/◌, ◌%◌, ◌-◌, ◌≤◌, ◌<◌}
use mathlib.Core.Path.{◌≡◌, refl, ap, ◌∙◌}
use mathlib.Core.List.{List, [], ◌∷◌, ◌++◌}
use mathlib.Core.Logic.{⊎_elim}
use native.Mathlib.Omega.{arith}
use lib.ListN.{length, get_or, length-append, get_or-append}
use lib.Seq.{get_or-append-add}
use Rattle.laws.proofs.Lists.{lt_or_le}
use Rattle.readings.specs.declared.apart.Raw.{Raw}
use Rattle.readings.specs.declared.apart.Engineering.{Engineering}
use Rattle.readings.specs.declared.table.Row.TheVariants.{VoltBrdsup, PduTemp, ChannelPowe}
use Rattle.readings.specs.Table.{engineering_of}
use Rattle.readings.specs.Layout.{Block, VIP_INPUT, VIP-VD, VIP-CH, VOLT-BRDSUP, TEMP-MCU, POWE, Place, ◌by◌, vip, channel, up_to, layout, row_of, converted_by, row_at, vip_row, channel_row}

-- ---- blocks of three in a row
module _ (f : ℕ → List Place) (three : (k : ℕ) → length (f k) ≡ 3) where
  length_up_to : (n : ℕ) → length (up_to n f) ≡ 3 * n
  unfolding up_to
  length_up_to zero = refl
  length_up_to (suc n) = length-append (up_to n f) (f n) ∙ omega (arith, length_up_to n, three n)

  up_to_at : (n k q : ℕ) (p : Place) → k < n → q < 3 → get_or (up_to n f) (3 * k + q) p ≡ get_or (f k) q p
  unfolding up_to
  up_to_at zero k q p h g = absurd (omega arith)
  up_to_at (suc n) k q p h g =
      let l = length_up_to n in
      ⊎_elim
      (λ (below : k < n). get_or-append (up_to n f) (f n) p (3 * k + q) (omega arith) ∙ up_to_at n k q p below g)
      (λ (last : n ≤ k).
      let e : k ≡ n = omega arith in
      let m : 3 * k + q ≡ length (up_to n f) + q = omega arith in
      rw (m, e) (get_or-append-add (up_to n f) (f n) q p))
      (lt_or_le k n)

pub past : {A : Type 0} (xs ys : List A) (n k : ℕ) (p : A) → length xs ≡ n → get_or (xs ++ ys) (n + k) p ≡ get_or ys k p
past xs ys n k p e = rw (← e) (get_or-append-add xs ys k p)

-- ---- the layout, part by part
abbrev supply : List Place
supply = (VOLT-BRDSUP by VoltBrdsup) ∷ (TEMP-MCU by PduTemp) ∷ []

abbrev domains : List Place
domains = up_to 7 (λ d. vip (VIP-VD d))

abbrev channels : List Place
channels = up_to 32 (λ c. channel (VIP-CH c))

length_domains : length domains ≡ 21
length_domains = length_up_to (λ d. vip (VIP-VD d)) (λ d. refl) 7

length_channels : length channels ≡ 96
length_channels = length_up_to (λ c. channel (VIP-CH c)) (λ c. refl) 32

length_front : length (supply ++ vip VIP_INPUT ++ domains) ≡ 26
length_front = length-append (supply ++ vip VIP_INPUT) domains ∙ omega (arith, length_domains)

pub length_layout : length layout ≡ 122
unfolding layout
length_layout = length-append (supply ++ vip VIP_INPUT ++ domains) channels ∙ omega (arith, length_front, length_channels)

in_front : (i : ℕ) (p : Place) → i < 26 → get_or layout i p ≡ get_or (supply ++ vip VIP_INPUT ++ domains) i p
unfolding layout
in_front i p h = get_or-append (supply ++ vip VIP_INPUT ++ domains) channels p i (omega (arith, length_front))

-- ---- the 122 places
-- VOLT_BRDSUP is word 0 and TEMP_MCU word 1; the VOLT, CURR and POWE of VIP_INPUT are words 2, 3 and 4
module _ (p : Place) where
  front_at : (i : ℕ) → i < 5 → get_or layout i p ≡ get_or (supply ++ vip VIP_INPUT) i p
  front_at i h = in_front i p (omega arith) ∙ get_or-append (supply ++ vip VIP_INPUT) domains p i (omega arith)

  pub supply_at : get_or layout 0 p ≡ (VOLT-BRDSUP by VoltBrdsup)
  supply_at = front_at 0 (omega arith)

  pub temperature_at : get_or layout 1 p ≡ (TEMP-MCU by PduTemp)
  temperature_at = front_at 1 (omega arith)

  pub input_at : (q : ℕ) → q < 3 → get_or layout (2 + q) p ≡ get_or (vip VIP_INPUT) q p
  input_at q h = front_at (2 + q) (omega arith) ∙ past supply (vip VIP_INPUT) 2 q p refl

  -- those of VIP_VDd are words 5 + 3d to 7 + 3d
  pub domain_at : (d q : ℕ) → d < 7 → q < 3 → get_or layout (5 + (3 * d + q)) p ≡ get_or (vip (VIP-VD d)) q p
  domain_at d q h g =
      in_front (5 + (3 * d + q)) p (omega arith)
      ∙ past (supply ++ vip VIP_INPUT) domains 5 (3 * d + q) p refl
      ∙ up_to_at (λ k. vip (VIP-VD k)) (λ k. refl) 7 d q p h g

  -- and those of VIP_CHc words 26 + 3c to 28 + 3c
  pub channel_at : (c q : ℕ) → c < 32 → q < 3 → get_or layout (26 + (3 * c + q)) p ≡ get_or (channel (VIP-CH c)) q p
  unfolding layout
  channel_at c q h g =
      past (supply ++ vip VIP_INPUT ++ domains) channels 26 (3 * c + q) p length_front
      ∙ up_to_at (λ k. channel (VIP-CH k)) (λ k. refl) 32 c q p h g

-- ---- the row of a word within its block: the block makes no difference
same_rows : (block : Block) (word : ℕ) (p : Place) → word < 3 → row_of (get_or (vip block) word p) ≡ vip_row word
same_rows block zero p h = refl
same_rows block (suc zero) p h = refl
same_rows block (suc (suc zero)) p h = refl
same_rows block (suc (suc (suc word))) p h = absurd (omega arith)

same_channel_rows : (block : Block) (word : ℕ) (p : Place) → word < 3 → row_of (get_or (channel block) word p) ≡ channel_row word
same_channel_rows block zero p h = refl
same_channel_rows block (suc zero) p h = refl
same_channel_rows block (suc (suc zero)) p h = refl
same_channel_rows block (suc (suc (suc word))) p h = absurd (omega arith)

abbrev none : Place
none = POWE (VIP-CH 31) by ChannelPowe

-- a word before the channels', and a channel's
pub vip_row_at : (i : ℕ) → 2 ≤ i → i < 26 → row_at i ≡ vip_row ((i - 2) % 3)
vip_row_at i h g =
    ⊎_elim
    (λ (input : i < 5).
    let e : i ≡ 2 + (i - 2) % 3 = omega arith in
    let at = ap row_of (input_at none ((i - 2) % 3) (omega arith)) ∙ same_rows VIP_INPUT ((i - 2) % 3) none (omega arith) in
    ap row_at e ∙ at)
    (λ (domain : 5 ≤ i).
    let d : ℕ = (i - 5) / 3 in
    let e : i ≡ 5 + (3 * d + (i - 2) % 3) = omega arith in
    let at = ap row_of (domain_at none d ((i - 2) % 3) (omega arith) (omega arith)) ∙ same_rows (VIP-VD d) ((i - 2) % 3) none (omega arith) in
    ap row_at e ∙ at)
    (lt_or_le i 5)

pub channel_row_at : (i : ℕ) → 26 ≤ i → i < 122 → row_at i ≡ channel_row ((i - 26) % 3)
channel_row_at i h g =
    let c : ℕ = (i - 26) / 3 in
    let q : ℕ = (i - 26) % 3 in
    let e : i ≡ 26 + (3 * c + q) = omega arith in
    ap row_at e ∙ ap row_of (channel_at none c q (omega arith) (omega arith)) ∙ same_channel_rows (VIP-CH c) q none (omega arith)

-- ---- what becomes of the word at a place
pub converted_at : (places : List Place) (raws : List Raw) (i : ℕ) (p : Place) (r : Raw) (e : Engineering) → i < length places → i < length raws
    → get_or (converted_by places raws) i e ≡ engineering_of (row_of (get_or places i p)) (get_or raws i r)
unfolding converted_by
converted_at [] raws i p r e h g = absurd (omega arith)
converted_at (place ∷ places) [] i p r e h g = absurd (omega arith)
converted_at (place ∷ places) (raw ∷ raws) zero p r e h g = refl
converted_at (place ∷ places) (raw ∷ raws) (suc i) p r e h g = converted_at places raws i p r e (omega arith) (omega arith)

pub length_converted : (places : List Place) (raws : List Raw) → length places ≤ length raws → length (converted_by places raws) ≡ length places
unfolding converted_by
length_converted [] raws h = refl
length_converted (place ∷ places) [] h = absurd (omega arith)
length_converted (place ∷ places) (raw ∷ raws) h = ap suc (length_converted places raws (omega arith))
