-- What stands at each of the 39 places of a battery board: by name, the field of the page and the way in which 0x62
-- tells it; and the word that it tells. `get_or packs i z` is place i, and z only stands where there is none. Assumes
-- nothing.
use Prim.Native.Nat.{ℕ, zero, suc, ◌+◌, ◌*◌, ◌/◌, ◌%◌, ◌-◌, ◌≤◌, ◌<◌}
use mathlib.Core.Path.{◌≡◌, refl, sym, ap, ◌∙◌}
use mathlib.Core.List.{List, [], ◌∷◌, ◌++◌}
use native.Mathlib.Omega.{arith}
use lib.ListN.{length, get_or, take, drop, get_or-append, get_or-map}
use Rattle.readings.specs.declared.apart.Raw.{Raw}
use Rattle.readings.specs.declared.packs.Way.TheVariants.{ByRow, ByCurve, AsItIs}
use Rattle.readings.specs.declared.table.Row.TheVariants.{VoltBrdsup, PduTemp, VipVolt, VipCurr, VipPowe, VoltCell, BatTemp1}
use Rattle.readings.specs.Layout.{Field, VIP_INPUT, VIP_BP_INPUT, VOLT-BRDSUP, TEMP-MCU, VOLT, CURR, POWE, STAT_BU, STAT_BP, VOLT-CELL, BAT-TEMP, up_to, layout, row_at, vip_row}
use Rattle.readings.specs.Packs.{Item, ◌told◌, front, pack, packs, word_by, way_of, told_by, way_at, pack_way}
use Rattle.readings.proofs.Places.{past}

pub length_packs : length packs ≡ 39
unfolding packs
length_packs = refl

-- ---- the 39 places
module _ (z : Item) where
  -- VOLT_BRDSUP is word 0 and TEMP_MCU word 1; the VOLT, CURR and POWE of VIP_INPUT are words 2, 3 and 4; STAT_BU is
  -- word 5
  pub front_at : (get_or packs 0 z ≡ (VOLT-BRDSUP told ByRow VoltBrdsup))
      × (get_or packs 1 z ≡ (TEMP-MCU told ByRow PduTemp))
      × (get_or packs 2 z ≡ (VOLT VIP_INPUT told ByRow VipVolt))
      × (get_or packs 3 z ≡ (CURR VIP_INPUT told ByRow VipCurr))
      × (get_or packs 4 z ≡ (POWE VIP_INPUT told ByRow VipPowe))
      × (get_or packs 5 z ≡ (STAT_BU told AsItIs))
  unfolding packs
  front_at = (refl, refl, refl, refl, refl, refl)

  -- the words of BP1 are 6 to 16, those of BP2 17 to 27 and those of BP3 28 to 38
  pub pack_at : (p q : ℕ) → p < 3 → q < 11 → get_or packs (6 + (11 * p + q)) z ≡ get_or (pack (suc p)) q z
  unfolding packs
  pack_at zero q h g =
      let e : 6 + (11 * 0 + q) ≡ 6 + q = omega arith in
      get_or-append (front ++ pack 1 ++ pack 2) (pack 3) z (6 + (11 * 0 + q)) (omega arith)
      ∙ get_or-append (front ++ pack 1) (pack 2) z (6 + (11 * 0 + q)) (omega arith)
      ∙ ap (λ (k : ℕ). get_or (front ++ pack 1) k z) e
      ∙ past front (pack 1) 6 q z refl
  pack_at (suc zero) q h g =
      let e : 6 + (11 * 1 + q) ≡ 17 + q = omega arith in
      get_or-append (front ++ pack 1 ++ pack 2) (pack 3) z (6 + (11 * 1 + q)) (omega arith)
      ∙ ap (λ (k : ℕ). get_or (front ++ pack 1 ++ pack 2) k z) e
      ∙ past (front ++ pack 1) (pack 2) 17 q z refl
  pack_at (suc (suc zero)) q h g =
      let e : 6 + (11 * 2 + q) ≡ 28 + q = omega arith in
      ap (λ (k : ℕ). get_or packs k z) e
      ∙ past (front ++ pack 1 ++ pack 2) (pack 3) 28 q z refl
  pack_at (suc (suc (suc p))) q h g = absurd (omega arith)

  -- and within a pack
  pub within_pack : (p : ℕ) → (get_or (pack p) 0 z ≡ (VOLT (VIP_BP_INPUT p) told ByRow VipVolt))
      × (get_or (pack p) 1 z ≡ (CURR (VIP_BP_INPUT p) told ByRow VipCurr))
      × (get_or (pack p) 2 z ≡ (POWE (VIP_BP_INPUT p) told ByRow VipPowe))
      × (get_or (pack p) 3 z ≡ (STAT_BP p told AsItIs))
      × (get_or (pack p) 4 z ≡ (VOLT-CELL p 1 told ByRow VoltCell))
      × (get_or (pack p) 5 z ≡ (VOLT-CELL p 2 told ByRow VoltCell))
      × (get_or (pack p) 6 z ≡ (VOLT-CELL p 3 told ByRow VoltCell))
      × (get_or (pack p) 7 z ≡ (VOLT-CELL p 4 told ByRow VoltCell))
      × (get_or (pack p) 8 z ≡ (BAT-TEMP p 1 told ByRow BatTemp1))
      × (get_or (pack p) 9 z ≡ (BAT-TEMP p 2 told ByCurve))
      × (get_or (pack p) 10 z ≡ (BAT-TEMP p 3 told ByCurve))
  within_pack p = (refl, refl, refl, refl, refl, refl, refl, refl, refl, refl, refl)

-- ---- the way of a word: in front as on 0x52, and in a pack whichever pack it is
pub front_way : (i : ℕ) → i < 5 → way_at i ≡ ByRow (row_at i)
unfolding packs layout up_to
front_way zero h = refl
front_way (suc zero) h = refl
front_way (suc (suc zero)) h = refl
front_way (suc (suc (suc zero))) h = refl
front_way (suc (suc (suc (suc zero)))) h = refl
front_way (suc (suc (suc (suc (suc i))))) h = absurd (omega arith)

same_ways : (p q : ℕ) (field : Field) → way_of (get_or (pack p) q (field told ByCurve)) ≡ pack_way q
unfolding pack_way
same_ways p q field =
    sym (get_or-map way_of (pack p) q (field told ByCurve)) ∙ get_or-map way_of (pack 1) q (BAT-TEMP 1 3 told ByCurve)

pub pack_way_at : (i : ℕ) → 6 ≤ i → i < 39 → way_at i ≡ pack_way ((i - 6) % 11)
pack_way_at i h g =
    let p : ℕ = (i - 6) / 11 in
    let q : ℕ = (i - 6) % 11 in
    let e : i ≡ 6 + (11 * p + q) = omega arith in
    ap way_at e ∙ ap way_of (pack_at (BAT-TEMP 3 3 told ByCurve) p q (omega arith) (omega arith)) ∙ same_ways (suc p) q (BAT-TEMP 3 3)

-- ---- the ways within a pack: its VIPD, its cells, and its last temperatures
pub vipd_ways : (word : ℕ) → word < 3 → pack_way word ≡ ByRow (vip_row word)
unfolding pack_way
vipd_ways zero h = refl
vipd_ways (suc zero) h = refl
vipd_ways (suc (suc zero)) h = refl
vipd_ways (suc (suc (suc word))) h = absurd (omega arith)

pub cell_ways : (k : ℕ) → k < 4 → pack_way (4 + k) ≡ ByRow VoltCell
unfolding pack_way
cell_ways zero h = refl
cell_ways (suc zero) h = refl
cell_ways (suc (suc zero)) h = refl
cell_ways (suc (suc (suc zero))) h = refl
cell_ways (suc (suc (suc (suc k)))) h = absurd (omega arith)

pub curve_ways : (k : ℕ) → pack_way (9 + k) ≡ ByCurve
unfolding pack_way
curve_ways k = ap way_of (past (take 9 (pack 1)) (drop 9 (pack 1)) 9 k (BAT-TEMP 1 3 told ByCurve) refl) ∙ last_two k
  where
    last_two : (k : ℕ) → way_of (get_or (drop 9 (pack 1)) k (BAT-TEMP 1 3 told ByCurve)) ≡ ByCurve
    last_two zero = refl
    last_two (suc zero) = refl
    last_two (suc (suc k)) = refl

-- ---- the word that is told at a place
at : (items : List Item) (raws : List Raw) (i : ℕ) (z : Item) (r : Raw) (w : ℕ) → i < length items → i < length raws
    → get_or (told_by items raws) i w ≡ word_by (way_of (get_or items i z)) (get_or raws i r)
unfolding told_by
at [] raws i z r w h g = absurd (omega arith)
at (item ∷ items) [] i z r w h g = absurd (omega arith)
at (item ∷ items) (raw ∷ raws) zero z r w h g = refl
at (item ∷ items) (raw ∷ raws) (suc i) z r w h g = at items raws i z r w (omega arith) (omega arith)

length_told : (items : List Item) (raws : List Raw) → length items ≤ length raws → length (told_by items raws) ≡ length items
unfolding told_by
length_told [] raws h = refl
length_told (item ∷ items) [] h = absurd (omega arith)
length_told (item ∷ items) (raw ∷ raws) h = ap suc (length_told items raws (omega arith))

pub length_packs_told : (raws : List Raw) → length raws ≡ 130 → length (told_by packs raws) ≡ 39
length_packs_told raws h = length_told packs raws (omega (arith, length_packs)) ∙ length_packs

pub told_at : (raws : List Raw) (k : ℕ) (r : Raw) (w : ℕ) → length raws ≡ 130 → k < 39 → get_or (told_by packs raws) k w ≡ word_by (way_at k) (get_or raws k r)
told_at raws k r w l h = at packs raws k (BAT-TEMP 3 3 told ByCurve) r w (omega (arith, length_packs)) (omega arith)
