-- Read back from their image, the settings are the same. Assumes nothing.
use mathlib.Core.Bool.{true}
use mathlib.Core.Path.{◌≡◌, refl, sym, ap, ap₂, ◌∙◌, subst}
use mathlib.Core.List.{List, [], ◌∷◌, ◌++◌, append_assoc, append-nil}
use Prim.Native.Nat.{ℕ, suc, ◌+◌, ◌^◌, ◌<◌}
use native.Mathlib.Nat.{add-zero}
use native.Mathlib.Omega.{arith}
use lib.IntN.{ℤ, pos, negsuc}
use lib.ListN.{length, drop, get_or}
use lib.Seq.{drop_at, drop-drop}
use lib.Signed.{le_z}
use mir.Syntax.{Width, w8, w16}
use mir.Val.{SFits, hbits}
use borrow.Author.Tests.{leb-true}
use Rattle.wire.specs.Numbers.{number, bytes_of, signed, pattern}
use Rattle.wire.proofs.LittleEndian.{number_append, number_bytes_of, length_bytes_of}
use Rattle.wire.proofs.TwosComplement.{signed_pattern, pattern_fits}
use Rattle.value.specs.Types.{width}
use Rattle.value.specs.Values.{wire_bytes, spelt}
use Rattle.settings.specs.Table.{read_write_rows, read_only_rows, lies, find, row_of, parameter_of, column, from}
use Rattle.settings.specs.declared.Settings.{Settings}
use Rattle.value.specs.declared.ValueType.TheVariants.{Int8, Uint8, Int16, Uint16, Uint32}
use Rattle.settings.specs.Values.{in_range_of}
use Rattle.settings.proofs.Laws.{Fitting, in_range_fitting}
use Rattle.settings.proofs.Places.{int8_get, uint8_get, int16_get, uint16_get, uint32_get, int8_number, uint8_number, int16_number, uint16_number, uint32_number}
use Rattle.settings.proofs.Ranges.{Fit}
use Rattle.settings.proofs.Rows.{int8s, uint8s, int16s, uint16s, uint32s}
use Rattle.settings.proofs.Stores.{Sized}
use Rattle.settings.proofs.Walks.{ids_by_type}
use Rattle.wire.specs.Numbers.{itself}
use Rattle.image.specs.Image.{got_bytes, parameter_bytes, in_row, image_of, numbers_of, settings_of}
use Rattle.image.proofs.Writing.{row_append, length_row, widths, width_in}

-- ---- the values of one type: f gives the bytes of an id, p the number that a value's bytes spell, and g the value
-- back
module _ {A : Type 0} (g : ℕ → A) (p : A → ℕ) (w : ℕ) (d : A) (f : ℕ → List ℕ) where
  pub block : (xs : List A) (first : ℕ) (rest : List ℕ)
      → ((k : ℕ) → k < length xs → f (first + k) ≡ bytes_of w (p (get_or xs k d)))
      → ((k : ℕ) → k < length xs → p (get_or xs k d) < 256 ^ w)
      → ((k : ℕ) → k < length xs → g (p (get_or xs k d)) ≡ get_or xs k d)
      → numbers_of g w (length xs) (in_row f (from first (length xs)) ++ rest) ≡ xs
  unfolding numbers_of in_row from column
  block [] first rest bytes small back = refl
  block (x ∷ xs) first rest bytes small back =
      let more = in_row f (from (suc first) (length xs)) ++ rest in
      let here : f first ≡ bytes_of w (p x) = ap f (sym (add-zero first)) ∙ bytes 0 (omega arith) in
      let split : (f first ++ in_row f (from (suc first) (length xs))) ++ rest ≡ bytes_of w (p x) ++ more =
      append_assoc (f first) (in_row f (from (suc first) (length xs))) rest ∙ ap (λ (l : List ℕ). l ++ more) here in
      let n : number w (bytes_of w (p x) ++ more) ≡ p x =
      number_append w (bytes_of w (p x)) more (omega (arith, length_bytes_of w (p x))) ∙ number_bytes_of w (p x) (small 0 (omega arith)) in
      let past : drop w (bytes_of w (p x) ++ more) ≡ more = drop_at (bytes_of w (p x)) more w (length_bytes_of w (p x)) in
      let next : (k : ℕ) → suc first + k ≡ first + suc k = λ k. omega arith in
      ap (numbers_of g w (suc (length xs))) split
      ∙ ap₂ (λ (a : A) (l : List A). a ∷ l)
      (ap g n ∙ back 0 (omega arith))
      (ap (numbers_of g w (length xs)) past
      ∙ block xs (suc first) rest (λ k h. ap f (next k) ∙ bytes (suc k) (omega arith)) (λ k h. small (suc k) (omega arith)) (λ k h. back (suc k) (omega arith)))

  -- the same for an array of n
  pub resized : (n : ℕ) (xs : List A) (first : ℕ) (rest : List ℕ) → length xs ≡ n
      → ((k : ℕ) → k < n → f (first + k) ≡ bytes_of w (p (get_or xs k d)))
      → ((k : ℕ) → k < n → p (get_or xs k d) < 256 ^ w)
      → ((k : ℕ) → k < n → g (p (get_or xs k d)) ≡ get_or xs k d)
      → numbers_of g w n (in_row f (from first n) ++ rest) ≡ xs
  resized n xs first rest e bytes small back =
      rw (← e) (block xs first rest (λ k h. bytes k (omega (arith, e))) (λ k h. small k (omega (arith, e))) (λ k h. back k (omega (arith, e))))

-- ---- the bytes of each type's values
module _ (s : Settings) (k : ℕ) where
  int8_bytes : k < 21 → parameter_bytes s (0x1000 + k) ≡ bytes_of 1 (pattern 1 (get_or s.i8s k (pos 0)))
  unfolding parameter_bytes wire_bytes width spelt
  int8_bytes h = ap got_bytes (int8_get s k h)

  uint8_bytes : k < 3 → parameter_bytes s (0x2000 + k) ≡ bytes_of 1 (get_or s.u8s k 0)
  unfolding parameter_bytes wire_bytes width spelt
  uint8_bytes h = ap got_bytes (uint8_get s k h)

  int16_bytes : k < 42 → parameter_bytes s (0x3000 + k) ≡ bytes_of 2 (pattern 2 (get_or s.i16s k (pos 0)))
  unfolding parameter_bytes wire_bytes width spelt
  int16_bytes h = ap got_bytes (int16_get s k h)

  uint16_bytes : k < 68 → parameter_bytes s (0x4000 + k) ≡ bytes_of 2 (get_or s.u16s k 0)
  unfolding parameter_bytes wire_bytes width spelt
  uint16_bytes h = ap got_bytes (uint16_get s k h)

  uint32_bytes : k < 6 → parameter_bytes s (0x6000 + k) ≡ bytes_of 4 (get_or s.u32s k 0)
  unfolding parameter_bytes wire_bytes width spelt
  uint32_bytes h = ap got_bytes (uint32_get s k h)

-- ---- a number that lies between its type's ends fits the type's width
bounded : (w : Width) (top : ℕ) (z : ℤ) → top < 2 ^ hbits w → le_z (negsuc top) z ≡ true → le_z z (pos top) ≡ true → SFits w z
bounded w top (pos n) h low high = record { sfits = omega (arith, leb-true n top high) }
bounded w top (negsuc n) h low high = record { sfits = omega (arith, leb-true n top low) }

block_sizes : (widths (from 0x1000 21) ≡ 21) × (widths (from 0x2000 3) ≡ 3) × (widths (from 0x3000 42) ≡ 84) × (widths (from 0x4000 68) ≡ 136)
unfolding widths width_in parameter_of row_of find lies read_write_rows read_only_rows from column
block_sizes = (refl, refl, refl, refl)

module _ (s : Settings) (sized : Sized s) (fit : Fitting s) where
  i8_fits : (k : ℕ) → k < 21 → SFits w8 (get_or s.i8s k (pos 0))
  i8_fits k h =
      let f = subst (Fit Int8) (int8_number s k h) (fit (0x1000 + k) Int8 (int8s (0x1000 + k) (omega arith) (omega arith))) in
      bounded w8 0x7F _ (omega arith) f.low f.high

  i16_fits : (k : ℕ) → k < 42 → SFits w16 (get_or s.i16s k (pos 0))
  i16_fits k h =
      let f = subst (Fit Int16) (int16_number s k h) (fit (0x3000 + k) Int16 (int16s (0x3000 + k) (omega arith) (omega arith))) in
      bounded w16 0x7FFF _ (omega arith) f.low f.high

  u8_fits : (k : ℕ) → k < 3 → get_or s.u8s k 0 < 256
  u8_fits k h =
      let f = subst (Fit Uint8) (uint8_number s k h) (fit (0x2000 + k) Uint8 (uint8s (0x2000 + k) (omega arith) (omega arith))) in
      omega (arith, leb-true (get_or s.u8s k 0) 0xFF f.high)

  u16_fits : (k : ℕ) → k < 68 → get_or s.u16s k 0 < 65536
  u16_fits k h =
      let f = subst (Fit Uint16) (uint16_number s k h) (fit (0x4000 + k) Uint16 (uint16s (0x4000 + k) (omega arith) (omega arith))) in
      omega (arith, leb-true (get_or s.u16s k 0) 0xFFFF f.high)

  u32_fits : (k : ℕ) → k < 6 → get_or s.u32s k 0 < 4294967296
  u32_fits k h =
      let f = subst (Fit Uint32) (uint32_number s k h) (fit (0x6000 + k) Uint32 (uint32s (0x6000 + k) (omega arith) (omega arith))) in
      omega (arith, leb-true (get_or s.u32s k 0) 0xFFFFFFFF f.high)

  abbrev rows : List ℕ → List ℕ
  rows xs = in_row (parameter_bytes s) xs

  -- the image, type after type
  in_blocks : image_of s ≡ rows (from 0x1000 21) ++ (rows (from 0x2000 3) ++ (rows (from 0x3000 42) ++ (rows (from 0x4000 68) ++ rows (from 0x6000 6))))
  unfolding image_of
  in_blocks =
      ap rows ids_by_type
      ∙ row_append (parameter_bytes s) (from 0x1000 21) _
      ∙ ap (λ (l : List ℕ). rows (from 0x1000 21) ++ l)
      (row_append (parameter_bytes s) (from 0x2000 3) _
      ∙ ap (λ (l : List ℕ). rows (from 0x2000 3) ++ l)
      (row_append (parameter_bytes s) (from 0x3000 42) _
      ∙ ap (λ (l : List ℕ). rows (from 0x3000 42) ++ l) (row_append (parameter_bytes s) (from 0x4000 68) (from 0x6000 6))))

  -- how long each type's bytes are
  size : (xs : List ℕ) (n : ℕ) → widths xs ≡ n → length (rows xs) ≡ n
  size xs n e = length_row s xs ∙ e

  abbrev after32 : List ℕ
  after32 = rows (from 0x6000 6)

  abbrev after16 : List ℕ
  after16 = rows (from 0x4000 68) ++ after32

  abbrev after_s16 : List ℕ
  after_s16 = rows (from 0x3000 42) ++ after16

  abbrev after8 : List ℕ
  after8 = rows (from 0x2000 3) ++ after_s16

  past_8 : drop 21 (image_of s) ≡ after8
  past_8 = ap (drop 21) in_blocks ∙ drop_at (rows (from 0x1000 21)) after8 21 (size (from 0x1000 21) 21 block_sizes.0)

  past_24 : drop 24 (image_of s) ≡ after_s16
  past_24 = sym (drop-drop 3 21 (image_of s)) ∙ ap (drop 3) past_8 ∙ drop_at (rows (from 0x2000 3)) after_s16 3 (size (from 0x2000 3) 3 block_sizes.1)

  past_108 : drop 108 (image_of s) ≡ after16
  past_108 = sym (drop-drop 84 24 (image_of s)) ∙ ap (drop 84) past_24 ∙ drop_at (rows (from 0x3000 42)) after16 84 (size (from 0x3000 42) 84 block_sizes.2)

  past_244 : drop 244 (image_of s) ≡ after32
  past_244 = sym (drop-drop 136 108 (image_of s)) ∙ ap (drop 136) past_108 ∙ drop_at (rows (from 0x4000 68)) after32 136 (size (from 0x4000 68) 136 block_sizes.3)

  -- each type's values
  i8s_back : numbers_of (signed 1) 1 21 (image_of s) ≡ s.i8s
  i8s_back =
      ap (numbers_of (signed 1) 1 21) in_blocks
      ∙ resized (signed 1) (pattern 1) 1 (pos 0) (parameter_bytes s) 21 s.i8s 0x1000 after8 sized.i8_size
      (λ k h. int8_bytes s k h)
      (λ k h. (pattern_fits w8 _ (i8_fits k h)).fits)
      (λ k h. signed_pattern w8 _ (i8_fits k h))

  u8s_back : numbers_of itself 1 3 (drop 21 (image_of s)) ≡ s.u8s
  u8s_back =
      ap (numbers_of itself 1 3) past_8
      ∙ resized itself itself 1 0 (parameter_bytes s) 3 s.u8s 0x2000 after_s16 sized.u8_size (λ k h. uint8_bytes s k h) u8_fits (λ k h. refl)

  i16s_back : numbers_of (signed 2) 2 42 (drop 24 (image_of s)) ≡ s.i16s
  i16s_back =
      ap (numbers_of (signed 2) 2 42) past_24
      ∙ resized (signed 2) (pattern 2) 2 (pos 0) (parameter_bytes s) 42 s.i16s 0x3000 after16 sized.i16_size
      (λ k h. int16_bytes s k h)
      (λ k h. (pattern_fits w16 _ (i16_fits k h)).fits)
      (λ k h. signed_pattern w16 _ (i16_fits k h))

  u16s_back : numbers_of itself 2 68 (drop 108 (image_of s)) ≡ s.u16s
  u16s_back =
      ap (numbers_of itself 2 68) past_108
      ∙ resized itself itself 2 0 (parameter_bytes s) 68 s.u16s 0x4000 after32 sized.u16_size (λ k h. uint16_bytes s k h) u16_fits (λ k h. refl)

  u32s_back : numbers_of itself 4 6 (drop 244 (image_of s)) ≡ s.u32s
  u32s_back =
      ap (numbers_of itself 4 6) (past_244 ∙ sym (append-nil after32))
      ∙ resized itself itself 4 0 (parameter_bytes s) 6 s.u32s 0x6000 [] sized.u32_size (λ k h. uint32_bytes s k h) u32_fits (λ k h. refl)

  -- the same settings
  pub reads_back : settings_of (image_of s) ≡ s
  unfolding settings_of
  reads_back = λ i. record { u32s = u32s_back i; u16s = u16s_back i; i16s = i16s_back i; i8s = i8s_back i; u8s = u8s_back i }

-- and so for all that may be stored
pub in_range_reads_back : (s : Settings) → Sized s → in_range_of s ≡ true → settings_of (image_of s) ≡ s
in_range_reads_back s sized h = reads_back s sized (in_range_fitting s h)
