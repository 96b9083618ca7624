-- The image is written one id after another: a value's bytes behind those of the ids before it. Assumes nothing.
use mathlib.Core.Path.{◌≡◌, refl, sym, ap, ap₂, ◌∙◌}
use mathlib.Core.List.{List, [], ◌∷◌, ◌++◌, append_assoc, append-nil}
use Prim.Native.Nat.{ℕ, ◌+◌, ◌-◌, ◌≤◌, ◌<◌}
use native.Mathlib.Numerals.{add-one}
use native.Mathlib.Omega.{arith}
use lib.ListN.{length, take, drop, get_or, replicate, length-append, take-append-drop}
use lib.Seq.{sets, sets-eq, length-sets, length-take-le, take_at, take_all, take-suc}
use lib.IntN.{ℤ}
use Rattle.wire.proofs.LittleEndian.{length_bytes_of}
use Rattle.wire.specs.Numbers.{bytes_of}
use Rattle.value.specs.Types.{width, type_of}
use Rattle.value.specs.declared.ValueType.TheVariants.{Int8, Uint8, Int16, Uint16, Int32, Uint32, Float, Int64, Uint64, Double}
use Rattle.value.specs.Values.{wire_bytes, value_bytes, spelt}
use Rattle.value.specs.declared.ParamValue.{ParamValue}
use Rattle.value.specs.declared.ValueBytes.{ValueBytes}
use Rattle.settings.specs.Table.{read_write_rows, read_only_rows, lies, find, row_of, column, from, ids_of, ids, parameter_of}
use Rattle.settings.specs.Values.{setting_of, got_as, get_of}
use Rattle.settings.specs.declared.Parameter.{Parameter}
use Rattle.settings.specs.declared.Got.{Got}
use Rattle.settings.specs.declared.Settings.{Settings}
use Rattle.settings.proofs.Walks.{ids_count}
use Rattle.image.specs.Image.{got_bytes, parameter_bytes, in_row, image_of}
use Rattle.image.specs.Room.{roomed}

-- ---- the bytes of a value, in their room
length_wire : (v : ParamValue) → length (wire_bytes v) ≡ width (type_of v)
unfolding wire_bytes
length_wire v = length_bytes_of (width (type_of v)) (spelt v)

pub room_value : (v : ParamValue) → value_bytes v ≡ roomed (wire_bytes v)
unfolding value_bytes roomed
room_value v = rw (length_wire v)

pub got_is : (s : Settings) (id : ℕ) (g : Got) (r : ValueBytes) → g ≡ get_of s id → r ≡ roomed (got_bytes g) → r ≡ roomed (parameter_bytes s id)
unfolding parameter_bytes
got_is s id g r e q = q ∙ ap (λ (x : Got). roomed (got_bytes x)) e

pub room_none : ◌≡◌ {A = ValueBytes} (record { len = 0; bytes = replicate 8 0 }) (roomed [])
unfolding roomed
room_none = refl

pub taken : (bytes : List ℕ) → take (roomed bytes).len (roomed bytes).bytes ≡ bytes
unfolding roomed
taken bytes = take_at bytes (replicate (8 - length bytes) 0) (length bytes) refl

-- ---- how many bytes an id has, whatever the settings are
unfoldable pub width_in : Parameter → ℕ
width_in (Parameter.ReadWrite Int8) = 1
width_in (Parameter.ReadWrite Uint8) = 1
width_in (Parameter.ReadWrite Int16) = 2
width_in (Parameter.ReadWrite Uint16) = 2
width_in (Parameter.ReadWrite Int32) = 0
width_in (Parameter.ReadWrite Uint32) = 4
width_in (Parameter.ReadWrite Float) = 0
width_in (Parameter.ReadWrite Int64) = 0
width_in (Parameter.ReadWrite Uint64) = 0
width_in (Parameter.ReadWrite Double) = 0
width_in (Parameter.ReadOnly t) = 0
width_in Parameter.Unknown = 0

unfoldable pub widths : List ℕ → ℕ
widths [] = 0
widths (id ∷ more) = width_in (parameter_of id) + widths more

all_widths : widths ids ≡ 268
unfolding widths width_in parameter_of row_of find lies read_write_rows read_only_rows ids ids_of from column
all_widths = refl

length_parameter : (s : Settings) (id : ℕ) → length (parameter_bytes s id) ≡ width_in (parameter_of id)
unfolding parameter_bytes get_of width_in wire_bytes width bytes_of
length_parameter s id = go (parameter_of id) (setting_of s id)
  where
    go : (p : Parameter) (z : ℤ) → length (got_bytes (got_as p z)) ≡ width_in p
    go (Parameter.ReadWrite Int8) z = refl
    go (Parameter.ReadWrite Uint8) z = refl
    go (Parameter.ReadWrite Int16) z = refl
    go (Parameter.ReadWrite Uint16) z = refl
    go (Parameter.ReadWrite Int32) z = refl
    go (Parameter.ReadWrite Uint32) z = refl
    go (Parameter.ReadWrite Float) z = refl
    go (Parameter.ReadWrite Int64) z = refl
    go (Parameter.ReadWrite Uint64) z = refl
    go (Parameter.ReadWrite Double) z = refl
    go (Parameter.ReadOnly t) z = refl
    go Parameter.Unknown z = refl

pub length_row : (s : Settings) (xs : List ℕ) → length (in_row (parameter_bytes s) xs) ≡ widths xs
unfolding in_row widths
length_row s [] = refl
length_row s (id ∷ xs) = length-append (parameter_bytes s id) (in_row (parameter_bytes s) xs) ∙ ap₂ (λ (a b : ℕ). a + b) (length_parameter s id) (length_row s xs)

pub length_image : (s : Settings) → length (image_of s) ≡ 268
unfolding image_of
length_image s = length_row s ids ∙ all_widths

-- ---- the walk: after k ids the image begins with their bytes
pub row_append : (f : ℕ → List ℕ) (xs ys : List ℕ) → in_row f (xs ++ ys) ≡ in_row f xs ++ in_row f ys
unfolding in_row
row_append f [] ys = refl
row_append f (x ∷ xs) ys = ap (λ (l : List ℕ). f x ++ l) (row_append f xs ys) ∙ sym (append_assoc (f x) (in_row f xs) (in_row f ys))

module _ (s : Settings) where
  abbrev before : ℕ → List ℕ
  before k = in_row (parameter_bytes s) (take k ids)

  -- the bytes of one id more
  one_more_lem : (k : ℕ) → k < 140 → before (k + 1) ≡ before k ++ parameter_bytes s (get_or ids k 0)
  unfolding in_row
  one_more_lem k h =
      rw (add-one k, take-suc ids k 0 (omega (arith, ids_count)), row_append (parameter_bytes s) (take k ids) (get_or ids k 0 ∷ []))
      (ap (λ (l : List ℕ). before k ++ l) (append-nil (parameter_bytes s (get_or ids k 0))))

  -- no more bytes than the image has
  within : (k : ℕ) → length (before k) ≤ 268
  unfolding image_of
  within k =
      let whole : before k ++ in_row (parameter_bytes s) (drop k ids) ≡ image_of s =
      sym (row_append (parameter_bytes s) (take k ids) (drop k ids)) ∙ ap (in_row (parameter_bytes s)) (take-append-drop k ids) in
      omega (arith, length_image s, sym (ap length whole), length-append (before k) (in_row (parameter_bytes s) (drop k ids)))

  pub record Walked (image : List ℕ) (at k : ℕ) : Type 0 where
    pub sized : length image ≡ 268
    pub at_is : at ≡ length (before k)
    pub front : take at image ≡ before k

  pub nothing_yet : (image : List ℕ) → length image ≡ 268 → Walked image 0 0
  unfolding in_row
  nothing_yet image e = record { sized = e; at_is = refl; front = refl }

  -- there is room for the next id's bytes
  pub room : (image : List ℕ) (at k id : ℕ) → Walked image at k → k < 140 → id ≡ get_or ids k 0 → at + length (parameter_bytes s id) ≤ 268
  room image at k id p h e =
      let q = one_more_lem k h in
      rw e (omega (arith, p.at_is, within (k + 1), ap length q, length-append (before k) (parameter_bytes s (get_or ids k 0))))

  pub next : (image : List ℕ) (at k id : ℕ) → Walked image at k → k < 140 → id ≡ get_or ids k 0
      → Walked (sets image at (parameter_bytes s id)) (at + length (parameter_bytes s id)) (k + 1)
  next image at k id p h e =
      let bytes = parameter_bytes s id in
      let q : before (k + 1) ≡ before k ++ bytes = rw e (one_more_lem k h) in
      let fits = room image at k id p h e in
      let ends : length (take at image ++ bytes) ≡ at + length bytes =
      length-append (take at image) bytes ∙ ap (λ (n : ℕ). n + length bytes) (length-take-le at image (omega (arith, p.sized))) in
      record {
        sized = length-sets image at bytes ∙ p.sized;
        at_is = ap (λ (n : ℕ). n + length bytes) p.at_is ∙ sym (length-append (before k) bytes) ∙ sym (ap length q);
        front =
            ap (take (at + length bytes)) (sets-eq bytes image at (omega (arith, p.sized)))
            ∙ take_at (take at image ++ bytes) _ (at + length bytes) ends
            ∙ ap (λ (l : List ℕ). l ++ bytes) p.front ∙ sym q;
      }

  pub whole : (image : List ℕ) (at k : ℕ) → Walked image at k → 140 ≤ k → image ≡ image_of s
  unfolding image_of
  whole image at k p h =
      let all : take k ids ≡ ids = take_all k ids (omega (arith, ids_count)) in
      let full : at ≡ 268 = p.at_is ∙ ap (λ (l : List ℕ). length (in_row (parameter_bytes s) l)) all ∙ length_image s in
      sym (take_all at image (omega (arith, p.sized))) ∙ p.front ∙ ap (in_row (parameter_bytes s)) all

few : (p : Parameter) → width_in p ≤ 8
unfolding width_in
few (Parameter.ReadWrite Int8) = omega arith
few (Parameter.ReadWrite Uint8) = omega arith
few (Parameter.ReadWrite Int16) = omega arith
few (Parameter.ReadWrite Uint16) = omega arith
few (Parameter.ReadWrite Int32) = omega arith
few (Parameter.ReadWrite Uint32) = omega arith
few (Parameter.ReadWrite Float) = omega arith
few (Parameter.ReadWrite Int64) = omega arith
few (Parameter.ReadWrite Uint64) = omega arith
few (Parameter.ReadWrite Double) = omega arith
few (Parameter.ReadOnly t) = omega arith
few Parameter.Unknown = omega arith

-- ---- a turn of the code's loop: v has the next id's bytes
module _ (s : Settings) (image : List ℕ) (at k id : ℕ) (v : ValueBytes)
    (q : v ≡ roomed (parameter_bytes s id)) (p : Walked s image at k) (h : k < 140) (e : id ≡ get_or ids k 0) where
  len_is : v.len ≡ length (parameter_bytes s id)
  unfolding roomed
  len_is = ap (λ (x : ValueBytes). x.len) q

  pub fits : (v.len ≤ 8) × (at + v.len ≤ length image)
  fits = (
    omega (arith, len_is, length_parameter s id, few (parameter_of id)),
    omega (arith, len_is, p.sized, room s image at k id p h e),
  )

  pub laid : (out : List ℕ) → out ≡ sets image at (take v.len v.bytes) → Walked s out (at + v.len) (k + 1)
  laid out r =
      let bytes : take v.len v.bytes ≡ parameter_bytes s id = ap (λ (x : ValueBytes). take x.len x.bytes) q ∙ taken (parameter_bytes s id) in
      rw (r, bytes, len_is) (next s image at k id p h e)
