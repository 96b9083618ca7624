-- What the rows say of every id, each by one computed test of the table. Assumes nothing.
use mathlib.Core.Path.{◌≡◌, refl, sym, ap, ◌∙◌, subst}
use mathlib.Core.Bool.{Bool, true, false, cond, ◌&&◌}
use mathlib.Core.List.{List, [], ◌∷◌, ◌++◌}
use Prim.Native.Nat.{ℕ, zero, suc, ◌+◌, ◌-◌, ◌≤◌, ◌<◌}
use native.Mathlib.Nat.{not-suc-le-zero, add-zero}
use native.Mathlib.Omega.{arith}
use borrow.Author.Tests.{leb-true, ltb-true}
use lib.Dec.{T, leb, ltb}
use lib.IntN.{ℤ}
use lib.Signed.{le_z}
use lib.ListN.{get_or, replicate, get_or-replicate}
use Rattle.kinds.specs.declared.Kind.{Kind}
use Rattle.value.specs.Types.{code_of}
use Rattle.value.specs.declared.ValueType.{ValueType}
use Rattle.value.specs.declared.ValueType.TheVariants.{Int8, Uint8, Int16, Uint16, Int32, Uint32, Float, Int64, Uint64, Double}
use Rattle.settings.specs.declared.Parameter.{Parameter}
use Rattle.settings.specs.Table.{lowest, highest, Range, any, Row, ◌to◌are◌with◌default◌, ◌to◌are_read◌, read_write_rows, read_only_rows, lies, Entry, read_write, read_only, missing, find, row_of, column, parameter_in, parameter_of, range_in, range_of, low_end, high_end, low_in, high_in, low_of, high_of}

-- ---- a function of ids that is computed at each id of a block
pub column_at {ℓ} : {A : Type ℓ} (f : ℕ → A) (lo n k : ℕ) (d : A) → k < n → get_or (column f lo n) k d ≡ f (lo + k)
unfolding column
column_at f lo zero k d h = absurd (not-suc-le-zero h)
column_at f lo (suc n) zero d h = rw add-zero
column_at f lo (suc n) (suc k) d h = column_at f (suc lo) n k d (omega arith) ∙ ap f (omega arith)

pub same_on {ℓ} : {A : Type ℓ} (f : ℕ → A) (lo n : ℕ) (a : A) → column f lo n ≡ replicate n a → (id : ℕ) → lo ≤ id → id < lo + n → f id ≡ a
same_on f lo n a e id h h' =
    let k : lo + (id - lo) ≡ id = omega arith in
    ap f (sym k) ∙ sym (column_at f lo n (id - lo) a (omega arith)) ∙ ap (λ (l : List _). get_or l (id - lo) a) e ∙ get_or-replicate n (id - lo) a a (omega arith)

-- ---- an id lies between two others
pub and_true : (a b : Bool) → a && b ≡ true → (a ≡ true) × (b ≡ true)
and_true true b h = (refl, h)
and_true false b h = absurd (subst T (sym h) tt)

pub lies_yes : (a b id : ℕ) → lies a b id ≡ true → (a ≤ id) × (id ≤ b)
unfolding lies
lies_yes a b id h = let u = and_true (leb a id) (leb id b) h in (leb-true a id u.0, leb-true id b u.1)

-- ---- what every row passes
-- how many ids of a type are read/write, and how many are only read
abbrev pub count_of : ValueType → ℕ
count_of Int8 = 21
count_of Uint8 = 3
count_of Int16 = 42
count_of Uint16 = 68
count_of Int32 = 0
count_of Uint32 = 6
count_of Float = 0
count_of Int64 = 0
count_of Uint64 = 0
count_of Double = 0

abbrev pub read_count_of : ValueType → ℕ
read_count_of Int8 = 1
read_count_of Uint8 = 4
read_count_of Int16 = 2
read_count_of Uint16 = 20
read_count_of Int32 = 0
read_count_of Uint32 = 21
read_count_of Float = 0
read_count_of Int64 = 0
read_count_of Uint64 = 0
read_count_of Double = 0

-- the ids of a type start at its code, those that are only read 0x800 above it; the ends of a range lie in order within
-- the type
fine : Row → Bool
fine (a to b are t with r default d) =
    leb (code_of t) a && (ltb b (code_of t + count_of t) && (le_z (lowest t) (low_end t r) && (le_z (low_end t r) (high_end t r) && le_z (high_end t r) (highest t))))
fine (a to b are_read t) = leb (code_of t + 0x800) a && ltb b (code_of t + 0x800 + read_count_of t)

all_fine : List Row → Bool
all_fine [] = true
all_fine (r ∷ rows) = fine r && all_fine rows

-- so much is known of a read/write id of a type, with the ends of its range
pub record Held (id : ℕ) (t : ValueType) (low high : ℤ) : Type 0 where
  pub first : code_of t ≤ id
  pub last : id < code_of t + count_of t
  pub low_fits : le_z (lowest t) low ≡ true
  pub ordered : le_z low high ≡ true
  pub high_fits : le_z high (highest t) ≡ true

pub record Shown (id : ℕ) (t : ValueType) : Type 0 where
  pub first : code_of t + 0x800 ≤ id
  pub last : id < code_of t + 0x800 + read_count_of t

abbrev Known : ℕ → Entry → Type 0
Known id (read_write t r d) = Held id t (low_end t r) (high_end t r)
Known id (read_only t) = Shown id t
Known id missing = Unit

written : (a b id : ℕ) (t : ValueType) (r : Range) (d : Kind → ℕ) → fine (a to b are t with r default d) ≡ true → lies a b id ≡ true → Held id t (low_end t r) (high_end t r)
unfolding fine
written a b id t r d f e =
    let l = lies_yes a b id e in
    let v = and_true (leb (code_of t) a) _ f in
    let w = and_true (ltb b (code_of t + count_of t)) _ v.1 in
    let x = and_true (le_z (lowest t) (low_end t r)) _ w.1 in
    let y = and_true (le_z (low_end t r) (high_end t r)) _ x.1 in
    record {
      first = omega (arith, leb-true (code_of t) a v.0);
      last = omega (arith, ltb-true b (code_of t + count_of t) w.0);
      low_fits = x.0;
      ordered = y.0;
      high_fits = y.1;
    }

read : (a b id : ℕ) (t : ValueType) → fine (a to b are_read t) ≡ true → lies a b id ≡ true → Shown id t
unfolding fine
read a b id t f e =
    let l = lies_yes a b id e in
    let v = and_true (leb (code_of t + 0x800) a) _ f in
    record { first = omega (arith, leb-true (code_of t + 0x800) a v.0); last = omega (arith, ltb-true b (code_of t + 0x800 + read_count_of t) v.1) }

pick : (id : ℕ) (x : Bool) (e f : Entry) → (x ≡ true → Known id e) → Known id f → Known id (cond x e f)
pick id true e f h k = h refl
pick id false e f h k = k

seek : (rows : List Row) (id : ℕ) → all_fine rows ≡ true → Known id (find rows id)
unfolding find all_fine
seek [] id h = tt
seek (a to b are t with r default d ∷ rows) id h =
    let u = and_true (fine (a to b are t with r default d)) (all_fine rows) h in
    pick id (lies a b id) (read_write t r d) (find rows id) (written a b id t r d u.0) (seek rows id u.1)
seek (a to b are_read t ∷ rows) id h =
    let u = and_true (fine (a to b are_read t)) (all_fine rows) h in
    pick id (lies a b id) (read_only t) (find rows id) (read a b id t u.0) (seek rows id u.1)

known : (id : ℕ) → Known id (row_of id)
unfolding row_of read_write_rows read_only_rows all_fine fine
known id = seek (read_write_rows ++ read_only_rows) id refl

pub held : (id : ℕ) (t : ValueType) → parameter_of id ≡ Parameter.ReadWrite t → Held id t (low_of id) (high_of id)
unfolding parameter_of low_of high_of
held id t e = go (row_of id) e (known id)
  where
    go : (x : Entry) → parameter_in x ≡ Parameter.ReadWrite t → Known id x → Held id t (low_in x) (high_in x)
    go (read_write u r d) e k = let p : u ≡ t = cc in subst (λ (v : ValueType). Held id v (low_end u r) (high_end u r)) p k
    go (read_only u) e k = let z : ◌≡◌ {A = ℕ} 0 1 = cc in absurd (omega arith)
    go missing e k = let z : ◌≡◌ {A = ℕ} 0 1 = cc in absurd (omega arith)

-- the ends of every id are in order
pub ends_ordered : (id : ℕ) → le_z (low_of id) (high_of id) ≡ true
unfolding low_of high_of
ends_ordered id = go (row_of id) (known id)
  where
    go : (x : Entry) → Known id x → le_z (low_in x) (high_in x) ≡ true
    go (read_write t r d) k = k.ordered
    go (read_only t) k = refl
    go missing k = refl

pub shown : (id : ℕ) (t : ValueType) → parameter_of id ≡ Parameter.ReadOnly t → Shown id t
unfolding parameter_of
shown id t e = go (row_of id) e (known id)
  where
    go : (x : Entry) → parameter_in x ≡ Parameter.ReadOnly t → Known id x → Shown id t
    go (read_write u r d) e k = let z : ◌≡◌ {A = ℕ} 0 1 = cc in absurd (omega arith)
    go (read_only u) e k = let p : u ≡ t = cc in subst (Shown id) p k
    go missing e k = let z : ◌≡◌ {A = ℕ} 0 1 = cc in absurd (omega arith)

-- ---- the ids of each type are of that type, without a gap
pub int8s : (id : ℕ) → 0x1000 ≤ id → id ≤ 0x1014 → parameter_of id ≡ Parameter.ReadWrite Int8
unfolding parameter_of row_of find lies read_write_rows read_only_rows column
int8s id h h' = same_on parameter_of 0x1000 21 _ refl id h (omega arith)

pub uint8s : (id : ℕ) → 0x2000 ≤ id → id ≤ 0x2002 → parameter_of id ≡ Parameter.ReadWrite Uint8
unfolding parameter_of row_of find lies read_write_rows read_only_rows column
uint8s id h h' = same_on parameter_of 0x2000 3 _ refl id h (omega arith)

pub int16s : (id : ℕ) → 0x3000 ≤ id → id ≤ 0x3029 → parameter_of id ≡ Parameter.ReadWrite Int16
unfolding parameter_of row_of find lies read_write_rows read_only_rows column
int16s id h h' = same_on parameter_of 0x3000 42 _ refl id h (omega arith)

pub uint16s : (id : ℕ) → 0x4000 ≤ id → id ≤ 0x4043 → parameter_of id ≡ Parameter.ReadWrite Uint16
unfolding parameter_of row_of find lies read_write_rows read_only_rows column
uint16s id h h' = same_on parameter_of 0x4000 68 _ refl id h (omega arith)

pub uint32s : (id : ℕ) → 0x6000 ≤ id → id ≤ 0x6005 → parameter_of id ≡ Parameter.ReadWrite Uint32
unfolding parameter_of row_of find lies read_write_rows read_only_rows column
uint32s id h h' = same_on parameter_of 0x6000 6 _ refl id h (omega arith)

pub int8s_read : (id : ℕ) → 0x1800 ≤ id → id ≤ 0x1800 → parameter_of id ≡ Parameter.ReadOnly Int8
unfolding parameter_of row_of find lies read_write_rows read_only_rows column
int8s_read id h h' = same_on parameter_of 0x1800 1 _ refl id h (omega arith)

pub uint8s_read : (id : ℕ) → 0x2800 ≤ id → id ≤ 0x2803 → parameter_of id ≡ Parameter.ReadOnly Uint8
unfolding parameter_of row_of find lies read_write_rows read_only_rows column
uint8s_read id h h' = same_on parameter_of 0x2800 4 _ refl id h (omega arith)

pub int16s_read : (id : ℕ) → 0x3800 ≤ id → id ≤ 0x3801 → parameter_of id ≡ Parameter.ReadOnly Int16
unfolding parameter_of row_of find lies read_write_rows read_only_rows column
int16s_read id h h' = same_on parameter_of 0x3800 2 _ refl id h (omega arith)

pub uint16s_read : (id : ℕ) → 0x4800 ≤ id → id ≤ 0x4813 → parameter_of id ≡ Parameter.ReadOnly Uint16
unfolding parameter_of row_of find lies read_write_rows read_only_rows column
uint16s_read id h h' = same_on parameter_of 0x4800 20 _ refl id h (omega arith)

pub uint32s_read : (id : ℕ) → 0x6800 ≤ id → id ≤ 0x6814 → parameter_of id ≡ Parameter.ReadOnly Uint32
unfolding parameter_of row_of find lies read_write_rows read_only_rows column
uint32s_read id h h' = same_on parameter_of 0x6800 21 _ refl id h (omega arith)

-- ---- the types that no row gives a range
pub int8_any : (id : ℕ) → 0x1000 ≤ id → id ≤ 0x1014 → range_of id ≡ any
unfolding range_of row_of find lies read_write_rows read_only_rows column
int8_any id h h' = same_on range_of 0x1000 21 _ refl id h (omega arith)

pub uint8_any : (id : ℕ) → 0x2000 ≤ id → id ≤ 0x2002 → range_of id ≡ any
unfolding range_of row_of find lies read_write_rows read_only_rows column
uint8_any id h h' = same_on range_of 0x2000 3 _ refl id h (omega arith)

pub uint32_any : (id : ℕ) → 0x6000 ≤ id → id ≤ 0x6005 → range_of id ≡ any
unfolding range_of row_of find lies read_write_rows read_only_rows column
uint32_any id h h' = same_on range_of 0x6000 6 _ refl id h (omega arith)

-- there the ends are the type's
pub any_ends : (id : ℕ) (t : ValueType) → parameter_of id ≡ Parameter.ReadWrite t → range_of id ≡ any → (low_of id ≡ lowest t) × (high_of id ≡ highest t)
unfolding parameter_of range_of low_of high_of
any_ends id t e f = go (row_of id) e f
  where
    go : (x : Entry) → parameter_in x ≡ Parameter.ReadWrite t → range_in x ≡ any → (low_in x ≡ lowest t) × (high_in x ≡ highest t)
    go (read_write u r d) e f = let p : u ≡ t = cc in rw (p, f) (refl, refl)
    go (read_only u) e f = let z : ◌≡◌ {A = ℕ} 0 1 = cc in absurd (omega arith)
    go missing e f = let z : ◌≡◌ {A = ℕ} 0 1 = cc in absurd (omega arith)
