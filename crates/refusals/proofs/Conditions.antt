-- One of document 01's eight answers is given to every transfer, and it is the one told. Assumes nothing.
use Prim.Native.Nat.{ℕ, suc, ◌+◌, ◌≤◌, ◌<◌}
use mathlib.Core.Path.{◌≡◌, refl, sym, ap, subst, ◌∙◌}
use mathlib.Core.Bool.{Bool, true, false, not, ◌&&◌, ◌||◌, or-false, false≢true}
use mathlib.Core.List.{List, [], ◌∷◌}
use mathlib.Core.Logic.{⊎_elim}
use mathlib.Core.Option.{some}
use native.Mathlib.Omega.{arith}
use lib.Dec.{eqb, ltb}
use lib.Ieee.{binary32, binary64}
use lib.ListN.{length, drop, length-drop}
use borrow.Author.Tests.{eqb-true, eqb-false, eq-eqb, ne_eqb, ltb-true, ltb-false, lt-ltb, le-ltb}
use Rattle.laws.proofs.Cases.{cases}
use Rattle.laws.proofs.Lists.{lt_or_le}
use Rattle.kinds.specs.Kinds.{is_in}
use Rattle.wire.specs.Numbers.{number}
use Rattle.wire.specs.Floats.{nan_pattern}
use Rattle.value.specs.Types.{width}
use Rattle.value.specs.Values.{read_of, value_of}
use Rattle.value.specs.declared.ValueType.{ValueType}
use Rattle.value.specs.declared.ValueType.TheVariants.{Int8, Uint8, Int16, Uint16, Int32, Uint32, Float, Int64, Uint64, Double}
use Rattle.settings.specs.Table.{parameter_of}
use Rattle.settings.specs.declared.Parameter.{Parameter}
use Rattle.settings.specs.declared.Parameter.TheVariants.{ReadWrite, ReadOnly, Unknown}
use Rattle.modes.specs.declared.Mode.{Mode}
use Rattle.modes.specs.declared.Mode.TheVariants.{Startup, Nominal, Safety, Emergency}
use Rattle.command.specs.Table as command_table
use Rattle.command.specs.Decode.{fewer_than_four, value_part}
use Rattle.command.specs.Checks as checks
use Rattle.command.specs.Checks.{Check, ◌when◌, first}
use Rattle.command.proofs.Laws.{none, ◌and◌, at_code, table_codes, has_a_command}
use Rattle.state.specs.Parts.{mode_of}
use Rattle.asking.specs.Checks.{◌is◌, is_startup, unavailable, channel_codes, channel_wrong, checksum_wrong, checks_of}
use Rattle.memory.specs.Memory.{is_right}
use Rattle.commands.specs.Step.{commanded_of}
use Rattle.commands.proofs.Told.{same_number, number_told}
use Rattle.refusals.specs.Conditions as claim
use Rattle.refusals.specs.Conditions.{Sent, ◌at◌, code, id, kind, lengths, needed_by, value_short, key_wrong, is_nan_value, value_is_nan, refusals, none_of, answer_table, condition, Given, answer}

-- ---- rows numbered one after the other: the number of the first that applies is given, and it alone
unfoldable numbered : ℕ → List Bool → List Check
numbered m [] = []
numbered m (b ∷ bs) = m when b ∷ numbered (suc m) bs

-- n is the first that applies: a number of the list whose condition holds, and that of none before it
record First (m : ℕ) (rows : List Check) (n : ℕ) : Type 0 where
  from : m ≤ n
  holds : condition n rows ≡ true
  before : (k : ℕ) → m ≤ k → k < n → condition k rows ≡ false

-- a row that applies is the first
here : (m : ℕ) (rows : List Check) → First m (m when true ∷ rows) m
unfolding condition
here m rows = record { from = omega arith; holds = rw (eq-eqb m m refl); before = λ k l h. absurd (omega arith) }

-- behind a row that does not apply, the first of the others is
further : (m n : ℕ) (rows : List Check) → First (suc m) rows n → First m (m when false ∷ rows) n
unfolding condition
further m n rows f =
    record {
      from = omega (arith, f.from);
      holds = rw (ne_eqb n m (λ e. omega (arith, f.from))) f.holds;
      before = λ k l h. cases (eqb k m) (λ e. rw e) (λ e. rw e (f.before k (omega (arith, eqb-false k m e)) h));
    }

-- the first that applies, or none, as `first` finds it
data Found (m : ℕ) (rows : List Check) : ℕ → Type 0 where
  found : {n : ℕ} → First m rows n → Found m rows n
  nothing : none_of rows ≡ true → Found m rows 0

find : (m : ℕ) (bs : List Bool) → Found m (numbered m bs) (first (numbered m bs))
unfolding numbered first none_of
find m [] = nothing refl
find m (true ∷ bs) = found (here m (numbered (suc m) bs))
find m (false ∷ bs) = go (first (numbered (suc m) bs)) (find (suc m) bs)
  where
    go : (n : ℕ) → Found (suc m) (numbered (suc m) bs) n → Found m (m when false ∷ numbered (suc m) bs) n
    go n (found f) = found (further m n (numbered (suc m) bs) f)
    go n (nothing e) = nothing e

-- ---- of the table: the number of the first refusal that applies is given
-- the row of 0 says nothing of a refusal
behind_0 : (k : ℕ) (b : Bool) (rows : List Check) → 1 ≤ k → condition k (0 when b ∷ rows) ≡ condition k rows
unfolding condition
behind_0 k b rows h = rw (ne_eqb k 0 (λ e. omega arith))

given_found : (t : Sent) (n : ℕ) → Found 1 (refusals t) n → Given t n
unfolding condition
given_found t n (found f) =
    record {
      holds = behind_0 n (none_of (refusals t)) (refusals t) f.from ∙ f.holds;
      none_before = λ k l h. behind_0 k (none_of (refusals t)) (refusals t) l ∙ f.before k l h;
    }
given_found t n (nothing e) = record { holds = e; none_before = λ k l h. absurd (omega arith) }

abbrev conditions : List Check → List Bool
conditions [] = []
conditions (n when b ∷ rows) = b ∷ conditions rows

given_first : (t : Sent) → Given t (first (refusals t))
unfolding numbered
given_first t = given_found t (first (refusals t)) (find 1 (conditions (refusals t)))

-- it is at most 7
first_most : (m : ℕ) (bs : List Bool) → 1 ≤ m → first (numbered m bs) < m + length bs
unfolding first numbered
first_most m [] h = omega arith
first_most m (true ∷ bs) h = omega arith
first_most m (false ∷ bs) h = omega (arith, first_most (suc m) bs (omega arith))

pub one : (t : Sent) → (n : ℕ) × (n ≤ 7) × Given t n
unfolding numbered
one t = (first (refusals t), omega (arith, first_most 1 (conditions (refusals t)) (omega arith)), given_first t)

-- and no other is
and_both : (a b : Bool) → not a && b ≡ true → (a ≡ false) × (b ≡ true)
and_both true b e = absurd (false≢true e)
and_both false b e = (refl, e)

none_holds : (k : ℕ) (rows : List Check) → none_of rows ≡ true → condition k rows ≡ false
unfolding none_of condition
none_holds k [] e = refl
none_holds k (m when b ∷ rows) e =
    let w = and_both b (none_of rows) e in
    cases (eqb k m) (λ q. rw q w.0) (λ q. rw q (none_holds k rows w.1))

-- where 0 is given no refusal is, and of two refusals the lower is the only one
not_both : (t : Sent) (n m : ℕ) → Given t n → Given t m → n < m → ⊥
unfolding condition
not_both t n m g h l = cases (eqb n 0) (λ z. zero (eqb-true n 0 z)) (λ z. false≢true (sym (h.none_before n (omega (arith, eqb-false n 0 z)) l) ∙ g.holds))
  where
    zero : n ≡ 0 → ⊥
    zero z =
        let e : none_of (refusals t) ≡ true = rw z at g.holds in
        false≢true (sym (behind_0 m (none_of (refusals t)) (refusals t) (omega arith) ∙ none_holds m (refusals t) e) ∙ h.holds)

pub only_one : (t : Sent) (n m : ℕ) → Given t n → Given t m → n ≡ m
only_one t n m g h =
    ⊎_elim
    (λ (l : n < m). absurd (not_both t n m g h l))
    (λ (l : m ≤ n).
    ⊎_elim
    (λ (k : m < n). absurd (not_both t m n h g k))
    (λ (k : n ≤ m). omega arith)
    (lt_or_le m n))
    (lt_or_le n m)

-- ---- the list of checks that the step is defined by, and the table's rows, have the same first number
-- checks with one number are one, where none of another number stands between
joined : (short un key param nan channel sum : Bool)
    → first (5 when short ∷ 6 when un ∷ 7 when key ∷ 7 when param ∷ 7 when nan ∷ 7 when channel ∷ 7 when sum ∷ [])
    ≡ first (5 when (short || false) ∷ 6 when un ∷ 7 when (key || channel || (param || nan) || sum) ∷ [])
unfolding first
joined true un key param nan channel sum = refl
joined false true key param nan channel sum = refl
joined false false true param nan channel sum = refl
joined false false false true nan true sum = refl
joined false false false true nan false sum = refl
joined false false false false true true sum = refl
joined false false false false true false sum = refl
joined false false false false false true sum = refl
joined false false false false false false true = refl
joined false false false false false false false = refl

-- a value that is long enough is read as a NaN exactly where its bits are a NaN's, and else as a number
read_whole : (type : ValueType) (x : ℕ) → (checks.is_too_short (value_of type x) ≡ false) × (checks.is_nan_value (value_of type x) ≡ is_nan_value type x)
unfolding value_of
read_whole Int8 x = (refl, refl)
read_whole Uint8 x = (refl, refl)
read_whole Int16 x = (refl, refl)
read_whole Uint16 x = (refl, refl)
read_whole Int32 x = (refl, refl)
read_whole Uint32 x = (refl, refl)
read_whole Float x = cases (nan_pattern binary32 x) (λ e. rw e (refl, refl)) (λ e. rw e (refl, refl))
read_whole Int64 x = (refl, refl)
read_whole Uint64 x = (refl, refl)
read_whole Double x = cases (nan_pattern binary64 x) (λ e. rw e (refl, refl)) (λ e. rw e (refl, refl))

-- an id is wrong, and a mode startup, in two ways of writing
id_same : (c : ℕ) (p : Parameter) → checks.id_wrong c p ≡ claim.id_wrong c p
unfolding checks.id_wrong claim.id_wrong
id_same c (ReadWrite type) = refl
id_same c (ReadOnly type) = refl
id_same c Unknown = refl

startup_same : (m : Mode) → is_startup m ≡ m is Startup
unfolding is_startup
startup_same Startup = refl
startup_same Nominal = refl
startup_same Safety = refl
startup_same Emergency = refl

module _ (t : Sent) where
  abbrev s : List ℕ
  s = t.bytes

  -- the lengths and the keys are those of the commands
  lengths_agree : (k : ℕ) → is_in k table_codes ≡ true → checks.shorter (command_table.find command_table.command_table k) s ≡ ltb (length s) (needed_by lengths k)
  unfolding command_table.find command_table.command_table needed_by
  lengths_agree k h =
      at_code (λ c. checks.shorter (command_table.find command_table.command_table c) s ≡ ltb (length s) (needed_by lengths c)) k table_codes h
      (refl and refl and refl and refl and refl and refl and refl and refl and refl and refl and refl and refl and refl and refl and refl and refl and refl and refl and refl and refl and refl and refl and refl and none)

  keys_agree : (k : ℕ) → is_in k table_codes ≡ true → checks.key_wrong (command_table.find command_table.command_table k) s ≡ key_wrong k (t at 4)
  unfolding is_in command_table.find command_table.command_table key_wrong
  keys_agree k h =
      at_code (λ c. checks.key_wrong (command_table.find command_table.command_table c) s ≡ key_wrong c (t at 4)) k table_codes h
      (sym (or-false (not (eqb (t at 4) 0xA6))) and refl and refl and refl and refl and refl and refl and refl and refl and refl and refl and refl and refl and refl and refl and refl and refl and refl and refl and refl and refl and refl and refl and none)

  -- 0x84 behind its id, where that can be set: the value's bytes count from the sixth on
  long_enough : (type : ValueType) → 6 ≤ length s → ltb (length (drop 6 s)) (width type) ≡ value_short (ReadWrite type) t
  long_enough type h =
      cases (value_short (ReadWrite type) t)
      (λ e. lt-ltb (length (drop 6 s)) (width type) (omega (arith, ltb-true, length-drop 6 s)) ∙ sym e)
      (λ e. le-ltb (length (drop 6 s)) (width type) (omega (arith, ltb-false, length-drop 6 s)) ∙ sym e)

  value_checked : (type : ValueType) → 6 ≤ length s
      → first (5 when checks.is_too_short (read_of type (value_part s)) ∷ 7 when checks.is_nan_value (read_of type (value_part s)) ∷ [])
      ≡ first (5 when value_short (ReadWrite type) t ∷ 7 when value_is_nan (ReadWrite type) t ∷ [])
  unfolding first read_of value_part
  value_checked type h =
      let w = read_whole type (number (width type) (drop 6 s)) in
      cases (value_short (ReadWrite type) t) (λ e. rw (long_enough type h, e)) (λ e. rw (long_enough type h, e, w.0, w.1))

  -- 0x84 as a whole: its four checks are one 5 and one 7
  parameter_checked : (p : Parameter)
      → first (5 when ltb (length s) 6 ∷ 7 when checks.id_wrong 0x84 p ∷ 5 when checks.value_reads p (value_part s) checks.is_too_short ∷ 7 when checks.value_reads p (value_part s) checks.is_nan_value ∷ [])
      ≡ first (5 when (ltb (length s) 6 || value_short p t) ∷ 7 when ((claim.id_wrong 0x84 p || value_is_nan p t) || false) ∷ [])
  unfolding first checks.id_wrong claim.id_wrong
  parameter_checked (ReadWrite type) =
      cases (ltb (length s) 6)
      (λ e. rw e)
      (λ e. rw (e, or-false (value_is_nan (ReadWrite type) t)) (value_checked type (ltb-false (length s) 6 e)))
  parameter_checked (ReadOnly type) = cases (ltb (length s) 6) (λ e. rw e) (λ e. rw e)
  parameter_checked Unknown = cases (ltb (length s) 6) (λ e. rw e) (λ e. rw e)

  -- from the row of 4 on, by the code
  abbrev Agree : Type 0
  Agree = first (drop 3 (checks_of t.rail t.limits t.board s)) ≡ first (drop 3 (refusals t))

  module _ (listed : is_in (code t) (kind t).codes ≡ true) where
    set_agrees : code t ≡ 0x84 → Agree
    unfolding first checks_of checks.checks is_in command_table.find command_table.command_table needed_by unavailable channel_codes key_wrong channel_wrong checksum_wrong is_right
    set_agrees e = rw (listed, e) (parameter_checked (parameter_of (id t)))

    other_agrees : eqb (code t) 0x84 ≡ false → Agree
    unfolding first checks_of checks.checks unavailable channel_codes channel_wrong checksum_wrong is_right
    other_agrees e =
        let h = has_a_command t.board.profile.kind (code t) listed in
        rw (listed, id_same (code t) (parameter_of (id t)), e, lengths_agree (code t) h, keys_agree (code t) h)
        (joined (ltb (length s) (needed_by lengths (code t))) (claim.not_available t) (key_wrong (code t) (t at 4)) (claim.id_wrong (code t) (parameter_of (id t))) false (claim.channel_wrong t) (claim.checksum_wrong t))

  from_4 : Agree
  unfolding first checks_of checks.checks
  from_4 =
      cases (is_in (code t) (kind t).codes)
      (λ h. cases (eqb (code t) 0x84) (λ e. set_agrees h (eqb-true (code t) 0x84 e)) (λ e. other_agrees h e))
      (λ h. rw h)

  same_first : first (checks_of t.rail t.limits t.board s) ≡ first (refusals t)
  unfolding first checks_of checks.checks fewer_than_four checks.header_differs
  same_first = rw (startup_same (mode_of t.board), from_4)

-- ---- the command step
step_tells : (t : Sent) → answer t ≡ some (first (refusals t))
unfolding commanded_of
step_tells t = number_told t.rail t.limits t.bytes t.board ∙ ap some (same_first t)

pub answered : (t : Sent) (n : ℕ) → Given t n → answer t ≡ some n
answered t n g = step_tells t ∙ ap some (only_one t (first (refusals t)) n (given_first t) g)

pub only_answered : (t : Sent) (n : ℕ) → answer t ≡ some n → Given t n
only_answered t n e = subst (Given t) (same_number (first (refusals t)) n (sym (step_tells t) ∙ e)) (given_first t)
