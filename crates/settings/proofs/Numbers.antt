-- What an id is, and the number that is told of it. Assumes nothing.
use Prim.Native.Nat.{ℕ}
use mathlib.Core.Path.{◌≡◌, refl, ap, ◌∙◌}
use mathlib.Core.Bool.{Bool, true, false, cond, ◌||◌, false≢true}
use mathlib.Core.List.{List, [], ◌∷◌, ◌++◌}
use lib.IntN.{ℤ}
use Rattle.laws.proofs.Cases.{cases}
use Rattle.value.specs.declared.ValueType.TheVariants.{Int8, Uint8, Int16, Uint16, Int32, Uint32, Float, Int64, Uint64, Double}
use Rattle.settings.specs.declared.Parameter.{Parameter}
use Rattle.settings.specs.declared.Got.{Got}
use Rattle.settings.specs.declared.Settings.{Settings}
use Rattle.settings.specs.Table.{Row, ◌to◌are◌with◌default◌, ◌to◌are_read◌, read_write_rows, read_only_rows, lies, find, row_of, parameter_in, parameter_of}
use Rattle.settings.specs.Values.{setting_of, got_as, get_of}
use Rattle.settings.specs.Answers.{set_number, get_number, lists_id, settable_number, known_number}
use Rattle.settings.proofs.Places.{none}

-- ---- the rows of a table are all read/write, or all only read
are_read_write : List Row → Bool
are_read_write [] = true
are_read_write (a to b are t with r default d ∷ rows) = are_read_write rows
are_read_write (a to b are_read t ∷ rows) = false

are_read_only : List Row → Bool
are_read_only [] = true
are_read_only (a to b are t with r default d ∷ rows) = false
are_read_only (a to b are_read t ∷ rows) = are_read_only rows

-- ---- a set
module _ (id : ℕ) where
  unset_in : (rows : List Row) → are_read_only rows ≡ true → set_number (parameter_in (find rows id)) ≡ 7
  unfolding find are_read_only
  unset_in [] e = refl
  unset_in (a to b are t with r default d ∷ rows) e = absurd (false≢true e)
  unset_in (a to b are_read t ∷ rows) e = cases (lies a b id) (λ t. rw t) (λ f. rw f (unset_in rows e))

  set_in_lem : (rows more : List Row) → are_read_write rows ≡ true → set_number (parameter_in (find more id)) ≡ 7 → set_number (parameter_in (find (rows ++ more) id)) ≡ cond (lists_id rows id) 0 7
  unfolding find lists_id are_read_write
  set_in_lem [] more e n = n
  set_in_lem (a to b are t with r default d ∷ rows) more e n = cases (lies a b id) (λ t. rw t) (λ f. rw f (set_in_lem rows more e n))
  set_in_lem (a to b are_read t ∷ rows) more e n = absurd (false≢true e)

  pub set_number_lem : set_number (parameter_of id) ≡ settable_number id
  unfolding parameter_of row_of settable_number read_write_rows read_only_rows are_read_write are_read_only
  set_number_lem = set_in_lem read_write_rows read_only_rows refl (unset_in read_only_rows refl)

-- ---- a get
abbrev unknown_number : Parameter → ℕ
unknown_number (Parameter.ReadWrite t) = 0
unknown_number (Parameter.ReadOnly t) = 0
unknown_number Parameter.Unknown = 7

module _ (id : ℕ) where
  unknown_in : (rows : List Row) → unknown_number (parameter_in (find rows id)) ≡ cond (lists_id rows id) 0 7
  unfolding find lists_id
  unknown_in [] = refl
  unknown_in (a to b are t with r default d ∷ rows) = cases (lies a b id) (λ t. rw t) (λ f. rw f (unknown_in rows))
  unknown_in (a to b are_read t ∷ rows) = cases (lies a b id) (λ t. rw t) (λ f. rw f (unknown_in rows))

  has_either : (rows more : List Row) → lists_id (rows ++ more) id ≡ (lists_id rows id || lists_id more id)
  unfolding lists_id
  has_either [] more = refl
  has_either (a to b are t with r default d ∷ rows) more = cases (lies a b id) (λ t. rw t) (λ f. rw f (has_either rows more))
  has_either (a to b are_read t ∷ rows) more = cases (lies a b id) (λ t. rw t) (λ f. rw f (has_either rows more))

  got_as_lem : (s : Settings) → get_number (get_of s id) ≡ unknown_number (parameter_of id)
  unfolding get_of
  got_as_lem s = go (parameter_of id) (setting_of s id) refl
    where
      go : (p : Parameter) (z : ℤ) → parameter_of id ≡ p → get_number (got_as p z) ≡ unknown_number p
      go (Parameter.ReadWrite Int8) z e = refl
      go (Parameter.ReadWrite Uint8) z e = refl
      go (Parameter.ReadWrite Int16) z e = refl
      go (Parameter.ReadWrite Uint16) z e = refl
      go (Parameter.ReadWrite Int32) z e = none id Int32 refl e
      go (Parameter.ReadWrite Uint32) z e = refl
      go (Parameter.ReadWrite Float) z e = none id Float refl e
      go (Parameter.ReadWrite Int64) z e = none id Int64 refl e
      go (Parameter.ReadWrite Uint64) z e = none id Uint64 refl e
      go (Parameter.ReadWrite Double) z e = none id Double refl e
      go (Parameter.ReadOnly t) z e = refl
      go Parameter.Unknown z e = refl

  pub got_number : (s : Settings) → get_number (get_of s id) ≡ known_number id
  unfolding parameter_of row_of known_number
  got_number s = got_as_lem s ∙ unknown_in (read_write_rows ++ read_only_rows) ∙ ap (λ (b : Bool). cond b 0 7) (has_either read_write_rows read_only_rows)

-- ---- an answer that is its definition's has the number too
pub with_set_number : {r : Parameter} (id : ℕ) → r ≡ parameter_of id → (r ≡ parameter_of id) × (set_number r ≡ settable_number id)
with_set_number id e = (e, ap set_number e ∙ set_number_lem id)

pub with_got_number : {r : Got} (s : Settings) (id : ℕ) → r ≡ get_of s id → (r ≡ get_of s id) × (get_number r ≡ known_number id)
with_got_number s id e = (e, ap get_number e ∙ got_number id s)
