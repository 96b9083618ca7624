-- Settings in range stay in range, whatever the lengths of the arrays that hold them: a number is stored in its range,
-- or not at all. Assumes nothing.
use Prim.Native.Nat.{ℕ, ◌-◌, ◌≤◌, ◌<◌}
use mathlib.Core.Path.{◌≡◌, sym, subst}
use mathlib.Core.Bool.{Bool, true, false}
use mathlib.Core.List.{List}
use mathlib.Core.Logic.{⊎_elim}
use native.Mathlib.Decide.{ℕ_discrete}
use lib.IntN.{ℤ, pos}
use lib.ListN.{length, get_or}
use lib.Seq.{set_out, get_or-set_same}
use Rattle.std.specs.Prelude.{Some, None}
use Rattle.laws.proofs.Cases.{cases}
use Rattle.laws.proofs.Lists.{lt_or_le}
use Rattle.kinds.specs.declared.Kind.{Kind}
use Rattle.value.specs.Types.{code_of}
use Rattle.value.specs.declared.ParamValue.{ParamValue}
use Rattle.value.specs.declared.ValueType.{ValueType}
use Rattle.settings.specs.Table.{same, parameter_of, inside_of}
use Rattle.settings.specs.Values.{numbers, setting_of, stored, with_number, in_range_of}
use Rattle.settings.specs.declared.Parameter.{Parameter}
use Rattle.settings.specs.declared.Settings.{Settings}
use Rattle.settings.proofs.Places.{at, number_at}
use Rattle.settings.proofs.Ranges.{in_fits}
use Rattle.settings.proofs.Stores.{numbers_with, Wrote, nothing, one, set_wrote, reset_wrote, number_other}
use Rattle.settings.proofs.Laws.{in_range_each, each_in_range, defaults_in_range}
use Rattle.memory.specs.Memory.{after_save, Store, loaded_from, load_of, defaulted_of, set_in, reset_in, is_right, saved_of}
use Rattle.memory.specs.declared.Memory.{Memory}
use Rattle.memory.proofs.Laws.{load_of_stored, load_of_nothing}
use Rattle.state.specs.Start.{stored_in_range}

-- ---- one number stored
-- where a number was stored stands that number, or what stood there before
stored_at : (P : ℤ → Type 0) (t : Bool) (l : List ℤ) (i : ℕ) (z : ℤ) → P z → P (get_or l i (pos 0)) → P (get_or (stored t l i z) i (pos 0))
stored_at P false l i z p q = q
stored_at P true l i z p q =
    ⊎_elim
    (λ (h : i < length l). subst P (sym (get_or-set_same l i z (pos 0) h)) p)
    (λ (h : length l ≤ i). subst (λ (x : List ℤ). P (get_or x i (pos 0))) (sym (set_out l i z h)) q)
    (lt_or_le i (length l))

-- so what holds of the number of each id, and of any in its range, holds of them afterwards
number_stored : (s : Settings) (id : ℕ) (t : ValueType) (z : ℤ) → parameter_of id ≡ Parameter.ReadWrite t → inside_of id z ≡ true → inside_of id (setting_of s id) ≡ true
    → inside_of id (setting_of (with_number s t (id - code_of t) z) id) ≡ true
number_stored s id t z e h g =
    let a = at id t e in
    let i = id - code_of t in
    rw (number_at (with_number s t i z) a, numbers_with s t i z (in_fits id t z e h) t)
    (stored_at (λ x. inside_of id x ≡ true) (same t t) (numbers s t) i z h (rw (number_at s a) at g))

-- a command on one id
wrote_in_range : (s : Settings) (id : ℕ) (r : Settings) → Wrote s id r → in_range_of s ≡ true → in_range_of r ≡ true
wrote_in_range s id r nothing h = h
wrote_in_range s id r (one t z e i) h =
    each_in_range r
    (λ j u q.
    elim (ℕ_discrete j id) [
      | yes same_id ↦ subst (λ (k : ℕ). inside_of k (setting_of r k) ≡ true) (sym same_id) (number_stored s id t z e i (in_range_each s h id t e))
      | no other ↦ subst (λ (x : ℤ). inside_of j x ≡ true) (sym (number_other s id j t z other e (in_fits id t z e i))) (in_range_each s h j u q)
    ])

-- ---- a memory: what is in force, and what is stored
pub record InRange (m : Memory) : Type 0 where
  pub current : in_range_of m.current ≡ true
  pub store : stored_in_range m.store ≡ true

-- what is loaded from a store that is in range
pub loaded : (kind : Kind) (store : Store) → stored_in_range store ≡ true → InRange (loaded_from kind store)
loaded kind (Some s) h = subst InRange (sym (load_of_stored kind s)) (record { current = h; store = h })
loaded kind None h = subst InRange (sym (load_of_nothing kind)) (record { current = defaults_in_range kind; store = h })

module _ (m : Memory) (h : InRange m) where
  -- 0x84
  pub set_one : (id : ℕ) (v : ParamValue) → InRange (set_in id v m)
  unfolding set_in
  set_one id v = record { current = wrote_in_range m.current id _ (set_wrote m.current id v) h.current; store = h.store }

  -- 0x86
  pub reset_one : (kind : Kind) (id : ℕ) → InRange (reset_in kind id m)
  unfolding reset_in
  reset_one kind id = record { current = wrote_in_range m.current id _ (reset_wrote kind m.current id) h.current; store = h.store }

  -- 0x90
  pub defaulted : (kind : Kind) → InRange (defaulted_of kind m)
  unfolding defaulted_of
  defaulted kind = record { current = defaults_in_range kind; store = h.store }

  -- 0x92
  pub load : (kind : Kind) → InRange (load_of kind m)
  unfolding load_of
  load kind = loaded kind m.store h.store

  -- 0x94
  pub saved : (given : ℕ) → InRange (after_save (saved_of given m) m)
  unfolding saved_of
  saved given = cases (is_right given m) (λ right. rw right (record { current = h.current; store = h.current })) (λ wrong. rw wrong h)
