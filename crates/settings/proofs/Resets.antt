-- The defaults, and a reset as a set of the default. Assumes nothing.
use mathlib.Core.Path.{◌≡◌, refl, sym, ap, ◌∙◌, subst}
use mathlib.Core.Bool.{true}
use mathlib.Core.List.{map}
use Prim.Native.Nat.{ℕ, ◌+◌, ◌-◌, ◌<◌}
use native.Mathlib.Omega.{arith}
use lib.IntN.{ℤ, pos}
use lib.Signed.{le_z}
use lib.ListN.{get_or, get_or-map}
use Rattle.kinds.specs.declared.Kind.{Kind}
use Rattle.value.specs.Types.{code_of, type_of}
use Rattle.value.specs.declared.ValueType.{ValueType}
use Rattle.value.specs.declared.ValueType.TheVariants.{Int8, Uint8, Int16, Uint16, Int32, Uint32, Float, Int64, Uint64, Double}
use Rattle.value.specs.declared.ParamValue.{ParamValue}
use Rattle.settings.specs.declared.Parameter.{Parameter}
use Rattle.settings.specs.declared.Got.{Got}
use Rattle.settings.specs.declared.Settings.{Settings}
use Rattle.settings.specs.Table.{parameter_of, inside_of, clamp_of, default_of, column}
use Rattle.settings.specs.Values.{number_in, got_value, numbers, setting_of, with_number, get_of, set_of, reset_as, reset_of, default_n, defaults_of}
use Rattle.settings.proofs.Rows.{count_of, column_at}
use Rattle.settings.proofs.Places.{at, none, number_at, gets, gets_read_only, gets_unknown}
use Rattle.settings.proofs.Ranges.{Fit, clamp_in, in_kept, in_fits}
use Rattle.settings.proofs.Stores.{not_below, set_at}

-- ---- the default of a parameter
pub default_inside : (kind : Kind) (id : ℕ) → inside_of id (default_of kind id) ≡ true
unfolding default_of
default_inside kind id = clamp_in id _

pub default_fits : (kind : Kind) (id : ℕ) (t : ValueType) → parameter_of id ≡ Parameter.ReadWrite t → Fit t (default_of kind id)
default_fits kind id t e = in_fits id t (default_of kind id) e (default_inside kind id)

unsigned_at : (kind : Kind) (lo n i : ℕ) → i < n → le_z (pos 0) (default_of kind (lo + i)) ≡ true → get_or (map pos (column (default_n kind) lo n)) i (pos 0) ≡ default_of kind (lo + i)
unfolding default_n
unsigned_at kind lo n i h p = get_or-map pos (column (default_n kind) lo n) i 0 ∙ ap pos (column_at (default_n kind) lo n i 0 h) ∙ not_below (default_of kind (lo + i)) p

default_at : (kind : Kind) (t : ValueType) (i : ℕ) → i < count_of t → Fit t (default_of kind (code_of t + i)) → get_or (numbers (defaults_of kind) t) i (pos 0) ≡ default_of kind (code_of t + i)
unfolding defaults_of
default_at kind Int8 i h f = column_at (default_of kind) 0x1000 21 i (pos 0) h
default_at kind Uint8 i h f = unsigned_at kind 0x2000 3 i h f.low
default_at kind Int16 i h f = column_at (default_of kind) 0x3000 42 i (pos 0) h
default_at kind Uint16 i h f = unsigned_at kind 0x4000 68 i h f.low
default_at kind Int32 i h f = absurd (omega arith)
default_at kind Uint32 i h f = unsigned_at kind 0x6000 6 i h f.low
default_at kind Float i h f = absurd (omega arith)
default_at kind Int64 i h f = absurd (omega arith)
default_at kind Uint64 i h f = absurd (omega arith)
default_at kind Double i h f = absurd (omega arith)

-- among the defaults each parameter has its own
pub default_number : (kind : Kind) (id : ℕ) (t : ValueType) → parameter_of id ≡ Parameter.ReadWrite t → setting_of (defaults_of kind) id ≡ default_of kind id
default_number kind id t e =
    let a = at id t e in
    number_at (defaults_of kind) a
    ∙ subst (λ (j : ℕ). Fit t (default_of kind j) → get_or (numbers (defaults_of kind) t) (id - code_of t) (pos 0) ≡ default_of kind j) a.id_is (default_at kind t (id - code_of t) a.below) (default_fits kind id t e)

-- ---- the value that a number is has the type and the number
pub record Is (t : ValueType) (z : ℤ) (v : ParamValue) : Type 0 where
  pub type : type_of v ≡ t
  pub number : number_in v ≡ z

signed_is : (t : ValueType) (z : ℤ) (v w : ParamValue) → Got.Value w ≡ Got.Value v → type_of w ≡ t → number_in w ≡ z → Is t z v
signed_is t z v w e p q = let f : v ≡ w = cc in record { type = ap type_of f ∙ p; number = ap number_in f ∙ q }

not_read : {A : Type 0} (v : ParamValue) → Got.Unknown ≡ Got.Value v → A
not_read v e = let z : ◌≡◌ {A = ℕ} 0 1 = cc in absurd (omega arith)

pub value_is : (t : ValueType) (z : ℤ) (v : ParamValue) → got_value t z ≡ Got.Value v → Fit t z → Is t z v
value_is Int8 z v e f = signed_is Int8 z v _ e refl refl
value_is Uint8 z v e f = signed_is Uint8 z v _ e refl (not_below z f.low)
value_is Int16 z v e f = signed_is Int16 z v _ e refl refl
value_is Uint16 z v e f = signed_is Uint16 z v _ e refl (not_below z f.low)
value_is Int32 z v e f = not_read v e
value_is Uint32 z v e f = signed_is Uint32 z v _ e refl (not_below z f.low)
value_is Float z v e f = not_read v e
value_is Int64 z v e f = not_read v e
value_is Uint64 z v e f = not_read v e
value_is Double z v e f = not_read v e

-- ---- a reset sets the value that the defaults have
pub default_get : (kind : Kind) (id : ℕ) (t : ValueType) → parameter_of id ≡ Parameter.ReadWrite t → get_of (defaults_of kind) id ≡ got_value t (default_of kind id)
default_get kind id t e = gets (defaults_of kind) id t e ∙ ap (got_value t) (default_number kind id t e)

pub reset_sets : (kind : Kind) (s : Settings) (id : ℕ) (v : ParamValue) → get_of (defaults_of kind) id ≡ Got.Value v → set_of s id v ≡ reset_of kind s id
unfolding reset_of
reset_sets kind s id v g = go (parameter_of id) refl
  where
    go : (p : Parameter) → parameter_of id ≡ p → set_of s id v ≡ reset_as kind s id p
    go (Parameter.ReadWrite t) e =
        let k = value_is t (default_of kind id) v (sym (default_get kind id t e) ∙ g) (default_fits kind id t e) in
        set_at s v (at id t e) k.type ∙ ap (with_number s t (id - code_of t)) (ap (clamp_of id) k.number ∙ in_kept id (default_of kind id) (default_inside kind id))
    go (Parameter.ReadOnly t) e = let h = gets_read_only (defaults_of kind) id t e in let z : ◌≡◌ {A = ℕ} 0 1 = cc in absurd (omega arith)
    go Parameter.Unknown e = let h = gets_unknown (defaults_of kind) id e in let z : ◌≡◌ {A = ℕ} 0 1 = cc in absurd (omega arith)

-- and where they have none, it changes nothing
pub reset_unread : (kind : Kind) (s : Settings) (id : ℕ) → ((v : ParamValue) → get_of (defaults_of kind) id ≡ Got.Value v → ⊥) → reset_of kind s id ≡ s
unfolding reset_of
reset_unread kind s id n = go (parameter_of id) refl
  where
    go : (p : Parameter) → parameter_of id ≡ p → reset_as kind s id p ≡ s
    go (Parameter.ReadWrite Int8) e = absurd (n _ (default_get kind id Int8 e))
    go (Parameter.ReadWrite Uint8) e = absurd (n _ (default_get kind id Uint8 e))
    go (Parameter.ReadWrite Int16) e = absurd (n _ (default_get kind id Int16 e))
    go (Parameter.ReadWrite Uint16) e = absurd (n _ (default_get kind id Uint16 e))
    go (Parameter.ReadWrite Int32) e = none id Int32 refl e
    go (Parameter.ReadWrite Uint32) e = absurd (n _ (default_get kind id Uint32 e))
    go (Parameter.ReadWrite Float) e = none id Float refl e
    go (Parameter.ReadWrite Int64) e = none id Int64 refl e
    go (Parameter.ReadWrite Uint64) e = none id Uint64 refl e
    go (Parameter.ReadWrite Double) e = none id Double refl e
    go (Parameter.ReadOnly t) e = refl
    go Parameter.Unknown e = refl
