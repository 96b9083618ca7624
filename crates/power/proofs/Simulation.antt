-- A larger machine inherits what is shown of a smaller one's channel: one equation for a tick, and one for a call that
-- is none. Assumes nothing.
use mathlib.Core.Path.{◌≡◌, refl, sym, ap, subst}
use mathlib.Core.Bool.{Bool, true, false, cond}
use mathlib.Core.List.{List, [], ◌∷◌}
use Rattle.laws.proofs.Cases.{cases}
use Rattle.power.specs.Runs.{ends, channel, Stretch}

-- `project` takes each allowed tick of the larger machine to a tick of the smaller, and every other call to nothing at
-- all; `Inv` is what the larger one needs to know of its own state
pub record Simulates {S I S' I' : Type 0} (call : S → I → S) (is_tick : I → Bool) (tick' : S' → I' → S') (Inv : S → Type 0) (Allowed : S → I → Type 0) (project : S → S') (input : S → I → I') : Type 0 where
  pub kept : (s : S) (i : I) → Inv s → Allowed s i → Inv (call s i)
  pub ticks : (s : S) (i : I) → Inv s → Allowed s i → is_tick i ≡ true → project (call s i) ≡ tick' (project s) (input s i)
  pub rests : (s : S) (i : I) → Inv s → is_tick i ≡ false → project (call s i) ≡ project s

-- what the ticks of a stretch are to the smaller machine
module _ {S I I' : Type 0} (call : S → I → S) (is_tick : I → Bool) (input : S → I → I') where
  abbrev pub inputs : S → List I → List I'
  inputs s [] = []
  inputs s (i ∷ is) =
      let rest = inputs (call s i) is in
      cond (is_tick i) (input s i ∷ rest) rest

module _ {S I S' I' : Type 0} (call : S → I → S) (is_tick : I → Bool) (tick' : S' → I' → S') (Inv : S → Type 0) (Allowed : S → I → Type 0) (project : S → S') (input : S → I → I')
    (M : Simulates call is_tick tick' Inv Allowed project input) (on : S' → Bool) where
  abbrev theirs : S → List I → List I'
  theirs s is = inputs call is_tick input s is

  -- tick by tick, the two channels are the same; other calls leave no trace
  same_ends : (is : List I) (s : S) → Inv s → Stretch call Allowed s is → ends call is_tick (λ x. on (project x)) s is ≡ ends tick' (λ i. true) on (project s) (theirs s is)
  same_ends [] s h a = refl
  same_ends (i ∷ is) s h a =
      let rest = same_ends is (call s i) (M.kept s i h a.0) a.1 in
      cases (is_tick i)
      (λ e. rw (e, ← M.ticks s i h a.0 e) (ap (λ (l : List Bool). on (project (call s i)) ∷ l) rest))
      (λ e. rw (e, ← M.rests s i h e) rest)

  -- the two machines have one list
  pub same_channel : (s : S) → Inv s → (is : List I) → Stretch call Allowed s is → channel call is_tick (λ x. on (project x)) s is ≡ channel tick' (λ i. true) on (project s) (inputs call is_tick input s is)
  same_channel s h is a = ap (λ (l : List Bool). on (project s) ∷ l) (same_ends is s h a)

  -- so what holds of every run of the smaller holds of every allowed stretch of the larger
  pub inherits : (P : List Bool → Type 0) (s : S) → ((is' : List I') → P (channel tick' (λ i. true) on (project s) is')) → Inv s → (is : List I) → Stretch call Allowed s is
      → P (channel call is_tick (λ x. on (project x)) s is)
  inherits P s p h is a = subst P (sym (same_channel s h is a)) (p (theirs s is))
