-- From single ticks to runs, for any machine: a count of the ticks that the channel may still be off, which falls with
-- each of them, and a count of the ticks that it must still be on, which falls by at most one with each. Assumes
-- nothing.
use mathlib.Core.Path.{◌≡◌, refl, ap}
use mathlib.Core.Bool.{Bool, true, false}
use mathlib.Core.List.{List, [], ◌∷◌, ◌++◌, append_assoc}
use Prim.Native.Nat.{ℕ, zero, suc, ◌≤◌, ◌<◌}
use native.Mathlib.Omega.{arith}
use lib.ListN.{length, take, length-append}
use Rattle.power.specs.Runs.{channel, All, Off, On, OffAtMost, OnAtLeast}

-- what single ticks have to keep to
pub record Ticks {S I : Type 0} (tick : S → I → S) (on : S → Bool) (Inv : S → Type 0) (most least : ℕ) : Type 0 where
  -- states that are off, from this one on, and that are on, after this one
  pub left : S → ℕ
  pub held : S → ℕ
  pub kept : (s : S) (i : I) → Inv s → Inv (tick s i)
  pub some_left : (s : S) → Inv s → on s ≡ false → (1 ≤ left s) × (left s ≤ most)
  pub falls : (s : S) (i : I) → Inv s → on s ≡ false → on (tick s i) ≡ false → left (tick s i) < left s
  pub comes_on : (s : S) (i : I) → Inv s → on s ≡ false → on (tick s i) ≡ true → least ≤ suc (held (tick s i))
  pub stays_on : (s : S) (i : I) → Inv s → on s ≡ true → 0 < held s → (on (tick s i) ≡ true) × (held s ≤ suc (held (tick s i)))

module _ {S I : Type 0} (tick : S → I → S) (on : S → Bool) (Inv : S → Type 0) (most least : ℕ) (T : Ticks tick on Inv most least) where
  -- the channel of a run, every input of which is a tick
  abbrev line : S → List I → List Bool
  line s is = channel tick (λ i. true) on s is

  -- the part of a run behind a place is a run of its own
  pub record Behind (rest : List Bool) : Type 0 where
    pub from : S
    pub inputs : List I
    pub inv : Inv from
    pub same : line from inputs ≡ rest

  -- what stands behind a place of the list is the list of the rest of the run
  behind : (is : List I) (s : S) (before : List Bool) (x : Bool) (rest : List Bool) → Inv s → line s is ≡ before ++ x ∷ rest → Behind (x ∷ rest)
  behind is s [] x rest h e = record { from = s; inputs = is; inv = h; same = e }
  behind [] s (b ∷ bs) x rest h e = absurd (omega (arith, simp length-append at (ap length e)))
  behind (i ∷ is) s (b ∷ bs) x rest h e = behind is (tick s i) bs x rest (T.kept s i h) (cc)

  -- from a state on, the list starts with no more offs than are left there
  off_here : (is : List I) (s : S) (during after : List Bool) → Inv s → line s is ≡ during ++ after → All Off during → length during ≤ T.left s
  off_here is s [] after h e a = omega arith
  off_here [] s (b ∷ []) after h e a = (T.some_left s h (cc)).0
  off_here [] s (b ∷ (c ∷ bs)) after h e a = omega (arith, ap length e)
  off_here (i ∷ is) s (b ∷ []) after h e a = (T.some_left s h (cc)).0
  off_here (i ∷ is) s (b ∷ (c ∷ bs)) after h e a =
      omega (arith, off_here is (tick s i) (c ∷ bs) after (T.kept s i h) (cc) a.1, T.falls s i h (cc) (cc))

  -- from a state that is on, the list stays on for as long as it is held there
  on_here : (is : List I) (s : S) (n : ℕ) (since : List Bool) → Inv s → n ≤ T.held s → line s is ≡ true ∷ since → All On (take n since)
  on_here is s zero since h m e = tt
  on_here is s (suc n) [] h m e = tt
  on_here [] s (suc n) (c ∷ cs) h m e = absurd (omega (arith, ap length e))
  on_here (i ∷ is) s (suc n) (c ∷ cs) h m e =
      let k : (on (tick s i) ≡ true) × (T.held s ≤ suc (T.held (tick s i))) = T.stays_on s i h (cc) (omega arith) in
      (cc, on_here is (tick s i) n cs (T.kept s i h) (omega arith) (cc))

  -- a list that starts with off and on stays on for `least` places
  came_on : (is : List I) (s : S) (since : List Bool) → Inv s → line s is ≡ false ∷ true ∷ since → All On (take least (true ∷ since))
  came_on [] s since h e = absurd (omega (arith, ap length e))
  came_on (i ∷ is) s since h e =
      go least (T.comes_on s i h (cc) (cc))
    where
      go : (n : ℕ) → n ≤ suc (T.held (tick s i)) → All On (take n (true ∷ since))
      go zero m = tt
      go (suc n) m = (refl, on_here is (tick s i) n since (T.kept s i h) (omega arith) (cc))

  -- a part that is off throughout is no longer than `most`
  off_part : (d : Bool) (ds after : List Bool) → Behind (d ∷ (ds ++ after)) → All Off (d ∷ ds) → length (d ∷ ds) ≤ most
  off_part d ds after b a =
      omega
      (arith, off_here b.inputs b.from (d ∷ ds) after b.inv b.same a, (T.some_left b.from b.inv (cc)).1)

  -- both claims, for every run from a state with the invariant
  pub off_at_most : (s : S) → Inv s → (is : List I) → OffAtMost most (line s is)
  off_at_most s h is = record { shown = go }
    where
      go : (before during after : List Bool) → line s is ≡ before ++ during ++ after → All Off during → length during ≤ most
      go before [] after e a = omega arith
      go before (d ∷ ds) after e a = off_part d ds after (behind is s before d (ds ++ after) h (rw append_assoc at e)) a

  pub on_at_least : (s : S) → Inv s → (is : List I) → OnAtLeast least (line s is)
  on_at_least s h is =
      record {
        shown =
            λ before since e. let b : Behind (false ∷ true ∷ since) = behind is s before false (true ∷ since) h e in
            came_on b.inputs b.from since b.inv b.same;
      }
