-- The counts while the loop of `all_counted` goes over them: those below c are counted, the others as they were.
-- Assumes nothing.
use mathlib.Core.Path.{◌≡◌, ◌∙◌}
use mathlib.Core.Logic.{⊎_elim}
use mathlib.Core.List.{List}
use Prim.Native.Nat.{ℕ, ◌+◌, ◌≤◌, ◌<◌}
use native.Mathlib.Nat.{eq-or-lt_of_le}
use native.Mathlib.Omega.{arith}
use lib.ListN.{length, get_or, set, length-set}
use lib.Seq.{get_or-set_same, get_or-set_other}

pub record Sofar (f : ℕ → ℕ) (before counts : List ℕ) (c : ℕ) : Type 0 where
  pub within : c ≤ 32
  pub len : length counts ≡ 32
  pub done : (k : ℕ) → k < c → get_or counts k 0 ≡ f k
  pub rest : (k : ℕ) → c ≤ k → get_or counts k 0 ≡ get_or before k 0

-- the count of channel c is stored
pub next : {f : ℕ → ℕ} {before counts : List ℕ} {c : ℕ} → Sofar f before counts c → c < 32 → (v : ℕ) → v ≡ f c → Sofar f before (set counts c v) (c + 1)
next {f} {before} {counts} {c} s h v e =
    record {
      within = omega arith;
      len = length-set counts c v ∙ s.len;
      done = λ k b.
          ⊎_elim
          (λ (q : k ≡ c). rw q (get_or-set_same counts c v 0 (omega (arith, s.len)) ∙ e))
          (λ (b' : k < c). get_or-set_other counts c k v 0 (omega arith) ∙ s.done k b')
          (eq-or-lt_of_le (omega arith));
      rest = λ k b. get_or-set_other counts c k v 0 (omega arith) ∙ s.rest k (omega arith);
    }
