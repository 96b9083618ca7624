-- The outer invariant: the first place from here is the first place from the start. The inner one: what is left of the
-- tag stands here just where the tag stands at the outer place. Assumes nothing.
use Prim.Native.Nat.{ℕ, ◌+◌, ◌≤◌, ◌-◌}
use mathlib.Core.Path.{◌≡◌}
use mathlib.Core.List.{List}
use lib.ListN.{length, drop}
use Rattle.frames.specs.Frames.{starts_with, first_at}
use Rattle.frames.proofs.find.Given as goal

-- the invariants, with a name for each part
pub record Bytes (tag s : List ℕ) (i k : ℕ) : Type 0 where
  pub upto : k ≤ length tag
  pub same : starts_with (drop k tag) (drop (i + k) s) ≡ starts_with tag (drop i s)

pub record Places (tag s : List ℕ) (from i : ℕ) : Type 0 where
  pub past : from ≤ i
  pub inside : i ≤ length s
  pub same : first_at tag i (drop i s) ≡ first_at tag from (drop from s)

abbrev pub invariant-loop-k : goal.invariant-loop-k
invariant-loop-k l = Bytes l.tag l.s l.i l.k

abbrev pub decreases-loop-k : goal.decreases-loop-k
decreases-loop-k l = length l.tag - l.k

abbrev pub invariant-places : goal.invariant-places
invariant-places l = Places l.tag l.s l.from l.i

abbrev pub decreases-places : goal.decreases-places
decreases-places l = length l.s - l.i
