-- `overcurrent` meets its contract: each channel is what the rule says, by cases on whether it is named and on; the
-- counts are those that `all_counted` gives. Assumes nothing.
use mathlib.Core.Path.{◌≡◌, sym, ap, ◌∙◌}
use mathlib.Core.Bool.{false, ◌&&◌}
use Prim.Native.Nat.{ℕ}
use native.Mathlib.Omega.{arith}
use borrow.Author.Rules.{rules}
use lib.Bits.{bit_and}
use Rattle.laws.proofs.Cases.{cases}
use Rattle.channels.specs.Sets.{has}
use Rattle.channels.specs.Operations.{overcurrent_at}
use Rattle.channels.specs.Counting.{count_all}
use Rattle.channels.proofs.Sets.{has_and, has_none, and_below, length_list_of, get_or_list_of}
use Rattle.channels.proofs.Cases.{holds, fits}
use Rattle.channels.proofs.Whole.{is_whole}
use Rattle.channels.proofs.Channels.overcurrent.Goals as goal

pub returns-then-tripping-eq0 : goal.returns-then-tripping-eq0
unfolding overcurrent_at
returns-then-tripping-eq0 c =
    is_whole _ _
    (search rules)
    (λ k h.
    let none : bit_and c.args.named c.args.self.on ≡ 0 = omega arith in
    let e : (has c.args.named k && has c.args.self.on k) ≡ false = sym (has_and c.args.named c.args.self.on k) ∙ ap (λ (x : ℕ). has x k) none ∙ has_none k in
    simp e)

pub returns : goal.returns
unfolding overcurrent_at count_all
returns c =
    is_whole _ _
    (record {
      on = search (rules, fits);
      latched = search (rules, fits);
      counts = rw c.all_counted-counts.ensures (length_list_of 32 _);
    })
    (λ k h.
    simp (holds, and_below 32, c.ranges.named.fits, c.all_counted-counts.ensures, get_or_list_of 32)
    (cases (has c.args.named k)
    (λ a. cases (has c.args.self.on k) (λ b. simp (holds, a, b)) (λ b. simp (holds, a, b)))
    (λ a. simp (holds, a))))
