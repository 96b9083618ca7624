-- The stores that are left, made on what the buffer holds now, give what those left where the loop begins give. Assumes
-- nothing.
use mathlib.Core.List.{List}
use native.Mathlib.Omega.{arith}
use Prim.Native.Nat.{ℕ, ◌+◌, ◌-◌, ◌*◌}
use mathlib.Core.Path.{◌≡◌, refl, sym, ap, ◌∙◌}
use lib.ListN.{set, get_or, length, drop, length-set}
use lib.Seq.{sets}
use Rattle.hexadecimal.specs.Hex.{digits_of, spaced, text_of}
use Rattle.hexadecimal.proofs.Writing.{spaced_end, first_pair, next_pair, write_none, write_short, write_whole}
use Rattle.hexadecimal.proofs.Numbers.{with_write_number}
use Rattle.hexadecimal.proofs.write.Goals as goal

pub returns-then-n-eq0 : goal.returns-then-n-eq0
returns-then-n-eq0 c =
    let a = c.args in
    let p = with_write_number (text_of a.bytes.now) (length a.out.now) (write_none a.bytes.now a.out.now (omega arith)) in
    record { answer = p.0; held = p.1.0; number = p.1.1 }

pub returns-then-out-n : goal.returns-then-out-n
returns-then-out-n c =
    let a = c.args in
    let p = with_write_number (text_of a.bytes.now) (length a.out.now) (write_short a.bytes.now a.out.now (omega arith)) in
    record { answer = p.0; held = p.1.0; number = p.1.1 }

pub loop-i-init : goal.loop-i-init
loop-i-init c = (omega arith, refl, omega (arith, c.put.auto.out), refl)

pub put-requires-in-loop-i : goal.put-requires-in-loop-i
put-requires-in-loop-i c = simp length-set (omega arith)

pub loop-i-preserved : goal.loop-i-preserved
loop-i-preserved c =
    let l = c.loop-i in
    let bs = c.args.bytes.now in
    let k : ℕ = 3 * l.i - 1 in
    let place : 3 * l.i ≡ k + 1 = omega arith in
    let next : 3 * (l.i + 1) - 1 ≡ k + 3 = omega arith in (
      omega arith,
      omega (arith, simp length-set at c.put-in-loop-i.auto.out),
      l.invariant.2,
      rw next
          (ap (λ (o : List ℕ). sets o (k + 3) (spaced (drop (l.i + 1) bs))) c.put-in-loop-i.ensures
          ∙ ap (λ (p : ℕ). sets (sets (set l.out k 32) p (digits_of (get_or bs l.i 0))) (k + 3) (spaced (drop (l.i + 1) bs))) place
          ∙ next_pair bs l.out l.i k (omega arith)
          ∙ l.invariant.3),
    )

pub returns : goal.returns
returns c =
    let l = c.loop-i in
    let bs = c.args.bytes.now in
    let o = c.args.out.now in
    let p = with_write_number (text_of bs) (length o)
    (write_whole bs o (3 * length bs - 1) l.out (omega arith) (omega arith) (omega (arith, c.put.auto.out))
    (sym (ap (sets l.out (3 * l.i - 1)) (spaced_end bs l.i (omega arith)))
    ∙ l.invariant.3
    ∙ ap (λ (p : List ℕ). sets p 2 (spaced (drop 1 bs))) c.put.ensures
    ∙ first_pair bs o (omega arith))) in
    record { answer = p.0; held = p.1.0; number = p.1.1 }
