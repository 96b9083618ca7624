-- `find` meets its contract. Assumes nothing.
use mathlib.Core.Path.{sym, ap, ◌∙◌}
use native.Mathlib.Nat.{add-zero, add_assoc}
use native.Mathlib.Omega.{arith}
use borrow.Author.Rules.{rules}
use Prim.Native.Nat.{◌+◌}
use lib.ListN.{length}
use Rattle.frames.specs.Frames.{place_of}
use Rattle.frames.proofs.Scanning.{starts_end, starts_same, starts_other, first_none, first_next, found_at}
use Rattle.frames.proofs.find.Goals as goal

pub returns-then-n-i-clause-is : goal.returns-then-n-i-clause-is
returns-then-n-i-clause-is c =
    let a = c.args in
    let l = c.places in
    ap (place_of (length a.tag.now)) (sym (first_none a.tag.now a.s.now l.i (omega arith) (omega arith)) ∙ l.invariant.same)

pub loop-k-init : goal.loop-k-init
loop-k-init c = record { upto = search rules; same = simp add-zero }

pub loop-k-preserved : goal.loop-k-preserved
loop-k-preserved c =
    let a = c.args in
    let l = c.loop-k in
    let i = c.places.i in
    record {
      upto = omega arith;
      same = simp (← add_assoc) (sym (starts_same a.tag.now a.s.now l.k (i + l.k) (omega arith) (omega arith) c.if-s-i.false) ∙ l.invariant.same);
    }

pub places-preserved : goal.places-preserved
places-preserved c =
    let a = c.args in
    let l = c.loop-k in
    let p = c.places in
    record {
      past = omega arith;
      inside = omega arith;
      same =
          sym (first_next a.tag.now a.s.now p.i (omega arith)
          (sym l.invariant.same ∙ starts_other a.tag.now a.s.now l.k (p.i + l.k) (omega arith) (omega arith) c.if-s-i.true))
          ∙ p.invariant.same;
    }

pub returns-clause-is : goal.returns-clause-is
returns-clause-is c =
    let a = c.args in
    let l = c.loop-k in
    let p = c.places in
    let stands = sym l.invariant.same ∙ starts_end a.tag.now a.s.now l.k (p.i + l.k) (omega arith) in
    found_at a.tag.now a.s.now p.i _ (omega arith) stands ∙ ap (place_of (length a.tag.now)) p.invariant.same
