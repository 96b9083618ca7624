-- Numbers of the types that have no ranges fit them, so the two types that have ranges decide; of these the ids passed
-- lie in range.
use mathlib.Core.Bool.{true, false}
use mathlib.Core.Path.{◌≡◌, refl, sym, ap, ◌∙◌}
use Prim.Native.Nat.{ℕ, ◌+◌}
use native.Mathlib.Omega.{arith}
use borrow.Author.Rules.{rules}
use lib.IntN.{pos}
use lib.ListN.{get_or}
use mir.Syntax.{w8, w16, w32}
use mir.Val.{Fits, SFits}
use mir.ValLaws.{to_z-of_z, to_z_pos}
use Rattle.laws.proofs.Arrays.{element_fits}
use Rattle.settings.specs.Table.{inside_of, from}
use Rattle.settings.specs.Values.{all_inside}
use Rattle.settings.proofs.Places.{int16_number, uint16_number}
use Rattle.settings.proofs.Walks.{next_in, next_out, none_left, in_range_of_two}
use Rattle.settings.proofs.in_range.Goals as goal

pub loop-i-init : goal.loop-i-init
loop-i-init c = refl

pub loop-i-preserved : goal.loop-i-preserved
loop-i-preserved c =
    let s = c.args.s in
    let i = c.loop-i.i in
    let x = get_or s.i16s i (pos 0) in
    let f : SFits w16 x = search (rules, element_fits) in
    let g : SFits w32 x = record { sfits = omega (arith, f.sfits) } in
    let e : inside_of (0x3000 + i) x ≡ true = rw (to_z-of_z w16 x f, to_z-of_z w32 x g) at (sym c.is_inside.ensures ∙ c.if-not-is_inside.false) in
    next_in s 0x3000 42 i c.loop-i-test.true (ap (inside_of (0x3000 + i)) (int16_number s i c.loop-i-test.true) ∙ e) ∙ c.loop-i.invariant

pub returns-then-not-is_inside : goal.returns-then-not-is_inside
returns-then-not-is_inside c =
    let s = c.args.s in
    let i = c.loop-i.i in
    let x = get_or s.i16s i (pos 0) in
    let f : SFits w16 x = search (rules, element_fits) in
    let g : SFits w32 x = record { sfits = omega (arith, f.sfits) } in
    let e : inside_of (0x3000 + i) x ≡ false = rw (to_z-of_z w16 x f, to_z-of_z w32 x g) at (sym c.is_inside.ensures ∙ c.if-not-is_inside.true) in
    let first : all_inside s (from 0x3000 42) ≡ false =
    sym c.loop-i.invariant ∙ next_out s 0x3000 42 i c.loop-i-test.true (ap (inside_of (0x3000 + i)) (int16_number s i c.loop-i-test.true) ∙ e) in
    let a : (i : ℕ) → SFits w8 (get_or s.i8s i (pos 0)) = λ i. search (rules, element_fits) in
    let b : (i : ℕ) → Fits w8 (get_or s.u8s i 0) = λ i. search rules in
    let d : (i : ℕ) → Fits w32 (get_or s.u32s i 0) = λ i. search rules in
    rw (in_range_of_two s a b d, first)

pub loop-i-2-init : goal.loop-i-2-init
loop-i-2-init c = refl

pub loop-i-2-preserved : goal.loop-i-2-preserved
loop-i-2-preserved c =
    let s = c.args.s in
    let i = c.loop-i-2.i in
    let x = get_or s.u16s i 0 in
    let f : Fits w16 x = search rules in
    let e : inside_of (0x4000 + i) (pos x) ≡ true = rw (to_z_pos w32 x (omega (arith, f.fits))) at (sym c.is_inside-in-loop-i-2.ensures ∙ c.if-not-is_inside-2.false) in
    next_in s 0x4000 68 i c.loop-i-2-test.true (ap (inside_of (0x4000 + i)) (uint16_number s i c.loop-i-2-test.true) ∙ e) ∙ c.loop-i-2.invariant

pub returns-then-not-is_inside-2 : goal.returns-then-not-is_inside-2
returns-then-not-is_inside-2 c =
    let s = c.args.s in
    let i = c.loop-i-2.i in
    let x = get_or s.u16s i 0 in
    let f : Fits w16 x = search rules in
    let e : inside_of (0x4000 + i) (pos x) ≡ false = rw (to_z_pos w32 x (omega (arith, f.fits))) at (sym c.is_inside-in-loop-i-2.ensures ∙ c.if-not-is_inside-2.true) in
    let first : all_inside s (from 0x3000 42) ≡ true = sym c.loop-i.invariant ∙ none_left s 0x3000 42 c.loop-i.i c.loop-i-test.false in
    let second : all_inside s (from 0x4000 68) ≡ false =
    sym c.loop-i-2.invariant ∙ next_out s 0x4000 68 i c.loop-i-2-test.true (ap (inside_of (0x4000 + i)) (uint16_number s i c.loop-i-2-test.true) ∙ e) in
    let a : (i : ℕ) → SFits w8 (get_or s.i8s i (pos 0)) = λ i. search (rules, element_fits) in
    let b : (i : ℕ) → Fits w8 (get_or s.u8s i 0) = λ i. search rules in
    let d : (i : ℕ) → Fits w32 (get_or s.u32s i 0) = λ i. search rules in
    rw (in_range_of_two s a b d, first, second)

pub returns : goal.returns
returns c =
    let s = c.args.s in
    let first : all_inside s (from 0x3000 42) ≡ true = sym c.loop-i.invariant ∙ none_left s 0x3000 42 c.loop-i.i c.loop-i-test.false in
    let second : all_inside s (from 0x4000 68) ≡ true = sym c.loop-i-2.invariant ∙ none_left s 0x4000 68 c.loop-i-2.i c.loop-i-2-test.false in
    let a : (i : ℕ) → SFits w8 (get_or s.i8s i (pos 0)) = λ i. search (rules, element_fits) in
    let b : (i : ℕ) → Fits w8 (get_or s.u8s i 0) = λ i. search rules in
    let d : (i : ℕ) → Fits w32 (get_or s.u32s i 0) = λ i. search rules in
    rw (in_range_of_two s a b d, first, second)
