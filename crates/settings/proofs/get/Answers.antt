-- Each way out reads the array and the place where the id's value stands.
use mathlib.Core.Path.{sym, ap, ◌∙◌}
use native.Mathlib.Omega.{arith}
use borrow.Author.Rules.{rules}
use lib.ListN.{get_or}
use lib.IntN.{pos}
use mir.Syntax.{w8, w16}
use mir.Val.{SFits}
use mir.ValLaws.{to_z-of_z}
use Rattle.settings.specs.Values.{get_of}
use Rattle.settings.specs.Answers.{get_number}
use Rattle.settings.proofs.Places.{stands_at, reads, reads_n}
use Rattle.settings.proofs.Numbers.{got_number}
use Rattle.settings.proofs.get.Goals as goal

pub bounds-s-i : goal.bounds-s-i
bounds-s-i c = let a = stands_at c.args.id (sym c.place_of-p.ensures ∙ c.in-Int8.is) in a.below

pub bounds-s-i-in-Uint8 : goal.bounds-s-i-in-Uint8
bounds-s-i-in-Uint8 c = let a = stands_at c.args.id (sym c.place_of-p.ensures ∙ c.in-Uint8.is) in a.below

pub offset_bounds-s-i : goal.offset_bounds-s-i
offset_bounds-s-i c = let a = stands_at c.args.id (sym c.place_of-p.ensures ∙ c.in-Int16.is) in omega arith

pub bounds-s-i-in-Int16 : goal.bounds-s-i-in-Int16
bounds-s-i-in-Int16 c = let a = stands_at c.args.id (sym c.place_of-p.ensures ∙ c.in-Int16.is) in a.below

pub offset_bounds-s-i-in-Uint16 : goal.offset_bounds-s-i-in-Uint16
offset_bounds-s-i-in-Uint16 c = let a = stands_at c.args.id (sym c.place_of-p.ensures ∙ c.in-Uint16.is) in omega arith

pub bounds-s-i-in-Uint16 : goal.bounds-s-i-in-Uint16
bounds-s-i-in-Uint16 c = let a = stands_at c.args.id (sym c.place_of-p.ensures ∙ c.in-Uint16.is) in a.below

pub offset_bounds-s-i-in-Uint32 : goal.offset_bounds-s-i-in-Uint32
offset_bounds-s-i-in-Uint32 c = let a = stands_at c.args.id (sym c.place_of-p.ensures ∙ c.in-Uint32.is) in omega arith

pub bounds-s-i-in-Uint32 : goal.bounds-s-i-in-Uint32
bounds-s-i-in-Uint32 c = let a = stands_at c.args.id (sym c.place_of-p.ensures ∙ c.in-Uint32.is) in a.below

pub returns-in-Int8-clause-value : goal.returns-in-Int8-clause-value
returns-in-Int8-clause-value c =
    let a = stands_at c.args.id (sym c.place_of-p.ensures ∙ c.in-Int8.is) in
    let f : SFits w8 (get_or c.args.s.i8s c.in-Int8.i (pos 0)) = search rules in
    rw (reads c.args.s a, to_z-of_z w8 _ f)

pub returns-in-Int8-clause-number : goal.returns-in-Int8-clause-number
returns-in-Int8-clause-number c = ap get_number (returns-in-Int8-clause-value c) ∙ got_number c.args.id c.args.s

pub returns-in-Uint8-clause-value : goal.returns-in-Uint8-clause-value
returns-in-Uint8-clause-value c =
    let a = stands_at c.args.id (sym c.place_of-p.ensures ∙ c.in-Uint8.is) in
    rw (reads c.args.s a, reads_n c.args.s.u8s c.in-Uint8.i)

pub returns-in-Uint8-clause-number : goal.returns-in-Uint8-clause-number
returns-in-Uint8-clause-number c = ap get_number (returns-in-Uint8-clause-value c) ∙ got_number c.args.id c.args.s

pub returns-in-Int16-clause-value : goal.returns-in-Int16-clause-value
returns-in-Int16-clause-value c =
    let a = stands_at c.args.id (sym c.place_of-p.ensures ∙ c.in-Int16.is) in
    let f : SFits w16 (get_or c.args.s.i16s c.in-Int16.i (pos 0)) = search rules in
    rw (reads c.args.s a, to_z-of_z w16 _ f)

pub returns-in-Int16-clause-number : goal.returns-in-Int16-clause-number
returns-in-Int16-clause-number c = ap get_number (returns-in-Int16-clause-value c) ∙ got_number c.args.id c.args.s

pub returns-in-Uint16-clause-value : goal.returns-in-Uint16-clause-value
returns-in-Uint16-clause-value c =
    let a = stands_at c.args.id (sym c.place_of-p.ensures ∙ c.in-Uint16.is) in
    rw (reads c.args.s a, reads_n c.args.s.u16s c.in-Uint16.i)

pub returns-in-Uint16-clause-number : goal.returns-in-Uint16-clause-number
returns-in-Uint16-clause-number c = ap get_number (returns-in-Uint16-clause-value c) ∙ got_number c.args.id c.args.s

pub returns-in-Uint32-clause-value : goal.returns-in-Uint32-clause-value
returns-in-Uint32-clause-value c =
    let a = stands_at c.args.id (sym c.place_of-p.ensures ∙ c.in-Uint32.is) in
    rw (reads c.args.s a, reads_n c.args.s.u32s c.in-Uint32.i)

pub returns-in-Uint32-clause-number : goal.returns-in-Uint32-clause-number
returns-in-Uint32-clause-number c = ap get_number (returns-in-Uint32-clause-value c) ∙ got_number c.args.id c.args.s

pub returns-in-ReadOnly-clause-value : goal.returns-in-ReadOnly-clause-value
unfolding get_of
returns-in-ReadOnly-clause-value c =
    let a = stands_at c.args.id (sym c.place_of-p.ensures ∙ c.in-ReadOnly.is) in
    rw a

pub returns-in-ReadOnly-clause-number : goal.returns-in-ReadOnly-clause-number
returns-in-ReadOnly-clause-number c = ap get_number (returns-in-ReadOnly-clause-value c) ∙ got_number c.args.id c.args.s

pub returns-in-Unknown-clause-value : goal.returns-in-Unknown-clause-value
unfolding get_of
returns-in-Unknown-clause-value c =
    let a = stands_at c.args.id (sym c.place_of-p.ensures ∙ c.in-Unknown.is) in
    rw a

pub returns-in-Unknown-clause-number : goal.returns-in-Unknown-clause-number
returns-in-Unknown-clause-number c = ap get_number (returns-in-Unknown-clause-value c) ∙ got_number c.args.id c.args.s
