-- The value is stored at the place of the id where that is one of its type, at the nearer end of the id's range; where
-- it is none, all is as it was.
use mathlib.Core.Logic.{inl, inr}
use mathlib.Core.Path.{◌≡◌, refl, sym, ◌∙◌}
use native.Mathlib.Omega.{arith}
use borrow.Author.Rules.{rules}
use lib.IntN.{pos}
use mir.Syntax.{w8, w16, w32}
use mir.Val.{Fits, SFits, to_z, of_z}
use mir.ValLaws.{to_z-of_z, to_z_pos}
use Rattle.value.specs.declared.ValueType.TheVariants.{Int8, Uint8, Int16, Uint16, Uint32}
use Rattle.value.specs.declared.ParamValue.{ParamValue}
use Rattle.settings.specs.Table.{same, clamp_of}
use Rattle.settings.specs.Values.{with_number}
use Rattle.settings.proofs.Stores.{set_at, set_apart, set_elsewhere}
use Rattle.settings.proofs.Places.{At, stands_at}
use Rattle.settings.proofs.Rows.{int8_any, uint8_any, uint32_any}
use Rattle.settings.proofs.Ranges.{any_kept, int8_fits, uint8_fits, uint32_fits, clamp_in, in_fits, int16_holds, uint16_holds}
use Rattle.settings.proofs.set.Goals as goal

-- where the id of such a value stands
stands_int8 : (c : goal.In-Int8-place) → At c.args.id c.in-Int8-place.i Int8
stands_int8 c = stands_at c.args.id (sym c.place_of-place.ensures ∙ c.in-Int8-place.is)

pub bounds-s-i : goal.bounds-s-i
bounds-s-i c = (stands_int8 c).below

pub returns-in-Int8-place : goal.returns-in-Int8-place
unfolding with_number same
returns-in-Int8-place c =
    let x = c.in-Int8.x in
    let a = stands_int8 c in
    let f : SFits w8 x = search rules in
    let k = any_kept c.args.id Int8 x a.is (int8_any c.args.id (omega (arith, a.id_is)) (omega (arith, a.id_is, a.below))) (int8_fits x f) in
    rw (c.in-Int8.is, to_z-of_z w8 x f, set_at c.args.s (ParamValue.Int8 x) a refl, k)

-- where the id of such a value stands
stands_uint8 : (c : goal.In-Uint8-place) → At c.args.id c.in-Uint8-place.i Uint8
stands_uint8 c = stands_at c.args.id (sym c.place_of-place.ensures ∙ c.in-Uint8-place.is)

pub bounds-s-i-in-Uint8-place : goal.bounds-s-i-in-Uint8-place
bounds-s-i-in-Uint8-place c = (stands_uint8 c).below

pub returns-in-Uint8-place : goal.returns-in-Uint8-place
unfolding with_number same
returns-in-Uint8-place c =
    let x = c.in-Uint8.x in
    let a = stands_uint8 c in
    let f : Fits w8 x = search rules in
    let k = any_kept c.args.id Uint8 (pos x) a.is (uint8_any c.args.id (omega (arith, a.id_is)) (omega (arith, a.id_is, a.below))) (uint8_fits x f.fits) in
    rw (c.in-Uint8.is, set_at c.args.s (ParamValue.Uint8 x) a refl, k)

-- where the id of such a value stands
stands_uint32 : (c : goal.In-Uint32-place) → At c.args.id c.in-Uint32-place.i Uint32
stands_uint32 c = stands_at c.args.id (sym c.place_of-place.ensures ∙ c.in-Uint32-place.is)

pub bounds-s-i-in-Uint32-place : goal.bounds-s-i-in-Uint32-place
bounds-s-i-in-Uint32-place c = (stands_uint32 c).below

pub offset_bounds-s-i-in-Uint32-place : goal.offset_bounds-s-i-in-Uint32-place
offset_bounds-s-i-in-Uint32-place c = let h = (stands_uint32 c).below in record { fits = omega arith }

pub returns-in-Uint32-place : goal.returns-in-Uint32-place
unfolding with_number same
returns-in-Uint32-place c =
    let x = c.in-Uint32.x in
    let a = stands_uint32 c in
    let f : Fits w32 x = search rules in
    let k = any_kept c.args.id Uint32 (pos x) a.is (uint32_any c.args.id (omega (arith, a.id_is)) (omega (arith, a.id_is, a.below))) (uint32_fits x f.fits) in
    rw (c.in-Uint32.is, set_at c.args.s (ParamValue.Uint32 x) a refl, k)

pub clamped-requires : goal.clamped-requires
clamped-requires c =
    let a : At c.args.id c.in-Int16-place.i Int16 = stands_at c.args.id (sym c.place_of-place.ensures ∙ c.in-Int16-place.is) in
    inl (omega (arith, a.id_is), omega (arith, a.id_is, a.below))

-- what is stored is the number brought into range, which the type holds
pub overflow_cast-s : goal.overflow_cast-s
overflow_cast-s c =
    let a : At c.args.id c.in-Int16-place.i Int16 = stands_at c.args.id (sym c.place_of-place.ensures ∙ c.in-Int16-place.is) in
    let r = c.clamped.result in
    let i = rw (← c.clamped.ensures) at (clamp_in c.args.id (to_z w32 (of_z w32 (to_z w16 (of_z w16 c.in-Int16.x))))) in
    rw (to_z-of_z w32 r (record { sfits = c.clamped.type_inv })) (int16_holds r (in_fits c.args.id Int16 r a.is i))

pub offset_bounds-s-i : goal.offset_bounds-s-i
offset_bounds-s-i c =
    let a : At c.args.id c.in-Int16-place.i Int16 = stands_at c.args.id (sym c.place_of-place.ensures ∙ c.in-Int16-place.is) in
    record { fits = omega (arith, a.below) }

pub bounds-s-i-in-Int16-place : goal.bounds-s-i-in-Int16-place
bounds-s-i-in-Int16-place c =
    let a : At c.args.id c.in-Int16-place.i Int16 = stands_at c.args.id (sym c.place_of-place.ensures ∙ c.in-Int16-place.is) in
    a.below

pub returns-in-Int16-place : goal.returns-in-Int16-place
unfolding with_number same
returns-in-Int16-place c =
    let a : At c.args.id c.in-Int16-place.i Int16 = stands_at c.args.id (sym c.place_of-place.ensures ∙ c.in-Int16-place.is) in
    let x = c.in-Int16.x in
    let r = c.clamped.result in
    let f : SFits w16 x = search rules in
    let g : SFits w32 x = record { sfits = omega (arith, f.sfits) } in
    let h : SFits w32 r = record { sfits = c.clamped.type_inv } in
    let k : clamp_of c.args.id x ≡ r = sym (rw (to_z-of_z w16 x f, to_z-of_z w32 x g) at c.clamped.ensures) in
    let i = rw k at (clamp_in c.args.id x) in
    rw (c.in-Int16.is, to_z-of_z w32 r h, to_z-of_z w16 r (int16_holds r (in_fits c.args.id Int16 r a.is i)), set_at c.args.s (ParamValue.Int16 x) a refl, k)

pub clamped-requires-in-Uint16-place : goal.clamped-requires-in-Uint16-place
clamped-requires-in-Uint16-place c =
    let a : At c.args.id c.in-Uint16-place.i Uint16 = stands_at c.args.id (sym c.place_of-place.ensures ∙ c.in-Uint16-place.is) in
    inr (omega (arith, a.id_is), omega (arith, a.id_is, a.below))

pub overflow_cast-s-in-Uint16-place : goal.overflow_cast-s-in-Uint16-place
overflow_cast-s-in-Uint16-place c =
    let a : At c.args.id c.in-Uint16-place.i Uint16 = stands_at c.args.id (sym c.place_of-place.ensures ∙ c.in-Uint16-place.is) in
    let r = c.clamped-in-Uint16-place.result in
    let i = rw (← c.clamped-in-Uint16-place.ensures) at (clamp_in c.args.id (to_z w32 c.in-Uint16.x)) in
    rw (to_z-of_z w32 r (record { sfits = c.clamped-in-Uint16-place.type_inv })) (uint16_holds r (in_fits c.args.id Uint16 r a.is i))

pub offset_bounds-s-i-in-Uint16-place : goal.offset_bounds-s-i-in-Uint16-place
offset_bounds-s-i-in-Uint16-place c =
    let a : At c.args.id c.in-Uint16-place.i Uint16 = stands_at c.args.id (sym c.place_of-place.ensures ∙ c.in-Uint16-place.is) in
    record { fits = omega (arith, a.below) }

pub bounds-s-i-in-Uint16-place : goal.bounds-s-i-in-Uint16-place
bounds-s-i-in-Uint16-place c =
    let a : At c.args.id c.in-Uint16-place.i Uint16 = stands_at c.args.id (sym c.place_of-place.ensures ∙ c.in-Uint16-place.is) in
    a.below

pub returns-in-Uint16-place : goal.returns-in-Uint16-place
unfolding with_number same
returns-in-Uint16-place c =
    let a : At c.args.id c.in-Uint16-place.i Uint16 = stands_at c.args.id (sym c.place_of-place.ensures ∙ c.in-Uint16-place.is) in
    let x = c.in-Uint16.x in
    let r = c.clamped-in-Uint16-place.result in
    let f : Fits w16 x = search rules in
    let h : SFits w32 r = record { sfits = c.clamped-in-Uint16-place.type_inv } in
    let k : clamp_of c.args.id (pos x) ≡ r = sym (rw (to_z_pos w32 x (omega (arith, f.fits))) at c.clamped-in-Uint16-place.ensures) in
    rw (c.in-Uint16.is, to_z-of_z w32 r h, set_at c.args.s (ParamValue.Uint16 x) a refl, k)

pub returns-in_default-place : goal.returns-in_default-place
returns-in_default-place c = rw c.in-Int8.is (sym (set_apart c.args.s c.args.id (ParamValue.Int8 c.in-Int8.x) (λ i e. c.in_default-place.not-Int8 i (c.place_of-place.ensures ∙ e))))

pub returns-in_default-place-2 : goal.returns-in_default-place-2
returns-in_default-place-2 c = rw c.in-Uint8.is (sym (set_apart c.args.s c.args.id (ParamValue.Uint8 c.in-Uint8.x) (λ i e. c.in_default-place-2.not-Uint8 i (c.place_of-place.ensures ∙ e))))

pub returns-in_default-place-3 : goal.returns-in_default-place-3
returns-in_default-place-3 c = rw c.in-Int16.is (sym (set_apart c.args.s c.args.id (ParamValue.Int16 c.in-Int16.x) (λ i e. c.in_default-place-3.not-Int16 i (c.place_of-place.ensures ∙ e))))

pub returns-in_default-place-4 : goal.returns-in_default-place-4
returns-in_default-place-4 c = rw c.in-Uint16.is (sym (set_apart c.args.s c.args.id (ParamValue.Uint16 c.in-Uint16.x) (λ i e. c.in_default-place-4.not-Uint16 i (c.place_of-place.ensures ∙ e))))

pub returns-in_default-place-5 : goal.returns-in_default-place-5
returns-in_default-place-5 c = rw c.in-Uint32.is (sym (set_apart c.args.s c.args.id (ParamValue.Uint32 c.in-Uint32.x) (λ i e. c.in_default-place-5.not-Uint32 i (c.place_of-place.ensures ∙ e))))

pub returns-in_default : goal.returns-in_default
returns-in_default c =
    let d = c.in_default in
    sym (set_elsewhere c.args.s c.args.id c.args.value d.not-Int8 d.not-Uint8 d.not-Int16 d.not-Uint16 d.not-Uint32)
