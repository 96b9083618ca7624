-- Too short exactly where the type asks for more bytes; else each arm reads its type's number.
use mathlib.Core.Path.{◌≡◌, sym, ap, ◌∙◌}
use native.Mathlib.Omega.{arith}
use mir.Syntax.{w8, w16, w32, w64}
use mir.Val.{SFits, to_z, of_z}
use mir.ValLaws.{to_z-of_z}
use borrow.Author.Rules.{rules}
use Rattle.wire.specs.Numbers.{number, signed}
use Rattle.value.proofs.Reading.{too_short, long_enough, with_value_number, floating, float_value, double_value}
use Rattle.value.specs.declared.ParamValue.{ParamValue}
use Rattle.value.specs.Types.{width}
use Rattle.value.specs.Values.{value_of}
use Rattle.value.specs.declared.ValueType.{ValueType}
use Rattle.value.proofs.read.Goals as goal

pub returns-then-s-width : goal.returns-then-s-width
returns-then-s-width c = with_value_number c.args.t c.args.s.now (sym (too_short c.args.t c.args.s.now (omega (arith, c.width.ensures))))

pub returns-in-Int8 : goal.returns-in-Int8
unfolding width value_of
returns-in-Int8 c =
    let s = c.args.s.now in
    let r = c.read_at.result in
    let f : SFits w8 r = search rules in
    let e : to_z w8 (of_z w8 r) ≡ signed 1 (number 1 s) = to_z-of_z w8 r f ∙ c.read_at.ensures in
    with_value_number c.args.t s (rw e (sym (long_enough c.args.t ValueType.Int8 s c.in-Int8.is (omega (arith, c.width.ensures)))))

pub returns-in-Uint8 : goal.returns-in-Uint8
unfolding width value_of
returns-in-Uint8 c =
    let s = c.args.s.now in
    let e : c.read_at-in-Uint8.result ≡ number 1 s = c.read_at-in-Uint8.ensures in
    with_value_number c.args.t s (rw e (sym (long_enough c.args.t ValueType.Uint8 s c.in-Uint8.is (omega (arith, c.width.ensures)))))

pub returns-in-Int16 : goal.returns-in-Int16
unfolding width value_of
returns-in-Int16 c =
    let s = c.args.s.now in
    let r = c.read_at-in-Int16.result in
    let f : SFits w16 r = search rules in
    let e : to_z w16 (of_z w16 r) ≡ signed 2 (number 2 s) = to_z-of_z w16 r f ∙ c.read_at-in-Int16.ensures in
    with_value_number c.args.t s (rw e (sym (long_enough c.args.t ValueType.Int16 s c.in-Int16.is (omega (arith, c.width.ensures)))))

pub returns-in-Uint16 : goal.returns-in-Uint16
unfolding width value_of
returns-in-Uint16 c =
    let s = c.args.s.now in
    let e : c.read_at-in-Uint16.result ≡ number 2 s = c.read_at-in-Uint16.ensures in
    with_value_number c.args.t s (rw e (sym (long_enough c.args.t ValueType.Uint16 s c.in-Uint16.is (omega (arith, c.width.ensures)))))

pub returns-in-Int32 : goal.returns-in-Int32
unfolding width value_of
returns-in-Int32 c =
    let s = c.args.s.now in
    let r = c.read_at-in-Int32.result in
    let f : SFits w32 r = search rules in
    let e : to_z w32 (of_z w32 r) ≡ signed 4 (number 4 s) = to_z-of_z w32 r f ∙ c.read_at-in-Int32.ensures in
    with_value_number c.args.t s (rw e (sym (long_enough c.args.t ValueType.Int32 s c.in-Int32.is (omega (arith, c.width.ensures)))))

pub returns-in-Uint32 : goal.returns-in-Uint32
unfolding width value_of
returns-in-Uint32 c =
    let s = c.args.s.now in
    let e : c.read_at-in-Uint32.result ≡ number 4 s = c.read_at-in-Uint32.ensures in
    with_value_number c.args.t s (rw e (sym (long_enough c.args.t ValueType.Uint32 s c.in-Uint32.is (omega (arith, c.width.ensures)))))

pub returns-in-Int64 : goal.returns-in-Int64
unfolding width value_of
returns-in-Int64 c =
    let s = c.args.s.now in
    let r = c.read_at-in-Int64.result in
    let f : SFits w64 r = search rules in
    let e : to_z w64 (of_z w64 r) ≡ signed 8 (number 8 s) = to_z-of_z w64 r f ∙ c.read_at-in-Int64.ensures in
    with_value_number c.args.t s (rw e (sym (long_enough c.args.t ValueType.Int64 s c.in-Int64.is (omega (arith, c.width.ensures)))))

pub returns-in-Uint64 : goal.returns-in-Uint64
unfolding width value_of
returns-in-Uint64 c =
    let s = c.args.s.now in
    let e : c.read_at-in-Uint64.result ≡ number 8 s = c.read_at-in-Uint64.ensures in
    with_value_number c.args.t s (rw e (sym (long_enough c.args.t ValueType.Uint64 s c.in-Uint64.is (omega (arith, c.width.ensures)))))

pub returns-in-Some : goal.returns-in-Some
unfolding width
returns-in-Some c =
    let s = c.args.s.now in
    with_value_number c.args.t s (
    ap (floating ParamValue.Float) (sym c.in-Some.is ∙ c.float_of32.ensures)
    ∙ float_value c.read_at-in-Float.result
    ∙ ap (value_of ValueType.Float) c.read_at-in-Float.ensures
    ∙ sym (long_enough c.args.t ValueType.Float s c.in-Float.is (omega (arith, c.width.ensures)))
    )

pub returns-in-None : goal.returns-in-None
unfolding width
returns-in-None c =
    let s = c.args.s.now in
    with_value_number c.args.t s (
    ap (floating ParamValue.Float) (sym c.in-None.is ∙ c.float_of32.ensures)
    ∙ float_value c.read_at-in-Float.result
    ∙ ap (value_of ValueType.Float) c.read_at-in-Float.ensures
    ∙ sym (long_enough c.args.t ValueType.Float s c.in-Float.is (omega (arith, c.width.ensures)))
    )

pub returns-in-Some-float_of64 : goal.returns-in-Some-float_of64
unfolding width
returns-in-Some-float_of64 c =
    let s = c.args.s.now in
    with_value_number c.args.t s (
    ap (floating ParamValue.Double) (sym c.in-Some-float_of64.is ∙ c.float_of64.ensures)
    ∙ double_value c.read_at-in-Double.result
    ∙ ap (value_of ValueType.Double) c.read_at-in-Double.ensures
    ∙ sym (long_enough c.args.t ValueType.Double s c.in-Double.is (omega (arith, c.width.ensures)))
    )

pub returns-in-None-float_of64 : goal.returns-in-None-float_of64
unfolding width
returns-in-None-float_of64 c =
    let s = c.args.s.now in
    with_value_number c.args.t s (
    ap (floating ParamValue.Double) (sym c.in-None-float_of64.is ∙ c.float_of64.ensures)
    ∙ double_value c.read_at-in-Double.result
    ∙ ap (value_of ValueType.Double) c.read_at-in-Double.ensures
    ∙ sym (long_enough c.args.t ValueType.Double s c.in-Double.is (omega (arith, c.width.ensures)))
    )
