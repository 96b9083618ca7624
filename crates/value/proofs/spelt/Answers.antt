-- A signed number's pattern is what the language takes it for.
use borrow.Author.Rules.{rules}
use mir.Val.{SFits}
use mir.Syntax.{w8, w16, w32, w64}
use Rattle.wire.proofs.TwosComplement.{taken_unsigned}
use Rattle.value.specs.Types.{width}
use Rattle.value.specs.Values.{spelt}
use Rattle.value.proofs.spelt.Goals as goal

pub returns-in-Int8 : goal.returns-in-Int8
unfolding width spelt
returns-in-Int8 c =
    let f : SFits w8 c.in-Int8.x = search rules in
    rw c.in-Int8.is (taken_unsigned w8 c.in-Int8.x c.cast_unsigned.result f c.cast_unsigned.ensures, c.cast_unsigned.type_inv)

pub returns-in-Int16 : goal.returns-in-Int16
unfolding width spelt
returns-in-Int16 c =
    let f : SFits w16 c.in-Int16.x = search rules in
    rw c.in-Int16.is (taken_unsigned w16 c.in-Int16.x c.cast_unsigned-in-Int16.result f c.cast_unsigned-in-Int16.ensures, c.cast_unsigned-in-Int16.type_inv)

pub returns-in-Int32 : goal.returns-in-Int32
unfolding width spelt
returns-in-Int32 c =
    let f : SFits w32 c.in-Int32.x = search rules in
    rw c.in-Int32.is (taken_unsigned w32 c.in-Int32.x c.cast_unsigned-in-Int32.result f c.cast_unsigned-in-Int32.ensures, c.cast_unsigned-in-Int32.type_inv)

pub returns-in-Int64 : goal.returns-in-Int64
unfolding width spelt
returns-in-Int64 c =
    let f : SFits w64 c.in-Int64.x = search rules in
    rw c.in-Int64.is (taken_unsigned w64 c.in-Int64.x c.cast_unsigned-in-Int64.result f c.cast_unsigned-in-Int64.ensures, c.cast_unsigned-in-Int64.type_inv)
