-- Each digit is that of the four channels it names. Assumes nothing.
use Prim.Native.Nat.{◌/◌, ◌%◌}
use mathlib.Core.Path.{refl, ap₂}
use mathlib.Core.List.{◌∷◌}
use native.Mathlib.Omega.{arith}
use Rattle.hexadecimal.specs.Hex.{word_text}
use Rattle.hexadecimal.proofs.Digits.{upper_digit, lower_digit, last_upper_digit, last_lower_digit, as_digit}
use Rattle.hexadecimal.proofs.write_word.Goals as goal

pub capital-requires : goal.capital-requires
capital-requires c = omega (arith, c.four.ensures)

pub capital-requires-2 : goal.capital-requires-2
capital-requires-2 c = omega (arith, c.four-2.ensures)

pub capital-requires-3 : goal.capital-requires-3
capital-requires-3 c = omega (arith, c.four-3.ensures)

pub capital-requires-4 : goal.capital-requires-4
capital-requires-4 c = omega (arith, c.four-4.ensures)

pub capital-requires-5 : goal.capital-requires-5
capital-requires-5 c = omega (arith, c.four-5.ensures)

pub capital-requires-6 : goal.capital-requires-6
capital-requires-6 c = omega (arith, c.four-6.ensures)

pub capital-requires-7 : goal.capital-requires-7
capital-requires-7 c = omega (arith, c.four-7.ensures)

pub capital-requires-8 : goal.capital-requires-8
capital-requires-8 c = omega (arith, c.four-8.ensures)

pub returns : goal.returns
unfolding word_text
returns c =
    let x = c.args.x in
    ap₂ ◌∷◌ (as_digit c.four.result (x / 16777216 % 256 / 16) c.capital.ensures c.four.ensures (search (upper_digit x 16777216)))
    (ap₂ ◌∷◌ (as_digit c.four-2.result (x / 16777216 % 256 % 16) c.capital-2.ensures c.four-2.ensures (search (lower_digit x 16777216)))
    (ap₂ ◌∷◌ (as_digit c.four-3.result (x / 65536 % 256 / 16) c.capital-3.ensures c.four-3.ensures (search (upper_digit x 65536)))
    (ap₂ ◌∷◌ (as_digit c.four-4.result (x / 65536 % 256 % 16) c.capital-4.ensures c.four-4.ensures (search (lower_digit x 65536)))
    (ap₂ ◌∷◌ (as_digit c.four-5.result (x / 256 % 256 / 16) c.capital-5.ensures c.four-5.ensures (search (upper_digit x 256)))
    (ap₂ ◌∷◌ (as_digit c.four-6.result (x / 256 % 256 % 16) c.capital-6.ensures c.four-6.ensures (search (lower_digit x 256)))
    (ap₂ ◌∷◌ (as_digit c.four-7.result (x % 256 / 16) c.capital-7.ensures c.four-7.ensures (search (last_upper_digit x)))
    (ap₂ ◌∷◌ (as_digit c.four-8.result (x % 256 % 16) c.capital-8.ensures c.four-8.ensures (search (last_lower_digit x))) refl)))))))
