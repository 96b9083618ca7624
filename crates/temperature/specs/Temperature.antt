-- The temperature of a battery pack at a raw code, in hundredths of a degree: the fifth-degree line of Table 3-13 (ICD
-- page 23) to the nearest whole number, halves away from zero, held to the ends of int16. `pos n` is the integer n.
-- Assumes nothing: these are definitions.
use Rattle.std.specs.Prelude.{ℕ, ◌*◌, ◌^◌, min, List, [], ◌∷◌, ℤ, pos, neg_ℤ, ◌+ℤ◌, ◌*ℤ◌, length}
use Rattle.rounding.specs.Rounding.{nearest, held}

abbrev pub minus : ℕ → ℤ
minus n = neg_ℤ (pos n)

-- ---- the line, as the page has it
-- y = -2.7639336690E-14 x^5 + 2.1730661079E-10 x^4 - 6.8793650476E-07 x^3 + 1.0990992164E-03 x^2 - 9.2772286526E-01 x
-- + 3.7552963972E+02: the coefficients from that of x^5 on, each times 10^24, so that all are whole
unfoldable pub coefficients : List ℤ
coefficients =
    minus 27639336690
    ∷ pos (21730661079 * 10 ^ 4)
    ∷ minus (68793650476 * 10 ^ 7)
    ∷ pos (10990992164 * 10 ^ 11)
    ∷ minus (92772286526 * 10 ^ 13)
    ∷ pos (37552963972 * 10 ^ 16)
    ∷ []

-- each coefficient times that power of x which is as high as there are coefficients behind it
unfoldable pub polynomial : List ℤ → ℕ → ℤ
polynomial [] x = pos 0
polynomial (c ∷ cs) x = (c *ℤ pos (x ^ length cs)) +ℤ polynomial cs x

-- y at the code x, times 10^24; on that scale a hundredth of a degree is 10^22
unfoldable pub line_at : ℕ → ℤ
line_at x = polynomial coefficients x

abbrev pub hundredth : ℕ
hundredth = 10 ^ 22

-- ---- the table's entry for a code: the nearest hundredth, halves away from zero, held to the ends of int16
unfoldable pub entry_of : ℕ → ℤ
entry_of x = held (nearest (line_at x) hundredth)

-- a code above 4095 uses entry 4095
unfoldable pub temperature_of : ℕ → ℤ
temperature_of code = entry_of (min code 4095)
