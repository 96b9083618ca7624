-- Temperatures worked out: the ends of the table, the first entry that is not held and the one before it, a warm and a
-- cold pack, and a code above the table; and the line at 1 with all its decimals, by which a last digit of a
-- coefficient shows that moves no entry. Assumes nothing.
use mathlib.Core.Path.{◌≡◌, refl}
use mathlib.Core.List.{[], ◌∷◌, map}
use lib.IntN.{pos}
use Rattle.rounding.specs.Rounding.{nearest, held}
use Rattle.temperature.specs.Temperature.{minus, coefficients, polynomial, line_at, entry_of, temperature_of}

pub as_worked_out : map temperature_of (0 ∷ 55 ∷ 56 ∷ 2000 ∷ 3000 ∷ 4095 ∷ 65535 ∷ [])
    ≡ pos 32767 ∷ pos 32767 ∷ pos 32691 ∷ pos 544 ∷ minus 20455 ∷ minus 32768 ∷ minus 32768 ∷ []
unfolding temperature_of entry_of line_at polynomial coefficients nearest held
as_worked_out = refl

pub line_worked_out : line_at 1 ≡ pos 374_603015266237174211453310
unfolding line_at polynomial coefficients
line_worked_out = refl
