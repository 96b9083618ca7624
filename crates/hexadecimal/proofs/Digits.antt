-- Four bits that stand side by side are a digit of the number, and two such digits a byte of it. Assumes nothing.
use Prim.Native.Nat.{ℕ, ◌+◌, ◌*◌, ◌/◌, ◌%◌}
use mathlib.Core.Path.{◌≡◌, ap, sym, ◌∙◌}
use native.Mathlib.Nat.{div-one, div-div-eq-div-mul}
use native.Mathlib.Omega.{arith}
use Rattle.hexadecimal.specs.Hex.{capital_of}

-- a half of a half is a quarter, and so on: with these the remainders by 2 make the one by 16
nibble : (q : ℕ) → 8 * (q / 8 % 2) + 4 * (q / 4 % 2) + 2 * (q / 2 % 2) + q % 2 ≡ q % 16
nibble q =
    let quarter : q / 4 ≡ q / 2 / 2 = sym (div-div-eq-div-mul q 2 2) in
    let eighth : q / 8 ≡ q / 4 / 2 = sym (div-div-eq-div-mul q 4 2) in
    let sixteenth : q / 16 ≡ q / 8 / 2 = sym (div-div-eq-div-mul q 8 2) in
    omega (arith, quarter, eighth, sixteenth)

-- the digits of a byte of q
lower_of : (q : ℕ) → q % 16 ≡ q % 256 % 16
lower_of q = omega arith

upper_of : (q : ℕ) → q / 16 % 256 % 16 ≡ q % 256 / 16
upper_of q = let rest : q / 256 ≡ q / 16 / 16 = sym (div-div-eq-div-mul q 16 16) in omega (arith, rest)

-- the lower digit of the byte whose lowest bit is worth n
pub lower_digit : (x n : ℕ) → 8 * (x / (n * 8) % 2) + 4 * (x / (n * 4) % 2) + 2 * (x / (n * 2) % 2) + x / n % 2 ≡ x / n % 256 % 16
lower_digit x n =
    rw (sym (div-div-eq-div-mul x n 8), sym (div-div-eq-div-mul x n 4), sym (div-div-eq-div-mul x n 2))
    (nibble (x / n) ∙ lower_of (x / n))

-- the upper one
pub upper_digit : (x n : ℕ) → 8 * (x / (n * 16 * 8) % 2) + 4 * (x / (n * 16 * 4) % 2) + 2 * (x / (n * 16 * 2) % 2) + x / (n * 16) % 2 ≡ x / n % 256 / 16
upper_digit x n =
    rw (lower_digit x (n * 16), sym (div-div-eq-div-mul x n 16)) (upper_of (x / n))

-- of the lowest byte
pub last_lower_digit : (x : ℕ) → 8 * (x / 8 % 2) + 4 * (x / 4 % 2) + 2 * (x / 2 % 2) + x / 1 % 2 ≡ x % 256 % 16
last_lower_digit x = lower_digit x 1 ∙ ap (λ (q : ℕ). q % 256 % 16) (div-one x)

pub last_upper_digit : (x : ℕ) → 8 * (x / 128 % 2) + 4 * (x / 64 % 2) + 2 * (x / 32 % 2) + x / 16 % 2 ≡ x % 256 / 16
last_upper_digit x = upper_digit x 1 ∙ ap (λ (q : ℕ). q % 256 / 16) (div-one x)

-- the digit that is written for a number v, which is worth a, is that of w where a is w
pub as_digit : {r a : ℕ} (v w : ℕ) → r ≡ capital_of v → v ≡ a → a ≡ w → r ≡ capital_of w
as_digit v w written worth is = written ∙ ap capital_of (worth ∙ is)
