-- Which number is told of a payload in ASCII form: that of hexadecimal's read of it. Assumes nothing.
use Prim.Native.Nat.{ℕ}
use mathlib.Core.Path.{◌≡◌, refl, ◌∙◌}
use mathlib.Core.List.{List}
use Rattle.std.specs.Prelude.{Result, Ok, Err}
use Rattle.hexadecimal.specs.Hex.{payload_of, read_of}
use Rattle.hexadecimal.specs.Answers as hex
use Rattle.hexadecimal.specs.declared.PayloadRefusal.{PayloadRefusal}
use Rattle.hexadecimal.proofs.Numbers.{payload_number_lem}
use Rattle.reading.specs.Lines.{spelt, ascii_line}
use Rattle.reading.specs.Answers.{line_number}

module _ (behind : ℕ) (payload : List ℕ) (room : ℕ) where
  spelt_number_lem : (o : Result ℕ PayloadRefusal) → line_number (spelt behind o) ≡ hex.read_number o
  spelt_number_lem (Ok n) = refl
  spelt_number_lem (Err PayloadRefusal.NotOfForm) = refl
  spelt_number_lem (Err PayloadRefusal.TooShort) = refl

  pub ascii_number : line_number (ascii_line behind payload room) ≡ hex.payload_number payload room
  unfolding ascii_line
  ascii_number = spelt_number_lem (read_of (payload_of payload) room) ∙ payload_number_lem payload room
