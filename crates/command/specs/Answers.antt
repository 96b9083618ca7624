-- Document 01's number for each answer of this crate; 0 is no refusal. Assumes nothing: these are definitions.
use Rattle.std.specs.Prelude.{ℕ, Ok, Err}
use Rattle.command.specs.{Decode.Decoded, declared.Refusal.Refusal}
use Rattle.command.specs.declared.Refusal.TheVariants.{FewerThanFourBytes, InStartup, NotThisBoard, CodeNotListed, TooShort, WrongKey, WrongParameter, NotANumber}

abbrev pub refusal_number : Refusal → ℕ
refusal_number FewerThanFourBytes = 1
refusal_number InStartup = 2
refusal_number NotThisBoard = 3
refusal_number CodeNotListed = 4
refusal_number TooShort = 5
refusal_number WrongKey = 7
refusal_number WrongParameter = 7
refusal_number NotANumber = 7

abbrev pub decoded_number : Decoded → ℕ
decoded_number (Ok command) = 0
decoded_number (Err refusal) = refusal_number refusal
