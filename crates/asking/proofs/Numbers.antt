-- What is asked has the number of the decoder's answer. Assumes nothing.
use Prim.Native.Nat.{ℕ}
use mathlib.Core.Path.{◌≡◌, refl, ap, ◌∙◌}
use mathlib.Core.Bool.{Bool, true, false}
use mathlib.Core.List.{List}
use mathlib.Core.Option.{some}
use Rattle.std.specs.Prelude.{Ok, Err}
use Rattle.kinds.specs.declared.Kind.{Kind}
use Rattle.modes.specs.declared.Mode.{Mode}
use Rattle.command.specs.Answers.{refusal_number, decoded_number}
use Rattle.command.specs.Decode.{Decoded, decode_of}
use Rattle.command.specs.declared.Refusal.{Refusal}
use Rattle.command.proofs.Laws.{first_check}
use Rattle.asking.specs.Asked.{refused_by, asked_by, asked_number, asked_of, number_asked}
use Rattle.asking.specs.Checks.{is_startup}

refused_number : (r : Refusal) → asked_number (refused_by r) ≡ some (refusal_number r)
refused_number Refusal.FewerThanFourBytes = refl
refused_number Refusal.InStartup = refl
refused_number Refusal.NotThisBoard = refl
refused_number Refusal.CodeNotListed = refl
refused_number Refusal.TooShort = refl
refused_number Refusal.WrongKey = refl
refused_number Refusal.WrongParameter = refl
refused_number Refusal.NotANumber = refl

asked_number_lem : (d : Decoded) → asked_number (asked_by d) ≡ some (decoded_number d)
asked_number_lem (Ok c) = refl
asked_number_lem (Err r) = refused_number r

pub numbered : (kind : Kind) (bid : ℕ) (mode : Mode) (sent : Bool) (s : List ℕ) → asked_number (asked_of kind bid mode sent s) ≡ number_asked kind bid mode sent s
unfolding asked_of number_asked
numbered kind bid mode true s = asked_number_lem (decode_of kind bid (is_startup mode) s) ∙ ap some (first_check kind bid (is_startup mode) s)
numbered kind bid mode false s = refl
