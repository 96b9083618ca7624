-- What a transfer asks of a board, by the decoder's checks: nothing, with what is told instead; a refusal; or a command
-- to run, which its own checks may still refuse. Assumes nothing: these are definitions.
use Rattle.std.specs.Prelude.{ℕ, Ok, Err}
use mathlib.Core.{Bool.Bool, Bool.cond, Bool.not, List.List, Option.Option, Option.none, Option.some}
use Rattle.kinds.specs.declared.Kind.{Kind}
use Rattle.modes.specs.declared.Mode.{Mode}
use Rattle.command.specs.{Decode.Decoded, Decode.decode_of, Checks.first, Checks.mode_alone, Checks.checks}
use Rattle.command.specs.declared.Refusal as refusal
use Rattle.answers.specs.{Answers.answer_number, Answers.told_number, declared.Answer.Answer}
use Rattle.answers.specs.declared.Outcome.TheVariants.{NoTransfer, Answered}
use Rattle.asking.specs.{Checks.is_startup, declared.Asked.Asked}
use Rattle.asking.specs.declared.Asked.TheVariants.{Silence, Refusal, Run}

-- what the decoder refuses, by its number
abbrev pub refused_by : refusal.Refusal → Asked
refused_by refusal.Refusal.FewerThanFourBytes = Silence (Answered Answer.FewerThanFourBytes)  -- 1
refused_by refusal.Refusal.InStartup = Silence (Answered Answer.InStartup)  -- 2
refused_by refusal.Refusal.NotThisBoard = Refusal Answer.NotThisBoard  -- 3
refused_by refusal.Refusal.CodeNotListed = Refusal Answer.CodeNotListed  -- 4
refused_by refusal.Refusal.TooShort = Refusal Answer.TooShort  -- 5
refused_by refusal.Refusal.WrongKey = Refusal Answer.Wrong  -- 7
refused_by refusal.Refusal.WrongParameter = Refusal Answer.Wrong  -- 7
refused_by refusal.Refusal.NotANumber = Refusal Answer.Wrong  -- 7

abbrev pub asked_by : Decoded → Asked
asked_by (Ok c) = Run c
asked_by (Err r) = refused_by r

-- the number so far: that of the decoder's answer, and none where there is no transfer
abbrev pub asked_number : Asked → Option ℕ
asked_number (Silence outcome) = told_number outcome
asked_number (Refusal answer) = some (answer_number answer)
asked_number (Run c) = some 0

unfoldable pub asked_of : Kind → ℕ → Mode → Bool → List ℕ → Asked
asked_of kind bid mode sent s = cond (not sent) (Silence NoTransfer) (asked_by (decode_of kind bid (is_startup mode) s))

-- the first check of the table that applies, with the mode alone
unfoldable pub number_asked : Kind → ℕ → Mode → Bool → List ℕ → Option ℕ
number_asked kind bid mode sent s = cond (not sent) none (some (first (checks kind bid (mode_alone (is_startup mode)) s)))
