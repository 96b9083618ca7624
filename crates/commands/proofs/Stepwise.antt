-- The command step as the code goes through it: the decoder's checks, and then those of the command itself. Assumes
-- nothing: these are definitions, and `Told` shows that they are the step.
use Prim.Native.Nat.{ℕ}
use mathlib.Core.List.{List}
use lib.IntN.{ℤ}
use Rattle.std.specs.Prelude.{Ok, Err}
use Rattle.modes.specs.declared.Limits.{Limits}
use Rattle.command.specs.Decode.{Decoded, code_of}
use Rattle.command.specs.declared.Refusal.{Refusal}
use Rattle.state.specs.declared.parts.Board.{Board}
use Rattle.answers.specs.Answers.{silent_of, refused_of, not_this_board_of}
use Rattle.answers.specs.declared.Answer.{Answer}
use Rattle.answers.specs.declared.Outcome.TheVariants.{Answered}
use Rattle.answers.specs.declared.Commanded.{Commanded}
use Rattle.effects.specs.Effects.{run_of}
use Rattle.commands.specs.Step.{read_by}

-- what the decoder refuses
unfoldable pub turned_down : ℕ → Refusal → Board → Commanded
turned_down code Refusal.FewerThanFourBytes b = silent_of (Answered Answer.FewerThanFourBytes) b
turned_down code Refusal.InStartup b = silent_of (Answered Answer.InStartup) b
turned_down code Refusal.NotThisBoard b = not_this_board_of code b
turned_down code Refusal.CodeNotListed b = refused_of Answer.CodeNotListed code b
turned_down code Refusal.TooShort b = refused_of Answer.TooShort code b
turned_down code Refusal.WrongKey b = refused_of Answer.Wrong code b
turned_down code Refusal.WrongParameter b = refused_of Answer.Wrong code b
turned_down code Refusal.NotANumber b = refused_of Answer.Wrong code b

unfoldable pub decoded_of : ℤ → Limits → ℕ → Decoded → Board → Commanded
decoded_of rail limits code (Ok c) b = run_of rail limits code c b
decoded_of rail limits code (Err r) b = turned_down code r b

-- a transfer
unfoldable pub stepped_of : ℤ → Limits → List ℕ → Board → Commanded
stepped_of rail limits s b = decoded_of rail limits (code_of s) (read_by b s) b
