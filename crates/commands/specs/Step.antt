-- Step 4 of a tick: document 01's table. The first check that applies gives the number, and by it what is returned and
-- left. Assumes nothing: these are definitions.
use Rattle.std.specs.Prelude.{ℕ, ℤ, Ok, Err}
use mathlib.Core.{Bool.Bool, Bool.cond, Bool.not, List.List, Option.Option, Option.none, Option.some}
use Rattle.modes.specs.declared.Limits.{Limits}
use Rattle.command.specs.{Checks.first, Decode.code_of, Decode.Decoded, Decode.decode_of}
use Rattle.state.specs.{Parts.mode_of, declared.parts.Board.Board}
use Rattle.answers.specs.Answers.{answer_of, silent_of, refused_of, not_this_board_of}
use Rattle.answers.specs.{declared.Answer.Answer, declared.Commanded.Commanded}
use Rattle.answers.specs.declared.Answer.TheVariants.{Accepted, FewerThanFourBytes, InStartup, NotThisBoard, CodeNotListed, TooShort, NotAvailable, Wrong}
use Rattle.answers.specs.declared.Outcome.TheVariants.{NoTransfer, Answered}
use Rattle.effects.specs.Effects.{run_of}
use Rattle.asking.specs.Checks.{is_startup, checks_of}

-- the command that a transfer is to a board, and what it does; a transfer that none of the checks refuses is a command,
-- so the second row is not reached
abbrev pub done_of : ℤ → Limits → ℕ → Decoded → Board → Commanded
done_of rail limits code (Ok c) b = run_of rail limits code c b
done_of rail limits code (Err r) b = silent_of (Answered Accepted) b

abbrev pub read_by : Board → List ℕ → Decoded
read_by b s = decode_of b.profile.kind b.profile.bid (is_startup (mode_of b)) s

-- what each answer returns and leaves
unfoldable pub returning : Answer → ℤ → Limits → List ℕ → Board → Commanded
returning Accepted rail limits s b = done_of rail limits (code_of s) (read_by b s) b  -- 0
returning FewerThanFourBytes rail limits s b = silent_of (Answered FewerThanFourBytes) b  -- 1
returning InStartup rail limits s b = silent_of (Answered InStartup) b  -- 2
returning NotThisBoard rail limits s b = not_this_board_of (code_of s) b  -- 3
returning CodeNotListed rail limits s b = refused_of CodeNotListed (code_of s) b  -- 4
returning TooShort rail limits s b = refused_of TooShort (code_of s) b  -- 5
returning NotAvailable rail limits s b = refused_of NotAvailable (code_of s) b  -- 6
returning Wrong rail limits s b = refused_of Wrong (code_of s) b  -- 7

-- a transfer of any length
unfoldable pub transferred_of : ℤ → Limits → List ℕ → Board → Commanded
transferred_of rail limits s b = returning (answer_of (first (checks_of rail limits b s))) rail limits s b

-- no transfer, or one
unfoldable pub commanded_of : ℤ → Limits → Bool → List ℕ → Board → Commanded
commanded_of rail limits sent s b = cond (not sent) (silent_of NoTransfer b) (transferred_of rail limits s b)

-- the number that is told: none where there is no transfer
unfoldable pub number_of : ℤ → Limits → Bool → List ℕ → Board → Option ℕ
number_of rail limits sent s b = cond (not sent) none (some (first (checks_of rail limits b s)))
