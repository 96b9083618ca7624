-- The length and the mode, then the header, then the list of codes, and behind them what the table says of the code; the
-- number is that of the first check, since the answer is the decoder's.
use mathlib.Core.Path.{ap, ◌∙◌}
use Rattle.std.proofs.Common.{arith}
use Rattle.std.proofs.lemmas.Grind.{common_steps}
use Rattle.command.specs.Decode.{decode_of}
use Rattle.command.specs.Answers.{decoded_number}
use Rattle.command.proofs.Laws.{first_check}
use Rattle.command.proofs.decode.Goals as goal

pub returns-then-short-clause-value : goal.returns-then-short-clause-value
unfolding decode_of
returns-then-short-clause-value c = grind (arith, common_steps)

pub returns-then-in_startup-clause-value : goal.returns-then-in_startup-clause-value
unfolding decode_of
returns-then-in_startup-clause-value c = grind (arith, common_steps)

pub returns-then-not-ours-clause-value : goal.returns-then-not-ours-clause-value
unfolding decode_of
returns-then-not-ours-clause-value c = grind (arith, common_steps)

pub returns-then-not-listed-clause-value : goal.returns-then-not-listed-clause-value
unfolding decode_of
returns-then-not-listed-clause-value c = grind (arith, common_steps)

pub returns-clause-value : goal.returns-clause-value
unfolding decode_of
returns-clause-value c = grind (arith, common_steps)

pub returns-then-short-clause-number : goal.returns-then-short-clause-number
returns-then-short-clause-number c = ap decoded_number (returns-then-short-clause-value c) ∙ first_check c.args.kind c.args.bid c.args.in_startup c.args.transfer.now

pub returns-then-in_startup-clause-number : goal.returns-then-in_startup-clause-number
returns-then-in_startup-clause-number c = ap decoded_number (returns-then-in_startup-clause-value c) ∙ first_check c.args.kind c.args.bid c.args.in_startup c.args.transfer.now

pub returns-then-not-ours-clause-number : goal.returns-then-not-ours-clause-number
returns-then-not-ours-clause-number c = ap decoded_number (returns-then-not-ours-clause-value c) ∙ first_check c.args.kind c.args.bid c.args.in_startup c.args.transfer.now

pub returns-then-not-listed-clause-number : goal.returns-then-not-listed-clause-number
returns-then-not-listed-clause-number c = ap decoded_number (returns-then-not-listed-clause-value c) ∙ first_check c.args.kind c.args.bid c.args.in_startup c.args.transfer.now

pub returns-clause-number : goal.returns-clause-number
returns-clause-number c = ap decoded_number (returns-clause-value c) ∙ first_check c.args.kind c.args.bid c.args.in_startup c.args.transfer.now
