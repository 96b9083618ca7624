-- The number is that of the answer. Assumes nothing.
use Rattle.std.proofs.Common.{rules}
use Rattle.hexadecimal.specs.Hex.{word_of}
use Rattle.hexadecimal.proofs.Numbers.{word_number_lem}
use Rattle.hexadecimal.proofs.read_word.Goals as goal

pub returns-then-text-ne8-clause-number : goal.returns-then-text-ne8-clause-number
unfolding word_of
returns-then-text-ne8-clause-number c = rw (← word_number_lem c.args.text.now) (search rules)

pub returns-clause-number : goal.returns-clause-number
unfolding word_of
returns-clause-number c = rw (← word_number_lem c.args.text.now) (search rules)
