-- The number is that of the answer. Assumes nothing.
use Rattle.std.proofs.Common.{rules, length, arith}
use Rattle.std.proofs.Common.{◌∙◌}
use borrow.Author.Tests.{le-leb}
use Rattle.laws.proofs.Lists.{sets_front}
use Rattle.hexadecimal.specs.Passes.{values}
use Rattle.hexadecimal.proofs.Reading.{known_pairs}
use Rattle.hexadecimal.proofs.Numbers.{payload_number_lem}
use Rattle.hexadecimal.proofs.read.Goals as goal

pub returns-in_err-n-clause-number : goal.returns-in_err-n-clause-number
returns-in_err-n-clause-number c = rw (← payload_number_lem c.args.text.now (length c.args.out.now)) (search rules)

pub returns-then-out-n-clause-number : goal.returns-then-out-n-clause-number
returns-then-out-n-clause-number c = rw (← payload_number_lem c.args.text.now (length c.args.out.now)) (search rules)

pub returns-clause-held : goal.returns-clause-held
returns-clause-held c =
    let k = known_pairs c.args.text.now c.in_ok-n.n (search rules) in
    rw (k.0, le-leb (length (values c.args.text.now)) (length c.args.out.now) (omega arith)) (c.fill.ensures ∙ sets_front c.args.out.now (values c.args.text.now) (omega arith))

pub returns-clause-number : goal.returns-clause-number
returns-clause-number c = rw (← payload_number_lem c.args.text.now (length c.args.out.now)) (search rules)
