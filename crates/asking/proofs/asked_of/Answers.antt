-- Whether there is a transfer, and then what the decoder finds; the number is that of the answer.
use mathlib.Core.Path.{sym, ap, ◌∙◌}
use Rattle.asking.specs.Sent.{is_sent, bytes_sent}
use Rattle.asking.specs.Asked.{asked_of, asked_number}
use Rattle.asking.proofs.Numbers.{numbered}
use Rattle.asking.proofs.asked_of.Goals as goal

pub returns-in_default-clause-value : goal.returns-in_default-clause-value
unfolding asked_of
returns-in_default-clause-value c = rw c.in_default.is

pub returns-in-Ok-clause-value : goal.returns-in-Ok-clause-value
unfolding asked_of
returns-in-Ok-clause-value c = rw (c.in-Some.is, ← c.is_startup.ensures, sym c.decode.ensures.value, c.in-Ok.is)

pub returns-in-Err-clause-value : goal.returns-in-Err-clause-value
unfolding asked_of
returns-in-Err-clause-value c = rw (c.in-Some.is, ← c.is_startup.ensures, sym c.decode.ensures.value, c.in-Err.is, c.refused_by.ensures)

pub returns-in_default-clause-number : goal.returns-in_default-clause-number
returns-in_default-clause-number c =
    ap asked_number (returns-in_default-clause-value c) ∙ numbered c.args.kind c.args.bid c.args.mode (is_sent c.args.transfer) (bytes_sent c.args.transfer)

pub returns-in-Ok-clause-number : goal.returns-in-Ok-clause-number
returns-in-Ok-clause-number c =
    ap asked_number (returns-in-Ok-clause-value c) ∙ numbered c.args.kind c.args.bid c.args.mode (is_sent c.args.transfer) (bytes_sent c.args.transfer)

pub returns-in-Err-clause-number : goal.returns-in-Err-clause-number
returns-in-Err-clause-number c =
    ap asked_number (returns-in-Err-clause-value c) ∙ numbered c.args.kind c.args.bid c.args.mode (is_sent c.args.transfer) (bytes_sent c.args.transfer)
