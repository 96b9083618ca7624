-- The number is that of the answer. Assumes nothing.
use Rattle.std.proofs.Common.{arith, length}
use Rattle.sheet.specs.Form.{any_tick_line}
use Rattle.sheet.proofs.Parts.{text_one}
use Rattle.sheet.proofs.Lines.{tick_number_lem}
use Rattle.sheet.proofs.ticks.read_tick.Goals as goal

pub returns-in_err-rail-clause-number : goal.returns-in_err-rail-clause-number
unfolding any_tick_line
returns-in_err-rail-clause-number c = rw (← tick_number_lem (length c.args.transfer.now) c.args.s.now c.args.at) (grind (arith, text_one))

pub returns-in_err-set_at-clause-number : goal.returns-in_err-set_at-clause-number
unfolding any_tick_line
returns-in_err-set_at-clause-number c = rw (← tick_number_lem (length c.args.transfer.now) c.args.s.now c.args.at) (grind (arith, text_one))

pub returns-in_err-overcurrent-clause-number : goal.returns-in_err-overcurrent-clause-number
unfolding any_tick_line
returns-in_err-overcurrent-clause-number c = rw (← tick_number_lem (length c.args.transfer.now) c.args.s.now c.args.at) (grind (arith, text_one))

pub returns-in_err-command_at-clause-number : goal.returns-in_err-command_at-clause-number
unfolding any_tick_line
returns-in_err-command_at-clause-number c = rw (← tick_number_lem (length c.args.transfer.now) c.args.s.now c.args.at) (grind (arith, text_one))

pub returns-in_err-command-clause-number : goal.returns-in_err-command-clause-number
unfolding any_tick_line
returns-in_err-command-clause-number c = rw (← tick_number_lem (length c.args.transfer.now) c.args.s.now c.args.at) (grind (arith, text_one))

pub returns-clause-number : goal.returns-clause-number
unfolding any_tick_line
returns-clause-number c = rw (← tick_number_lem (length c.args.transfer.now) c.args.s.now c.args.at) (grind (arith, text_one))
