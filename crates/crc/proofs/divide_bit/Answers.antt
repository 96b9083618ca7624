-- The bit that leaves the remainder meets the message's bit: where they are the same nothing is taken off, else the
-- divisor is. Assumes nothing.
use Prim.Native.Nat.{◌*◌, ◌/◌, ◌%◌}
use mathlib.Core.Path.{sym}
use native.Mathlib.Omega.{arith}
use Rattle.crc.proofs.Turn.{kept, taken_off}
use Rattle.crc.proofs.divide_bit.Goals as goal

pub returns-then-left-bit : goal.returns-then-left-bit
returns-then-left-bit c =
    let left = c.args.left in
    sym (kept left c.args.bit (left / 32768) (left % 32768 * 2) (omega arith) (omega arith) (omega arith))

pub returns : goal.returns
returns c =
    let left = c.args.left in
    sym (taken_off left c.args.bit (left / 32768) (left % 32768 * 2) (omega arith) (omega arith) (omega arith) (omega arith) (λ e. omega arith))
