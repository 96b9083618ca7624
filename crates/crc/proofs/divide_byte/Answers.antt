-- Eight bits, one after the other. Assumes nothing.
use Rattle.crc.specs.Division.{along_bits}
use Rattle.crc.proofs.divide_byte.Goals as goal

pub returns : goal.returns
unfolding along_bits
returns c =
    rw (
      c.divide_bit.ensures,
      c.divide_bit-left-7.ensures,
      c.divide_bit-left-6.ensures,
      c.divide_bit-left-5.ensures,
      c.divide_bit-left-4.ensures,
      c.divide_bit-left-3.ensures,
      c.divide_bit-left-2.ensures,
      c.divide_bit-left.ensures,
    )
