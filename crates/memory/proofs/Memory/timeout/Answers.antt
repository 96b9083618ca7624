-- What stands at 0x4000. Assumes nothing.
use native.Mathlib.Omega.{arith}
use Rattle.memory.specs.Limits.{timeout_of}
use Rattle.memory.proofs.Laws.{uint16_value}
use Rattle.memory.proofs.Memory.timeout.Goals as goal

pub returns : goal.returns
unfolding timeout_of
returns c = omega (arith, uint16_value c.args.self.current 0 (omega arith))
