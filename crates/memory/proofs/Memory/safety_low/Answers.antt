-- What stands at 0x4042. Assumes nothing.
use native.Mathlib.Omega.{arith}
use Rattle.memory.specs.Limits.{safety_low}
use Rattle.memory.proofs.Laws.{uint16_value}
use Rattle.memory.proofs.Memory.safety_low.Goals as goal

pub returns : goal.returns
unfolding safety_low
returns c = omega (arith, uint16_value c.args.self.current 0x42 (omega arith))
