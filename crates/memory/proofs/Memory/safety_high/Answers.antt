-- What stands at 0x4043. Assumes nothing.
use native.Mathlib.Omega.{arith}
use Rattle.memory.specs.Limits.{safety_high}
use Rattle.memory.proofs.Laws.{uint16_value}
use Rattle.memory.proofs.Memory.safety_high.Goals as goal

pub returns : goal.returns
unfolding safety_high
returns c = omega (arith, uint16_value c.args.self.current 0x43 (omega arith))
