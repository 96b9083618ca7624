-- The lines that are left stand from here on just where all of them stand from the first on. Assumes nothing.
use Rattle.std.specs.Prelude.{◌≡◌, ◌-◌, length}
use Rattle.sheet.specs.Answers.{are_ticks}
use Rattle.sheet.proofs.whole.are_ticks.Given as goal

abbrev pub invariant-loop-k : goal.invariant-loop-k
invariant-loop-k l = (length l.transfer ≡ 256) × (are_ticks (l.count - l.k) l.s l.at ≡ are_ticks l.count l.s l.first)
