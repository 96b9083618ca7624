-- The timer value of the peripheral report, for a private function's contract. Assumes nothing: these are definitions.
use Rattle.std.specs.Prelude.{ℕ, ◌+◌, ◌*◌, ◌≤◌, ◌<◌}

-- 65 hundredths of the timeout are reached at r and were not one tick before
pub record ReportAt (w r : ℕ) : Type 0 where
  pub reached : 65 * w ≤ 100 * r
  pub only_now : 100 * r < 65 * w + 100
