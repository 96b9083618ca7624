-- What the mode table and the watchdog read of the settings. Safety low, safety high and the timeout are what 0x4042,
-- 0x4043 and 0x4000 hold, as they stand; the other four are values of Table 3-26. Assumes nothing: these are
-- definitions.
use Rattle.std.specs.Prelude.{ℕ, pos, nat_abs}
use Rattle.settings.specs.Values.{setting_of}
use Rattle.modes.specs.declared.Limits.{Limits}
use Rattle.watchdog.specs.Watchdog.{seconds_in_ticks}
use Rattle.memory.specs.declared.Memory.{Memory}

-- in millivolts
unfoldable pub safety_low : Memory → ℕ
safety_low m = nat_abs (setting_of m.current 0x4042)

unfoldable pub safety_high : Memory → ℕ
safety_high m = nat_abs (setting_of m.current 0x4043)

abbrev pub emergency_low : ℕ
emergency_low = 12000

abbrev pub emergency_high : ℕ
emergency_high = 12400

-- in seconds
unfoldable pub timeout_of : Memory → ℕ
timeout_of m = nat_abs (setting_of m.current 0x4000)

abbrev pub emergency_period : ℕ
emergency_period = 600

abbrev pub linger : ℕ
linger = 60

-- times in ticks; unsigned thresholds by value
unfoldable pub limits_of : Memory → Limits
limits_of m =
    record {
      linger = seconds_in_ticks linger;
      period = seconds_in_ticks emergency_period;
      safety_low = pos (safety_low m);
      safety_high = pos (safety_high m);
      emergency_low = pos emergency_low;
      emergency_high = pos emergency_high;
    }
