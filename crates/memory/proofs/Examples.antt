-- What the mode table and the watchdog read of the defaults, worked out. Assumes nothing.
use mathlib.Core.Path.{◌≡◌, refl}
use lib.IntN.{pos}
use Rattle.kinds.specs.declared.Kind.{Kind}
use Rattle.settings.specs.Table.{lies, row_of, find, read_write_rows, read_only_rows, parameter_of, column, default_of, clamp_of, at_least, at_most, low_of, high_of}
use Rattle.settings.specs.Values.{setting_of, defaults_of, default_n}
use Rattle.watchdog.specs.Watchdog.{seconds_in_ticks}
use Rattle.memory.specs.Memory.{empty_store, with_defaults}
use Rattle.memory.specs.Limits.{safety_low, safety_high, timeout_of, limits_of}

pub default_limits : (kind : Kind)
    → limits_of (with_defaults kind empty_store) ≡ record { linger = 6000; period = 60000; safety_low = pos 12400; safety_high = pos 14000; emergency_low = pos 12000; emergency_high = pos 12400 }
unfolding limits_of safety_low safety_high setting_of parameter_of row_of find read_write_rows read_only_rows lies defaults_of default_n column default_of clamp_of at_least at_most low_of high_of
default_limits kind = refl

pub default_timeout : (kind : Kind) → seconds_in_ticks (timeout_of (with_defaults kind empty_store)) ≡ 30000
unfolding timeout_of setting_of parameter_of row_of find read_write_rows read_only_rows lies defaults_of default_n column default_of clamp_of at_least at_most low_of high_of
default_timeout kind = refl
