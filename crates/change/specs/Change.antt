-- What a change of mode brings with it, from the mode before it and the mode after it; where the mode stays the two are
-- the same. Assumes nothing: these are definitions.
use Rattle.std.specs.Prelude.{ℕ, Bool, true, false, cond, not, ◌&&◌, ◌||◌}
use Rattle.modes.specs.{Table.same, declared.Mode.Mode}
use Rattle.modes.specs.declared.Mode.TheVariants.{Startup, Nominal, Safety, Emergency}
use Rattle.channels.specs.{Operations.all_off, Operations.forced_on, Operations.command_enabled_off, declared.Channels.Channels}
use Rattle.memory.specs.Memory.{one_more}
use Rattle.state.specs.{declared.parts.Cause.Cause, declared.parts.Profile.Profile, declared.parts.Resets.Resets}

-- startup and emergency: the modes in which channels are off
unfoldable pub is_dark : Mode → Bool
is_dark Startup = true
is_dark Nominal = false
is_dark Safety = false
is_dark Emergency = true

unfoldable pub from_nominal_to_safety : Mode → Mode → Bool
from_nominal_to_safety before after = same before Nominal && same after Safety

unfoldable pub leaves_emergency : Mode → Mode → Bool
leaves_emergency before after = same before Emergency && not (same after Emergency)

-- In startup and emergency every channel is off, with its latch as it was. When one of the two is left, the channels
-- that are on afterwards are the force-enabled ones and no others, and no latch is left. From nominal to safety the
-- command-enabled ones go off and nothing else happens to a channel. From safety to nominal, and where the mode stays,
-- nothing at all does.
unfoldable pub entering_of : Mode → Mode → Profile → Channels → Channels
entering_of before after p ch =
    cond (is_dark after) (all_off ch)
    (cond (is_dark before) (forced_on p.fitted p.forced ch)
    (cond (from_nominal_to_safety before after) (command_enabled_off p.fitted p.forced ch)
    ch))

-- Startup and emergency hold the timer at 0, the tick that leads out of them included.
unfoldable pub timer_after : Mode → Mode → ℕ → ℕ
timer_after before after timer = cond (is_dark before || is_dark after) 0 timer

-- Emergency left counts as one power reset more, up to the top, and becomes the cause.
unfoldable pub left_emergency : Resets → Resets
left_emergency r = record { power = one_more r.power; watchdog = r.watchdog; command = r.command; cause = Cause.Emergency }

unfoldable pub resets_after : Mode → Mode → Resets → Resets
resets_after before after r = cond (leaves_emergency before after) (left_emergency r) r
