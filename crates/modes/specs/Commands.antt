-- The commanded changes of mode, as document 01's list of effects has them. Startup obeys no command, so there both are
-- unavailable too. Assumes nothing.
use Rattle.std.specs.Prelude.{ℕ, Bool, cond, not, ◌&&◌, ◌||◌, ℤ, Option, Some, None}
use Rattle.modes.specs.{Table.◌at_least◌, Table.entered, Table.same, declared.Mode.Mode, declared.ModeAge.ModeAge}
use Rattle.modes.specs.declared.Limits.{Limits}
use Rattle.modes.specs.declared.Mode.TheVariants.{Startup, Nominal, Safety, Emergency}

abbrev no_effect : ModeAge → Option ModeAge
no_effect s = Some s

-- 0x32: nominal is left for safety at age 0, in safety nothing changes, in emergency it is not available
abbrev pub to_safety_from : Mode → ModeAge → Option ModeAge
to_safety_from Nominal s = Some (entered Safety)
to_safety_from Safety s = no_effect s
to_safety_from Emergency s = None
to_safety_from Startup s = None

unfoldable pub to_safety : ModeAge → Option ModeAge
to_safety s = to_safety_from s.mode s

-- 0x30: in nominal nothing changes, safety is left for nominal at age 0 where the rail is at least safety low, else it
-- is not available, and in emergency never
abbrev pub to_nominal_from : Mode → ModeAge → ℤ → Limits → Option ModeAge
to_nominal_from Nominal s rail limits = no_effect s
to_nominal_from Safety s rail limits = cond (rail at_least limits.safety_low) (Some (entered Nominal)) None
to_nominal_from Emergency s rail limits = None
to_nominal_from Startup s rail limits = None

unfoldable pub to_nominal : ModeAge → ℤ → Limits → Option ModeAge
to_nominal s rail limits = to_nominal_from s.mode s rail limits

-- The answer in document 01's numbers, and the mode and age that are left: 0 with the new ones, or 6, not available in
-- this mode, with the old. Both commands are asked for only where check 2 let the command through, which it does in no
-- startup: so what stands for startup above never becomes an answer.
abbrev pub mode_number : Option ModeAge → ℕ
mode_number (Some s) = 0
mode_number None = 6

-- 6 is told by 0x32 in emergency; in startup, where no command comes so far, it stands for the same
abbrev pub safety_unavailable : Mode → Bool
safety_unavailable m = same Startup m || same Emergency m

-- and by 0x30 in emergency, and in safety unless the rail is at least safety low; in startup likewise
abbrev pub nominal_unavailable : Mode → ℤ → Limits → Bool
nominal_unavailable m rail limits = same Startup m || same Emergency m || (same Safety m && not (rail at_least limits.safety_low))

abbrev pub leaves : Option ModeAge → ModeAge → ModeAge
leaves (Some s) before = s
leaves None before = before
