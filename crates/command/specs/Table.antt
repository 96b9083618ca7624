-- The commands that the decoder knows: the code, the bytes and the key of each, as the ICD's command pages give them.
-- Which of them a board has, the list of its kind says, in `kinds`. `a ∷ b ∷ []` is a list of two, and `cond b x y` is
-- x where b holds, else y. Assumes nothing.
use Rattle.std.specs.Prelude.{ℕ, eqb, Option, Some, None}
use mathlib.Core.{Bool.cond, List.List, List.[], List.◌∷◌}
use Rattle.command.specs.{declared.Name.Name, declared.Listed.Listed}

-- a row: a code, the command of that code, the bytes it needs, and its key where it has one
infix 70 ◌is◌of◌bytes
infix 70 ◌is◌of◌bytes_with_key◌
pub data Row : Type 0 where
  ◌is◌of◌bytes : ℕ → Name → ℕ → Row
  ◌is◌of◌bytes_with_key◌ : ℕ → Name → ℕ → ℕ → Row

-- 0x84 needs the two bytes of its id first; how many its value has, the id's type says
unfoldable pub command_table : List Row
command_table =
    0xAA is Name.SystemReset of 5 bytes_with_key 0xA6  -- page 29
    ∷ 0x02 is Name.NoOperation of 4 bytes  -- page 30
    ∷ 0x04 is Name.CancelOperation of 4 bytes  -- page 31
    ∷ 0x06 is Name.Watchdog of 4 bytes  -- page 32
    ∷ 0x10 is Name.GroupOn of 6 bytes  -- page 33, 6 or 8
    ∷ 0x12 is Name.GroupOff of 6 bytes  -- page 34, 6 or 8
    ∷ 0x14 is Name.GroupState of 6 bytes  -- page 35, 6 or 8
    ∷ 0x16 is Name.ChannelOn of 5 bytes  -- page 36
    ∷ 0x18 is Name.ChannelOff of 5 bytes  -- page 37
    ∷ 0x30 is Name.SwitchToNominal of 4 bytes  -- page 38
    ∷ 0x32 is Name.SwitchToSafety of 4 bytes  -- page 39
    ∷ 0x42 is Name.GetOvercurrentFaultState of 4 bytes  -- page 43
    ∷ 0x50 is Name.GetHousekeeping of 4 bytes  -- page 47
    ∷ 0x82 is Name.GetParameter of 6 bytes  -- page 65
    ∷ 0x84 is Name.SetParameter of 6 bytes  -- page 66, 6 and then the value's
    ∷ 0x86 is Name.ResetParameter of 6 bytes  -- page 68
    ∷ 0x90 is Name.ResetConfiguration of 5 bytes_with_key 0xA7  -- page 69
    ∷ 0x92 is Name.LoadConfiguration of 5 bytes_with_key 0xA7  -- page 70
    ∷ 0x94 is Name.SaveConfiguration of 7 bytes_with_key 0xA7  -- page 71
    ∷ 0x52 is Name.GetEngineeringHousekeeping of 4 bytes  -- page 51
    ∷ 0x44 is Name.GetAbfPlacedState of 4 bytes  -- page 46
    ∷ 0x60 is Name.GetBatteryHousekeeping of 4 bytes  -- page 55
    ∷ 0x62 is Name.GetEngineeringBatteryHousekeeping of 4 bytes  -- page 57
    ∷ []

-- what such rows say of a code: its row, or that it has none
abbrev pub plain : Name → ℕ → Listed
plain name n = record { name = name; needed = n; key = None }

abbrev pub keyed : Name → ℕ → ℕ → Listed
keyed name n k = record { name = name; needed = n; key = Some k }

unfoldable pub find : List Row → ℕ → Option Listed
find [] code = None
find (c is name of n bytes ∷ rows) code = cond (eqb code c) (Some (plain name n)) (find rows code)
find (c is name of n bytes_with_key k ∷ rows) code = cond (eqb code c) (Some (keyed name n k)) (find rows code)
