-- Document 01's table of refusals for a board: the list of `command`, with what the board brings to it, its kind, its
-- BID, its mode, the rail, its limits, its profile and its settings. Assumes nothing: these are definitions.
use Rattle.std.specs.Prelude.{ℕ}
use mathlib.Core.{Bool.Bool, Bool.true, Bool.false, Bool.cond, Bool.not, Bool.◌&&◌, Bool.◌||◌, List.List, List.[], List.◌∷◌}
use lib.{Dec.eqb, IntN.ℤ}
use Rattle.kinds.specs.Kinds.{is_in}
use Rattle.modes.specs.{Table.◌at_least◌, Table.same, declared.Mode.Mode, declared.Limits.Limits}
use Rattle.modes.specs.declared.Mode.TheVariants.{Startup, Nominal, Safety, Emergency}
use Rattle.channels.specs.Operations.{wrong_to_switch_on, wrong_to_switch_off}
use Rattle.command.specs.{Decode.code_of, Decode.byte_after, Decode.checksum_in, Checks.Check, Checks.Meets, Checks.checks}
use Rattle.memory.specs.{Memory.is_right, declared.Memory.Memory}
use Rattle.state.specs.{Parts.mode_of, declared.parts.Board.Board, declared.parts.Profile.Profile}

-- 2, the mode is startup
unfoldable pub is_startup : Mode → Bool
is_startup Startup = true
is_startup Nominal = false
is_startup Safety = false
is_startup Emergency = false

infix 70 ◌is◌
abbrev pub ◌is◌ : Mode → Mode → Bool
m is n = same m n

-- 6, not available in this mode: the five channel commands outside nominal, 0x32 in emergency, 0x30 in emergency and in
-- safety unless the rail is at least safety low
unfoldable pub channel_codes : List ℕ
channel_codes = 0x10 ∷ 0x12 ∷ 0x14 ∷ 0x16 ∷ 0x18 ∷ []

unfoldable pub unavailable : ℕ → Mode → ℤ → Limits → Bool
unavailable code mode rail limits =
    cond (is_in code channel_codes) (not (mode is Nominal))
    (cond (eqb code 0x32) (mode is Emergency)
    (cond (eqb code 0x30) (mode is Emergency || mode is Safety && not (rail at_least limits.safety_low))
    false))

-- 7, the channel is wrong: for 0x16 one that is not there or not fitted, for 0x18 a force-enabled one too
unfoldable pub channel_wrong : ℕ → Profile → ℕ → Bool
channel_wrong code p channel =
    cond (eqb code 0x16) (wrong_to_switch_on p.fitted channel)
    (cond (eqb code 0x18) (wrong_to_switch_off p.fitted p.forced channel)
    false)

-- 7, the checksum is wrong: for 0x94 one that is neither 0 nor right
unfoldable pub checksum_wrong : ℕ → ℕ → Memory → Bool
checksum_wrong code given m = eqb code 0x94 && not (is_right given m)

-- ---- what a transfer meets on a board
abbrev pub meets_of : ℤ → Limits → Board → List ℕ → Meets
meets_of rail limits b s =
    record {
      startup = is_startup (mode_of b);
      unavailable = unavailable (code_of s) (mode_of b) rail limits;
      channel_wrong = channel_wrong (code_of s) b.profile (byte_after s);
      checksum_wrong = checksum_wrong (code_of s) (checksum_in s) b.memory;
    }

unfoldable pub checks_of : ℤ → Limits → Board → List ℕ → List Check
checks_of rail limits b s = checks b.profile.kind b.profile.bid (meets_of rail limits b s) s
