-- Demand 2, what the sentences of Groups come to: which channels can change at all, that a force-enabled channel is
-- turned off by no command but the reset, that no command but the reset touches a count, and that 0x16 and 0x18 are
-- accepted only for a channel that they then switch. For every board, rail, limits and transfer. Assumes nothing: these
-- are definitions.
use Rattle.std.specs.Prelude.{ℕ, ◌<◌}
use mathlib.Core.{Path.◌≡◌, Bool.true, Bool.false, List.List, List.[], List.◌∷◌}
use lib.{Dec.eqb, IntN.ℤ}
use Rattle.kinds.specs.Kinds.{is_in}
use Rattle.modes.specs.{Table.same, declared.Limits.Limits}
use Rattle.modes.specs.declared.Mode.TheVariants.{Nominal}
use Rattle.channels.specs.{Sets.has, Chan.Chan, Chan.chan, Operations.on_and_cleared, Operations.off_and_cleared}
use Rattle.command.specs.Decode.{code_of, byte_after}
use Rattle.state.specs.{Parts.mode_of, declared.parts.Board.Board}
use Rattle.groups.specs.Groups.{obeyed, Answers, sentences, named_by, is_command_enabled, is_fitted}

-- the commands that can alter a channel
unfoldable pub altering : List ℕ
altering = 0x10 ∷ 0x12 ∷ 0x14 ∷ 0x16 ∷ 0x18 ∷ 0x04 ∷ 0x32 ∷ 0xAA ∷ []

module _ (rail : ℤ) (limits : Limits) (s : List ℕ) (board : Board) where
  -- channel c before the command and after it
  abbrev pub before : ℕ → Chan
  before c = chan board.channels c

  abbrev pub afterwards : ℕ → Chan
  afterwards c = chan (obeyed rail limits s board).board.channels c

  pub record Altered : Type 0 where
    -- a channel that no sentence names stays as it is
    pub only_named : Answers rail limits s board 0 → (c : ℕ) → c < 32 → named_by (sentences board s c) (code_of s) ≡ false → afterwards c ≡ before c
    -- so every channel does at a command that is not among the eight
    pub no_other_command : Answers rail limits s board 0 → is_in (code_of s) altering ≡ false → (c : ℕ) → c < 32 → afterwards c ≡ before c
    -- and 0x32 alters none but in nominal
    pub no_effect_in_safety : Answers rail limits s board 0 → code_of s ≡ 0x32 → same (mode_of board) Nominal ≡ false → (c : ℕ) → c < 32 → afterwards c ≡ before c
    -- whatever is answered, a count stays and a force-enabled channel that is on stays on, but at 0xAA
    pub counts_stay : eqb (code_of s) 0xAA ≡ false → (c : ℕ) → c < 32 → (afterwards c).count ≡ (before c).count
    pub forced_stay_on : eqb (code_of s) 0xAA ≡ false → (c : ℕ) → c < 32 → has board.profile.forced c ≡ true → (before c).on ≡ true → (afterwards c).on ≡ true
    -- an accepted 0x16 or 0x18 has found its channel and switched it
    pub one_on : Answers rail limits s board 0 → code_of s ≡ 0x16
        → (byte_after s < 32) × (is_fitted board s (byte_after s) ≡ true) × (afterwards (byte_after s) ≡ on_and_cleared (before (byte_after s)))
    pub one_off : Answers rail limits s board 0 → code_of s ≡ 0x18
        → (byte_after s < 32) × (is_command_enabled board s (byte_after s) ≡ true) × (afterwards (byte_after s) ≡ off_and_cleared (before (byte_after s)))
