-- Demand 2, groups: what a command does to the channels. Document 01 has, for each command, the channels that it is
-- about and what becomes of them; every other channel stays as it is, and so do all where the command is refused. The
-- board may be of any kind and need not be one that can be reached, its fitted and forced channels are any, and so are
-- mask, rail and limits. `board` is the board as the command finds it, `s` the bytes of the transfer, `has set c` says
-- that channel c is in the set, and `chan channels c` is channel c: whether it is on, whether it is latched, and its
-- count. A channel that becomes `on_and_cleared` is on, `off_and_cleared` off, both with no latch; `off_and_latch_kept` is off
-- with its latch as it was; and all three keep the count. Assumes nothing: these are definitions.
use Rattle.std.specs.Prelude.{ℕ, suc, ◌<◌}
use mathlib.Core.{Path.◌≡◌, Bool.Bool, Bool.true, Bool.false, Bool.cond, Bool.not, Bool.◌&&◌, Bool.◌||◌}
use mathlib.Core.{List.List, List.[], List.◌∷◌, Option.some}
use lib.{Dec.eqb, Dec.ltb, IntN.ℤ, ListN.length, ListN.drop}
use Rattle.wire.specs.Numbers.{number}
use Rattle.modes.specs.{Table.same, declared.Limits.Limits}
use Rattle.modes.specs.declared.Mode.TheVariants.{Nominal}
use Rattle.channels.specs.{Sets.has, Chan.Chan, Chan.chan}
use Rattle.channels.specs.Operations.{force_enabled, command_enabled, on_and_cleared, off_and_cleared, off_and_latch_kept, clear_one}
use Rattle.command.specs.Decode.{code_of, byte_after}
use Rattle.state.specs.{Parts.mode_of, declared.parts.Board.Board}
use Rattle.answers.specs.{Answers.told_number, declared.Commanded.Commanded}
use Rattle.commands.specs.Step.{commanded_of}

-- ---- the bytes of a transfer
-- a mask stands at byte 4: four bytes of it where the transfer has eight or more, and two where it has fewer
abbrev pub mask_in : List ℕ → ℕ
mask_in s = cond (ltb (length s) 8) (number 2 (drop 4 s)) (number 4 (drop 4 s))

-- a mask of two bytes speaks of channels 0 to 15, one of four bytes of all
abbrev pub is_spoken_of : List ℕ → ℕ → Bool
is_spoken_of s c = ltb c 16 || not (ltb (length s) 8)

-- ---- what is said of a command
-- `at 0x10 each named becomes f`: a command of code 0x10 makes f of each channel that is named
infix 68 at◌each◌becomes◌
pub data Sentence : Type 0 where
  at◌each◌becomes◌ : ℕ → Bool → (Chan → Chan) → Sentence

-- off, with no latch and a count of 0
abbrev pub as_after_a_reset : Chan → Chan
as_after_a_reset ch = clear_one

-- document 01's sentences, for channel c
module _ (board : Board) (s : List ℕ) (c : ℕ) where
  -- by the profile: a fitted channel is force-enabled or command-enabled
  abbrev pub is_fitted : Bool
  is_fitted = has board.profile.fitted c

  abbrev pub is_force_enabled : Bool
  is_force_enabled = force_enabled is_fitted (has board.profile.forced c)

  abbrev pub is_command_enabled : Bool
  is_command_enabled = command_enabled is_fitted (has board.profile.forced c)

  -- by the transfer: bit c of the mask, and the one channel whose index stands at byte 4
  abbrev pub is_in_the_mask : Bool
  is_in_the_mask = has (mask_in s) c

  abbrev pub is_the_one : Bool
  is_the_one = eqb c (byte_after s)

  -- 0x10 group on, 0x12 group off, 0x14 group state, 0x16 one on, 0x18 one off, 0x04 all command-enabled off, 0x32 from
  -- nominal into safety, 0xAA reset
  unfoldable pub sentences : List Sentence
  sentences =
      at 0x10 each (is_fitted && is_spoken_of s c && is_in_the_mask) becomes on_and_cleared
      ∷ at 0x12 each (is_command_enabled && is_spoken_of s c && is_in_the_mask) becomes off_and_cleared
      ∷ at 0x14 each (is_command_enabled && is_spoken_of s c && is_in_the_mask) becomes on_and_cleared
      ∷ at 0x14 each (is_command_enabled && is_spoken_of s c && not is_in_the_mask) becomes off_and_cleared
      ∷ at 0x14 each (is_force_enabled && is_spoken_of s c && is_in_the_mask) becomes on_and_cleared
      ∷ at 0x16 each (is_fitted && is_the_one) becomes on_and_cleared
      ∷ at 0x18 each (is_command_enabled && is_the_one) becomes off_and_cleared
      ∷ at 0x04 each is_command_enabled becomes off_and_latch_kept
      ∷ at 0x32 each (same (mode_of board) Nominal && is_command_enabled) becomes off_and_latch_kept
      ∷ at 0xAA each true becomes as_after_a_reset
      ∷ []

-- what some sentences make of a channel by a command of a code: a channel that none of them names stays as it is
unfoldable pub made_by : List Sentence → ℕ → Chan → Chan
made_by [] code ch = ch
made_by (at k each named becomes f ∷ rest) code ch = cond (eqb code k && named) (f ch) (made_by rest code ch)

-- whether one of them names it
unfoldable pub named_by : List Sentence → ℕ → Bool
named_by [] code = false
named_by (at k each named becomes f ∷ rest) code = eqb code k && named || named_by rest code

-- ---- the claim, for a transfer
module _ (rail : ℤ) (limits : Limits) (s : List ℕ) (board : Board) where
  abbrev pub obeyed : Commanded
  obeyed = commanded_of rail limits true s board

  abbrev pub Answers : ℕ → Type 0
  Answers n = told_number obeyed.outcome ≡ some n

  -- a transfer is answered; accepted, each channel is what the sentences make of it; refused, all channels are what
  -- they were; and without a transfer nothing changes
  pub record Groups : Type 0 where
    pub answered : (n : ℕ) × Answers n
    pub accepted : Answers 0 → (c : ℕ) → c < 32 → chan obeyed.board.channels c ≡ made_by (sentences board s c) (code_of s) (chan board.channels c)
    pub refused : (n : ℕ) → Answers (suc n) → obeyed.board.channels ≡ board.channels
    pub no_transfer : (commanded_of rail limits false s board).board ≡ board
