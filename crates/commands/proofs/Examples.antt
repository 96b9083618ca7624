-- Transfers to a board and the replies that then wait, byte by byte. Assumes nothing.
use Prim.Native.Nat.{ℕ}
use mathlib.Core.List.{List, [], ◌∷◌, map}
use mathlib.Core.Path.{◌≡◌, refl}
use lib.IntN.{pos}
use Rattle.wire.specs.Replies.{shown, written, reply_of, room, laid_out, reply_code}
use Rattle.wire.specs.Numbers.{bytes_of, number}
use Rattle.value.specs.Types.{width}
use Rattle.settings.specs.Table as tables
use Rattle.settings.specs.Values.{get_of}
use Rattle.modes.specs.Table.{entered}
use Rattle.modes.specs.declared.Mode.{Mode}
use Rattle.modes.specs.declared.Mode.TheVariants.{Nominal, Safety}
use Rattle.memory.specs.Memory.{empty_store}
use Rattle.memory.specs.Limits.{limits_of}
use Rattle.command.specs.Table.{command_table, find}
use Rattle.kinds.specs.Kinds.{is_in}
use Rattle.command.specs.Decode.{fewer_than_four, header_is, getting, carried, listed, decode_of}
use Rattle.command.specs.Checks.{first, header_differs, id_wrong, checks}
use Rattle.replies.specs.Layouts.{short_reply, parameter_reply}
use Rattle.state.specs.Parts.{distribution_board, with_phase}
use Rattle.state.specs.Start.{fresh_of, never_reset, command_reset_of}
use Rattle.state.specs.declared.parts.Board.{Board}
use Rattle.answers.specs.Answers.{accepted_with, accepted_of, refused_of, not_this_board_of}
use Rattle.answers.specs.Parameters.{value_read, read_only_number, number_in}
use Rattle.effects.specs.Effects.{is_nominal, switched_of, group_on_of, channel_on_of, parameter_answered, remembered_of, restarted_of, reported_of, run_of}
use Rattle.asking.specs.Checks.{is_startup, channel_codes, unavailable, channel_wrong, checksum_wrong, checks_of}
use Rattle.commands.specs.Step.{returning, transferred_of}

-- board 1 with channels 0 to 3, of which 0 is forced, just come into a mode
abbrev board_in : Mode → Board
board_in m = with_phase (entered m) (fresh_of (distribution_board 1 15 1) empty_store never_reset)

-- the reply that waits after a transfer
abbrev answered : Mode → List ℕ → List ℕ
answered m s = shown (transferred_of (pos 15000) (limits_of (board_in m).memory) s (board_in m)).board.reply

infix 60 ◌gives◌
pub data Example : Type 0 where
  ◌gives◌ : List ℕ → List ℕ → Example

abbrev sent_in : Example → List ℕ
sent_in (s gives r) = s

abbrev reply_in : Example → List ℕ
reply_in (s gives r) = r

abbrev in_nominal : List Example
in_nominal =
    ((0x11 ∷ 0x07 ∷ 0x02 ∷ 0x01 ∷ []) gives (0x11 ∷ 0x07 ∷ 0x03 ∷ 0x01 ∷ 0x80 ∷ []))  -- 0x02, accepted
    ∷ ((0x11 ∷ 0x07 ∷ 0x02 ∷ 0x01 ∷ 0xFF ∷ []) gives (0x11 ∷ 0x07 ∷ 0x03 ∷ 0x01 ∷ 0x80 ∷ []))  -- a byte more
    ∷ ((0x11 ∷ 0x07 ∷ 0x02 ∷ []) gives ([]))  -- three bytes
    ∷ ((0x12 ∷ 0x07 ∷ 0x02 ∷ 0x01 ∷ []) gives (0x11 ∷ 0x07 ∷ 0x03 ∷ 0x01 ∷ 0x06 ∷ []))  -- another STID
    ∷ ((0x11 ∷ 0x07 ∷ 0x02 ∷ 0x02 ∷ []) gives (0x11 ∷ 0x07 ∷ 0x03 ∷ 0x01 ∷ 0x06 ∷ []))  -- another BID
    ∷ ((0x11 ∷ 0x07 ∷ 0x03 ∷ 0x01 ∷ []) gives (0x11 ∷ 0x07 ∷ 0x03 ∷ 0x01 ∷ 0x02 ∷ []))  -- 0x03 is no command
    ∷ ((0x11 ∷ 0x07 ∷ 0x10 ∷ 0x01 ∷ 0x00 ∷ []) gives (0x11 ∷ 0x07 ∷ 0x11 ∷ 0x01 ∷ 0x03 ∷ []))  -- half a mask
    ∷ ((0x11 ∷ 0x07 ∷ 0x16 ∷ 0x01 ∷ 0x20 ∷ []) gives (0x11 ∷ 0x07 ∷ 0x17 ∷ 0x01 ∷ 0x04 ∷ []))  -- channel 32
    ∷ ((0x11 ∷ 0x07 ∷ 0xAA ∷ 0x01 ∷ 0xA5 ∷ []) gives (0x11 ∷ 0x07 ∷ 0xAB ∷ 0x01 ∷ 0x04 ∷ []))  -- another key
    ∷ ((0x11 ∷ 0x07 ∷ 0xAA ∷ 0x01 ∷ 0xA6 ∷ []) gives ([]))  -- a reset, which leaves no reply
    ∷ ((0x11 ∷ 0x07 ∷ 0x90 ∷ 0x01 ∷ 0xA7 ∷ []) gives (0x11 ∷ 0x07 ∷ 0x91 ∷ 0x01 ∷ 0x80 ∷ []))  -- defaults
    ∷ ((0x11 ∷ 0x07 ∷ 0x92 ∷ 0x01 ∷ 0xA6 ∷ []) gives (0x11 ∷ 0x07 ∷ 0x93 ∷ 0x01 ∷ 0x04 ∷ []))  -- another key
    ∷ ((0x11 ∷ 0x07 ∷ 0x82 ∷ 0x01 ∷ 0x00 ∷ 0x28 ∷ []) gives (0x11 ∷ 0x07 ∷ 0x83 ∷ 0x01 ∷ 0x80 ∷ 0x00 ∷ 0x00 ∷ 0x28 ∷ 0x11 ∷ []))  -- the STID, as a parameter
    ∷ ((0x11 ∷ 0x07 ∷ 0x82 ∷ 0x01 ∷ 0xFF ∷ 0xFF ∷ []) gives (0x11 ∷ 0x07 ∷ 0x83 ∷ 0x01 ∷ 0x04 ∷ []))  -- no parameter
    ∷ []

pub nominal_replies : map (λ e. answered Nominal (sent_in e)) in_nominal ≡ map reply_in in_nominal
unfolding shown written reply_of room laid_out reply_code bytes_of number command_table find is_in fewer_than_four header_is getting carried listed decode_of first header_differs id_wrong checks unavailable channel_codes channel_wrong checksum_wrong checks_of short_reply parameter_reply fresh_of command_reset_of accepted_with accepted_of refused_of not_this_board_of value_read read_only_number number_in is_nominal switched_of group_on_of channel_on_of parameter_answered remembered_of restarted_of reported_of run_of is_startup returning transferred_of width get_of tables.parameter_of tables.row_of tables.find tables.read_write_rows tables.read_only_rows tables.lies
nominal_replies = refl

-- a group command outside nominal
pub safety_reply : answered Safety (0x11 ∷ 0x07 ∷ 0x10 ∷ 0x01 ∷ 0x01 ∷ 0x00 ∷ []) ≡ 0x11 ∷ 0x07 ∷ 0x11 ∷ 0x01 ∷ 0x05 ∷ []
unfolding shown written reply_of room laid_out reply_code bytes_of number command_table find is_in fewer_than_four header_is getting carried listed decode_of first header_differs id_wrong checks unavailable channel_codes channel_wrong checksum_wrong checks_of short_reply parameter_reply fresh_of command_reset_of accepted_with accepted_of refused_of not_this_board_of value_read read_only_number number_in is_nominal switched_of group_on_of channel_on_of parameter_answered remembered_of restarted_of reported_of run_of is_startup returning transferred_of
safety_reply = refl
