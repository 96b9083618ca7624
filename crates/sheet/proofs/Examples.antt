-- Sheets, as antt computes them: document 01's own one, and small ones at the edges of the form. Assumes nothing.
use Prim.Native.Nat.{ℕ}
use mathlib.Core.Path.{◌≡◌, refl}
use mathlib.Core.List.{List, [], ◌∷◌, ◌++◌}
use lib.IntN.{negsuc}
use Rattle.hexadecimal.specs.Hex.{between, pair_of, payload_of}
use Rattle.channels.specs.Sets.{has, set_of, with_channel}
use Rattle.grammar.specs.Grammar.{fails, reads, peek_at, byte, end, times, text, first_from, up_to}
use Rattle.grammar.specs.Numbers.{digits, spells, number, signed, hex_digit, word}
use Rattle.sheet.specs.Form.{board_word, fitted_word, forced_word, ticks_word, count, gap, channels_from, channel_list, channel_set, head, silence, bytes, command, any_tick_line, tick_line, sheet, sheet_in}

sample : List ℕ
sample =
    98 ∷ 111 ∷ 97 ∷ 114 ∷ 100 ∷ 32 ∷ 49 ∷ 10 ∷
    102 ∷ 105 ∷ 116 ∷ 116 ∷ 101 ∷ 100 ∷ 32 ∷ 50 ∷ 10 ∷
    48 ∷ 32 ∷ 49 ∷ 10 ∷
    102 ∷ 111 ∷ 114 ∷ 99 ∷ 101 ∷ 100 ∷ 32 ∷ 49 ∷ 10 ∷
    48 ∷ 10 ∷
    116 ∷ 105 ∷ 99 ∷ 107 ∷ 115 ∷ 32 ∷ 50 ∷ 10 ∷
    45 ∷ 50 ∷ 48 ∷ 32 ∷ 48 ∷ 48 ∷ 48 ∷ 48 ∷ 48 ∷ 48 ∷ 48 ∷ 48 ∷ 32 ∷ 49 ∷ 49 ∷ 32 ∷ 48 ∷ 55 ∷ 32 ∷ 48 ∷ 50 ∷ 32 ∷ 48 ∷ 49 ∷ 10 ∷
    45 ∷ 50 ∷ 48 ∷ 32 ∷ 48 ∷ 48 ∷ 48 ∷ 48 ∷ 48 ∷ 48 ∷ 48 ∷ 48 ∷ 32 ∷ 45 ∷ 10 ∷
    []

-- board 1, with channels 0 and 1 fitted and 0 forced; the rail is at -20 in both ticks, with no overcurrent, and only
-- the first has a transfer
read_sample :
    sheet_in sample
    ≡ reads (record {
      top = record { bid = 1; fitted = 3; forced = 1; count = 2; first = 40 };
      ticks = record { rail = negsuc 19; overcurrent = 0; transfer = bytes (17 ∷ 7 ∷ 2 ∷ 1 ∷ []) } ∷ record { rail = negsuc 19; overcurrent = 0; transfer = silence } ∷ [];
    }) 80
unfolding sample between pair_of payload_of has set_of with_channel peek_at byte end times text first_from up_to digits spells number signed hex_digit word count gap channels_from channel_list channel_set head command any_tick_line tick_line sheet sheet_in
read_sample = refl

-- ---- board 0 with no fitted channel and no ticks, by what stands behind `forced `
by_forced : List ℕ → List ℕ
by_forced list = board_word ++ (48 ∷ 10 ∷ []) ++ fitted_word ++ (48 ∷ 10 ∷ 10 ∷ []) ++ forced_word ++ list ++ ticks_word ++ (48 ∷ 10 ∷ [])

-- the line of an empty list is there; channel 31 is the highest
smallest : sheet_in (by_forced (48 ∷ 10 ∷ 10 ∷ [])) ≡ reads (record { top = record { bid = 0; fitted = 0; forced = 0; count = 0; first = 36 }; ticks = [] }) 36
unfolding by_forced between pair_of payload_of has set_of with_channel peek_at byte end times text first_from up_to digits spells number signed hex_digit word count gap channels_from channel_list channel_set head command any_tick_line tick_line sheet sheet_in
smallest = refl

highest : sheet_in (by_forced (49 ∷ 10 ∷ 51 ∷ 49 ∷ 10 ∷ [])) ≡ reads (record { top = record { bid = 0; fitted = 0; forced = 2147483648; count = 0; first = 38 }; ticks = [] }) 38
unfolding by_forced between pair_of payload_of has set_of with_channel peek_at byte end times text first_from up_to digits spells number signed hex_digit word count gap channels_from channel_list channel_set head command any_tick_line tick_line sheet sheet_in
highest = refl

-- no line for the list; 3 twice; two channels where the count is 1; one where it is 2; channel 32
wrong_lists :
    (sheet_in (by_forced (48 ∷ 10 ∷ [])) ≡ fails)
    × (sheet_in (by_forced (50 ∷ 10 ∷ 51 ∷ 32 ∷ 51 ∷ 10 ∷ [])) ≡ fails)
    × (sheet_in (by_forced (49 ∷ 10 ∷ 51 ∷ 32 ∷ 52 ∷ 10 ∷ [])) ≡ fails)
    × (sheet_in (by_forced (50 ∷ 10 ∷ 51 ∷ 10 ∷ [])) ≡ fails)
    × (sheet_in (by_forced (49 ∷ 10 ∷ 51 ∷ 50 ∷ 10 ∷ [])) ≡ fails)
unfolding by_forced between pair_of payload_of has set_of with_channel peek_at byte end times text first_from up_to digits spells number signed hex_digit word count gap channels_from channel_list channel_set head command any_tick_line tick_line sheet sheet_in
wrong_lists = (refl, refl, refl, refl, refl)

-- ---- one tick line, 0 00000000 and what stands behind the space
by_command : List ℕ → List ℕ
by_command rest =
    board_word ++ (48 ∷ 10 ∷ []) ++ fitted_word ++ (48 ∷ 10 ∷ 10 ∷ []) ++ forced_word ++ (48 ∷ 10 ∷ 10 ∷ []) ++ ticks_word ++ (49 ∷ 10 ∷ [])
    ++ (48 ∷ 32 ∷ 48 ∷ 48 ∷ 48 ∷ 48 ∷ 48 ∷ 48 ∷ 48 ∷ 48 ∷ 32 ∷ rest)

-- - with no line end; with CR; with a byte behind its line; no command; 11 without its line end
wrong_ends :
    (sheet_in (by_command (45 ∷ [])) ≡ fails)
    × (sheet_in (by_command (45 ∷ 13 ∷ 10 ∷ [])) ≡ fails)
    × (sheet_in (by_command (45 ∷ 10 ∷ 10 ∷ [])) ≡ fails)
    × (sheet_in (by_command (10 ∷ [])) ≡ fails)
    × (sheet_in (by_command (49 ∷ 49 ∷ [])) ≡ fails)
unfolding by_command between pair_of payload_of has set_of with_channel peek_at byte end times text first_from up_to digits spells number signed hex_digit word count gap channels_from channel_list channel_set head command any_tick_line tick_line sheet sheet_in
wrong_ends = (refl, refl, refl, refl, refl)
