-- Demand 2, what the replies to 0x50 and to 0x52 show: each is 258 bytes, in which every measured word stands at its
-- place on the ICD's pages 47 to 53, as it was measured on the one and converted by its row of Table 3-12 on the other,
-- and the channel words at 16 to 23, as they are. And what those to 0x60 and to 0x62 show, which are the battery
-- board's: each is 84 bytes, in which every measured word stands at its place on pages 55 to 58, as it was measured on
-- the one and in the way of its field on the other. The raw readings are those that the command finds, so words of the
-- same tick are shown. Of every machine and every tick. The one premise is what the type has: room for 130 readings.
-- For the channel words it is that a set of channels has 32 bits, and for the words of 0x62 that a raw reading has 16.
-- `m` is the machine before the tick. Assumes nothing: these are definitions.
use Rattle.std.specs.Prelude.{ℕ, ◌+◌, ◌*◌, ◌/◌, ◌%◌, ◌^◌, ◌<◌}
use mathlib.Core.{Path.◌≡◌, Bool.true, Bool.false, Bool.cond, List.List, List.[], List.◌∷◌}
use lib.{Dec.ltb, ListN.length, ListN.get_or, ListN.drop}
use Rattle.wire.specs.{Numbers.number, Numbers.pattern, Replies.shown}
use Rattle.kinds.specs.Kinds.{word_room}
use Rattle.readings.specs.{Readings.raw_of, Table.engineering_of, Layout.row_at, declared.apart.Raw.Raw}
use Rattle.readings.specs.Packs.{word_by, way_at}
use Rattle.channels.specs.declared.Channels.{Channels}
use Rattle.unit.specs.{declared.Machine.Machine, Runs.Sample, Runs.told, Runs.after_step3}
use Rattle.state.specs.Parts.{word_count}
use Rattle.changes.specs.{Accepted.accepts_one_of, NewReadings.brings}

-- the first byte of measured word k of 0x50 and 0x52: words 0 to 4 stand from 6 on, and words 5 to 121 from 24 on,
-- behind the channel words
abbrev pub byte_of : ℕ → ℕ
byte_of k = cond (ltb k 5) (6 + 2 * k) (14 + 2 * k)

module _ (m : Machine) (i : Sample) where
  -- the reply that waits after the tick, and a word of it by its first byte
  abbrev pub bytes_shown : List ℕ
  bytes_shown = shown (told m i).machine.board.reply

  abbrev pub word_from : ℕ → ℕ
  word_from p = number 2 (drop p bytes_shown)

  -- the raw reading of word k that the command finds, and the channels, which none of the codes alters
  abbrev pub raw_found : ℕ → Raw
  raw_found k = get_or (after_step3 m i).measured.words k (raw_of 0)

  abbrev pub channels_found : Channels
  channels_found = (after_step3 m i).channels

  -- STAT_CH_ON, STAT_CH_EXT_ON, STAT_CH_OCF and STAT_CH_EXT_OCF
  pub record ChannelsShown : Type 0 where
    pub on_low : word_from 16 ≡ channels_found.on % 2 ^ 16
    pub on_high : word_from 18 ≡ channels_found.on / 2 ^ 16
    pub latched_low : word_from 20 ≡ channels_found.latched % 2 ^ 16
    pub latched_high : word_from 22 ≡ channels_found.latched / 2 ^ 16

  -- the reply of a distribution board shows `words k` as measured word k
  pub record Shows (words : ℕ → ℕ) : Type 0 where
    pub bytes : length bytes_shown ≡ 258
    pub word : (k : ℕ) → k < 122 → word_from (byte_of k) ≡ words k
    pub channels : channels_found.on < 2 ^ 32 → channels_found.latched < 2 ^ 32 → ChannelsShown

  -- and so does that of a battery board, from 6 on
  pub record BatteryShows (words : ℕ → ℕ) : Type 0 where
    pub bytes : length bytes_shown ≡ 84
    pub word : (k : ℕ) → k < 39 → word_from (6 + 2 * k) ≡ words k

  pub record ReadingsShown : Type 0 where
    -- words that come with the tick are then what is measured, each at its own place, and where none come the last ones
    -- stay
    pub brought : brings m i ≡ true → (k : ℕ) → k < word_count m.board → raw_found k ≡ raw_of (get_or i.words k 0)
    pub stayed : brings m i ≡ false → (after_step3 m i).measured.words ≡ m.board.measured.words
    -- 0x50: 16 bits of what was measured, which are all that a raw reading has
    pub raw : length m.board.measured.words ≡ word_room → accepts_one_of (0x50 ∷ []) m i ≡ true → Shows (λ k. (raw_found k).0 % 2 ^ 16)
    -- 0x52: the engineering reading by the row of the place, in two's complement
    pub engineering : length m.board.measured.words ≡ word_room → accepts_one_of (0x52 ∷ []) m i ≡ true → Shows (λ k. pattern 2 (engineering_of (row_at k) (raw_found k)).0)
    -- 0x60: 16 bits of what was measured
    pub battery_raw : length m.board.measured.words ≡ word_room → accepts_one_of (0x60 ∷ []) m i ≡ true → BatteryShows (λ k. (raw_found k).0 % 2 ^ 16)
    -- 0x62: the word that the way of its field makes of what was measured: the engineering reading by a row of Table
    -- 3-12, in two's complement, or by Table 3-13, or, of a status word, the word as it is
    pub battery_engineering : length m.board.measured.words ≡ word_room → ((k : ℕ) → (raw_found k).0 < 2 ^ 16) → accepts_one_of (0x62 ∷ []) m i ≡ true
        → BatteryShows (λ k. word_by (way_at k) (raw_found k))
