-- Where the fields of a battery board's own replies stand: those of 0x44, at the places that the ICD's page 46 gives,
-- and the measured words of 0x60 and of 0x62, whatever their size, at those of pages 55 to 58. `get_or bytes p 0` is the
-- byte at p, and `number 2 (drop p bytes)` the word whose first byte stands at p. Assumes nothing.
use Prim.Native.Nat.{ℕ, ◌+◌, ◌*◌, ◌%◌, ◌^◌, ◌<◌}
use mathlib.Core.Path.{◌≡◌, refl, ap}
use mathlib.Core.Bool.{Bool, true, false}
use mathlib.Core.List.{List, [], append-nil}
use native.Mathlib.Omega.{arith}
use lib.ListN.{length, get_or, drop}
use Rattle.wire.specs.Numbers.{number, bytes_of}
use Rattle.wire.specs.Replies.{room, shown, reply_of, laid_out}
use Rattle.wire.proofs.Room.{shown_reply_of, shown_fits}
use Rattle.wire.proofs.Rows.{length_words, word_behind}
use Rattle.command.specs.declared.Header.{Header}
use Rattle.replies.specs.Layouts.{abf_byte, abf_reply, battery_reply}
use Rattle.replies.proofs.Parts.{start, battery_row}

module _ (board : Header) (code stat : ℕ) where
  -- ---- 0x44

  module _ (placed : Bool) where
    abbrev abf_bytes : List ℕ
    abf_bytes = abf_reply board code stat placed

    pub length_abf : length abf_bytes ≡ 8
    unfolding abf_reply laid_out bytes_of
    length_abf = refl

    pub shown_abf : shown (reply_of abf_bytes) ≡ abf_bytes
    unfolding room
    shown_abf = shown_fits abf_bytes (omega (arith, length_abf))

    -- STAT at 4, a reserved byte at 5
    pub abf_stat : (get_or abf_bytes 4 0 ≡ stat % 256) × (get_or abf_bytes 5 0 ≡ 0)
    unfolding abf_reply laid_out bytes_of
    abf_stat = (refl, refl)

  -- ABF_PLACED_0 at 6 and ABF_PLACED_1 at 7
  pub abf_at : (placed : Bool) → (get_or (abf_bytes placed) 6 0 ≡ abf_byte placed) × (get_or (abf_bytes placed) 7 0 ≡ abf_byte placed)
  unfolding abf_reply laid_out bytes_of
  abf_at true = (refl, refl)
  abf_at false = (refl, refl)

  -- ---- 0x60 and 0x62

  module _ (ws : List ℕ) where
    abbrev battery_bytes : List ℕ
    battery_bytes = battery_reply board code stat ws

    -- STAT at 4, however many words there are
    pub battery_stat_shown : get_or (shown (reply_of battery_bytes)) 4 0 ≡ stat % 256
    unfolding battery_reply laid_out bytes_of room
    battery_stat_shown = ap (λ (l : List ℕ). get_or l 4 0) (shown_reply_of battery_bytes)

    module _ (all : length ws ≡ 39) where
      pub length_battery : length battery_bytes ≡ 84
      unfolding laid_out bytes_of
      length_battery = rw (battery_row board code stat ws) (omega (arith, length_words ws))

      pub shown_battery : shown (reply_of battery_bytes) ≡ battery_bytes
      unfolding room
      shown_battery = shown_fits battery_bytes (omega (arith, length_battery))

      -- word k at 6 + 2k
      pub battery_word_at : (k : ℕ) → k < 39 → number 2 (drop (6 + 2 * k) battery_bytes) ≡ get_or ws k 0 % 2 ^ 16
      unfolding laid_out bytes_of
      battery_word_at k h =
          rw (battery_row board code stat ws) (rw append-nil at (word_behind 6 (start board code stat) ws [] k refl (omega arith)))
