-- Where each measured word of 0x50 and of 0x52 stands, whatever its size, and STAT, however many words there are.
-- Assumes nothing.
use Prim.Native.Nat.{ℕ, zero, suc, ◌+◌, ◌-◌, ◌*◌, ◌%◌, ◌^◌, ◌≤◌, ◌<◌}
use mathlib.Core.Path.{◌≡◌, refl, sym, ap, ◌∙◌}
use mathlib.Core.Bool.{cond}
use mathlib.Core.List.{List, [], ◌∷◌, ◌++◌, map}
use mathlib.Core.Logic.{⊎_elim}
use native.Mathlib.Omega.{arith}
use lib.Dec.{ltb}
use lib.ListN.{length, get_or, take, drop, length-map, get_or-map}
use borrow.Author.Tests.{lt-ltb, le-ltb}
use Rattle.laws.proofs.Lists.{lt_or_le}
use Rattle.wire.specs.Numbers.{number, bytes_of}
use Rattle.wire.specs.Replies.{room, shown, reply_of, laid_out, words}
use Rattle.wire.proofs.LittleEndian.{length_bytes_of, bytes_of_bytes, number_bytes_of_mod, bytes_of_number}
use Rattle.wire.proofs.Room.{shown_reply_of}
use Rattle.wire.proofs.Rows.{words_append}
use Rattle.command.specs.declared.Header.{Header}
use Rattle.replies.specs.Layouts.{channel_words, housekeeping_reply}
use Rattle.replies.proofs.Parts.{housekeeping_row_lem}
use Rattle.replies.proofs.Positions.{AreWords, first_word_at, later_word_at}

-- ---- of a word 16 bits are laid out
abbrev low : ℕ → ℕ
low w = w % 2 ^ 16

-- the two bytes of a word hold no more of it
same_two : (w : ℕ) → bytes_of 2 (low w) ≡ bytes_of 2 w
same_two w = ap (bytes_of 2) (sym (number_bytes_of_mod 2 w)) ∙ bytes_of_number 2 (bytes_of 2 w) (length_bytes_of 2 w) (bytes_of_bytes 2 w)

-- nor those of the first words of a row
first_low : (n : ℕ) (ws : List ℕ) → words (take n (map low ws)) ≡ words (take n ws)
unfolding words
first_low zero ws = refl
first_low (suc n) [] = refl
first_low (suc n) (w ∷ ws) = rw (same_two w, first_low n ws)

-- of all of them
low_words : (ws : List ℕ) → words (map low ws) ≡ words ws
unfolding words
low_words [] = refl
low_words (w ∷ ws) = rw (same_two w, low_words ws)

-- or of those behind the first
behind_low : (n : ℕ) (ws : List ℕ) → words (drop n (map low ws)) ≡ words (drop n ws)
behind_low zero ws = low_words ws
behind_low (suc n) [] = refl
behind_low (suc n) (w ∷ ws) = behind_low n ws

-- where measured word k starts
abbrev pub start_of : ℕ → ℕ
start_of k = cond (ltb k 5) (6 + 2 * k) (14 + 2 * k)

module _ (board : Header) (code stat on latched : ℕ) (ws : List ℕ) where
  -- ---- STAT, at 4
  pub stat_shown_lem : get_or (shown (reply_of (housekeeping_reply board code stat on latched ws))) 4 0 ≡ stat % 256
  unfolding housekeeping_reply laid_out bytes_of room
  stat_shown_lem = ap (λ (l : List ℕ). get_or l 4 0) (shown_reply_of (housekeeping_reply board code stat on latched ws))

  -- ---- the words: the reply with 16 bits of each
  abbrev low_bytes : List ℕ
  low_bytes = housekeeping_reply board code stat on latched (map low ws)

  -- it is the reply itself
  same_bytes : low_bytes ≡ housekeeping_reply board code stat on latched ws
  same_bytes =
      rw (
        housekeeping_row_lem board code stat on latched (map low ws),
        housekeeping_row_lem board code stat on latched ws,
        words_append (take 5 (map low ws) ++ channel_words on latched) (drop 5 (map low ws)),
        words_append (take 5 ws ++ channel_words on latched) (drop 5 ws),
        words_append (take 5 (map low ws)) (channel_words on latched),
        words_append (take 5 ws) (channel_words on latched),
        first_low 5 ws,
        behind_low 5 ws,
      )

  -- which word stands at k
  low_at : (k : ℕ) → get_or (map low ws) k 0 ≡ low (get_or ws k 0)
  low_at k = get_or-map low ws k 0

  -- each has 16 bits
  are_low : AreWords (map low ws)
  are_low k = omega (arith, low_at k)

  -- so that the laws of such words say where each stands
  pub measured_at : length ws ≡ 122 → (k : ℕ) → k < 122 → number 2 (drop (start_of k) (housekeeping_reply board code stat on latched ws)) ≡ get_or ws k 0 % 2 ^ 16
  measured_at all k h =
      let all-low : length (map low ws) ≡ 122 = length-map ws low ∙ all in
      let at : (p : ℕ) → start_of k ≡ p → number 2 (drop p low_bytes) ≡ get_or (map low ws) k 0 → number 2 (drop (start_of k) (housekeeping_reply board code stat on latched ws)) ≡ get_or ws k 0 % 2 ^ 16 =
      λ p e q. rw (e, ← same_bytes) (q ∙ low_at k) in
      ⊎_elim
      (λ (first : k < 5). at (6 + 2 * k) (rw (lt-ltb k 5 first)) (first_word_at board code stat on latched (map low ws) all-low are_low k first))
      (λ (later : 5 ≤ k).
      let j : ℕ = k - 5 in
      let e : k ≡ 5 + j = omega arith in
      at (24 + 2 * j) (rw (le-ltb k 5 later) (omega arith)) (later_word_at board code stat on latched (map low ws) all-low are_low j (omega arith) ∙ ap (λ (n : ℕ). get_or (map low ws) n 0) (sym e)))
      (lt_or_le k 5)
