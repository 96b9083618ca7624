-- Where the fields of the replies stand, at the places that document 01 and the ICD's pages 43, 44, 47 to 50 and 65 to
-- 68 give. `get_or bytes p 0` is the byte at p, and `number 2 (drop p bytes)` the word whose first byte stands at p.
-- Assumes nothing.
use Prim.Native.Nat.{ℕ, zero, suc, ◌+◌, ◌*◌, ◌/◌, ◌%◌, ◌^◌, ◌≤◌, ◌<◌}
use mathlib.Core.List.{List, [], ◌∷◌, ◌++◌, append-nil}
use mathlib.Core.Path.{◌≡◌, refl, ◌∙◌}
use native.Mathlib.Omega.{arith}
use lib.ListN.{length, get_or, take, drop, length-append, length-drop, get_or-append}
use lib.Seq.{get_or-append-add, get_or-take, get_or-drop, length-take-le}
use Rattle.wire.specs.Numbers.{number, bytes_of}
use Rattle.wire.specs.Replies.{room, shown, reply_of, reply_code, laid_out, words}
use Rattle.wire.proofs.Room.{shown_fits}
use Rattle.wire.proofs.Rows.{length_words, word_behind}
use Rattle.command.specs.declared.Header.{Header}
use Rattle.replies.specs.Layouts.{head, channel_words, short_reply, faults_reply, housekeeping_reply, parameter_reply}
use Rattle.replies.proofs.Parts.{start, faults_row, housekeeping_row_lem, parameter_parts}

-- ---- what the types of the code tell

pub record AreBytes (board : Header) (code stat : ℕ) : Type 0 where
  pub stid_byte : board.stid < 256
  pub ivid_byte : board.ivid < 256
  pub code_byte : code < 256
  pub bid_byte : board.bid < 256
  pub stat_byte : stat < 256

abbrev pub AreWords : List ℕ → Type 0
AreWords ws = (i : ℕ) → get_or ws i 0 < 2 ^ 16

-- ---- what every reply starts with

-- the board's STID and IVID, the command's code with the lowest bit set, the board's BID, and STAT
pub record Starts (board : Header) (code stat : ℕ) (bytes : List ℕ) : Type 0 where
  pub at_0 : get_or bytes 0 0 ≡ board.stid
  pub at_1 : get_or bytes 1 0 ≡ board.ivid
  pub at_2 : get_or bytes 2 0 ≡ reply_code code
  pub at_3 : get_or bytes 3 0 ≡ board.bid
  pub at_4 : get_or bytes 4 0 ≡ stat

-- and every longer one: then a reserved byte
pub record StartsLonger (board : Header) (code stat : ℕ) (bytes : List ℕ) : Type 0 where
  pub starts : Starts board code stat bytes
  pub at_5 : get_or bytes 5 0 ≡ 0

-- STAT_CH_ON, STAT_CH_EXT_ON, STAT_CH_OCF and STAT_CH_EXT_OCF from a place p on: of a set, channels 0 to 15 and
-- channels 16 to 31
pub record ChannelWords (p on latched : ℕ) (bytes : List ℕ) : Type 0 where
  pub on_low : number 2 (drop p bytes) ≡ on % 2 ^ 16
  pub on_high : number 2 (drop (p + 2) bytes) ≡ on / 2 ^ 16
  pub latched_low : number 2 (drop (p + 4) bytes) ≡ latched % 2 ^ 16
  pub latched_high : number 2 (drop (p + 6) bytes) ≡ latched / 2 ^ 16

-- ---- a row of words behind the first six bytes

past : (p q : List ℕ) (n k : ℕ) → length p ≡ n → get_or (p ++ q) (n + k) 0 ≡ get_or q k 0
past p q n k e = rw (← e) (get_or-append-add p q k 0)

module _ (on latched : ℕ) where
  four : length (channel_words on latched) ≡ 4
  unfolding channel_words
  four = refl

  channel_words_lem : on < 2 ^ 32 → latched < 2 ^ 32 → AreWords (channel_words on latched)
  unfolding channel_words
  channel_words_lem h g zero = omega arith
  channel_words_lem h g (suc zero) = omega arith
  channel_words_lem h g (suc (suc zero)) = omega arith
  channel_words_lem h g (suc (suc (suc zero))) = omega arith
  channel_words_lem h g (suc (suc (suc (suc i)))) = omega arith

module _ (board : Header) (code stat : ℕ) where
  starts_with : (rest : List ℕ) → AreBytes board code stat → Starts board code stat (laid_out (head board code stat) ++ rest)
  unfolding laid_out bytes_of reply_code
  starts_with rest b = record { at_0 = omega arith; at_1 = omega arith; at_2 = omega arith; at_3 = omega arith; at_4 = omega arith }

  longer_starts : (rest : List ℕ) → AreBytes board code stat → StartsLonger board code stat (start board code stat ++ rest)
  unfolding laid_out bytes_of
  longer_starts rest b = record { starts = starts_with (0 ∷ rest) b; at_5 = refl }

  length_row : (ws : List ℕ) → length (start board code stat ++ words ws) ≡ 6 + 2 * length ws
  unfolding laid_out bytes_of
  length_row ws = omega (arith, length_words ws)

  word_in : (ws : List ℕ) (k w : ℕ) → k < length ws → get_or ws k 0 ≡ w → w < 2 ^ 16
      → number 2 (drop (6 + 2 * k) (start board code stat ++ words ws)) ≡ w
  unfolding laid_out bytes_of
  word_in ws k w h e g =
      let n = rw append-nil at (word_behind 6 (start board code stat) ws [] k refl h) in
      omega arith

  -- the channel words behind n others
  module _ (on latched n : ℕ) (before behind : List ℕ) (e : length before ≡ n) (o : on < 2 ^ 32) (l : latched < 2 ^ 32) where
    abbrev row_around : List ℕ
    row_around = before ++ channel_words on latched ++ behind

    channel_word : (j p : ℕ) → j < 4 → p ≡ 6 + 2 * (n + j)
        → number 2 (drop p (start board code stat ++ words row_around)) ≡ get_or (channel_words on latched) j 0
    channel_word j p h q =
        let f = four on latched in
        let d = length-append before (channel_words on latched) in
        let m = length-append (before ++ channel_words on latched) behind in
        let w : get_or row_around (n + j) 0 ≡ get_or (channel_words on latched) j 0 =
        get_or-append (before ++ channel_words on latched) behind 0 (n + j) (omega arith) ∙ past before (channel_words on latched) n j e in
        rw q (word_in row_around (n + j) (get_or (channel_words on latched) j 0) (omega arith) w (channel_words_lem on latched o l j))

    channels_in : ChannelWords (6 + 2 * n) on latched (start board code stat ++ words row_around)
    unfolding channel_words
    channels_in =
        record {
          on_low = channel_word 0 (6 + 2 * n) (omega arith) (omega arith);
          on_high = channel_word 1 (6 + 2 * n + 2) (omega arith) (omega arith);
          latched_low = channel_word 2 (6 + 2 * n + 4) (omega arith) (omega arith);
          latched_high = channel_word 3 (6 + 2 * n + 6) (omega arith) (omega arith);
        }

  -- ---- the 5-byte reply

  pub length_short : length (short_reply board code stat) ≡ 5
  unfolding short_reply laid_out bytes_of
  length_short = refl

  pub shown_short : shown (reply_of (short_reply board code stat)) ≡ short_reply board code stat
  unfolding room
  shown_short = shown_fits (short_reply board code stat) (omega (arith, length_short))

  pub short_starts : AreBytes board code stat → Starts board code stat (short_reply board code stat)
  unfolding short_reply laid_out bytes_of
  short_starts b = starts_with [] b

  -- ---- 0x42

  module _ (on latched : ℕ) (counts : List ℕ) (all : length counts ≡ 32) where
    abbrev fault_bytes : List ℕ
    fault_bytes = faults_reply board code stat on latched counts

    abbrev fault_row : List ℕ
    fault_row = channel_words on latched ++ counts

    length_fault_row : length fault_row ≡ 36
    length_fault_row = length-append (channel_words on latched) counts ∙ omega (arith, four on latched)

    pub length_faults : length fault_bytes ≡ 78
    length_faults = rw (faults_row board code stat on latched counts) (length_row fault_row ∙ omega (arith, length_fault_row))

    pub shown_faults : shown (reply_of fault_bytes) ≡ fault_bytes
    unfolding room
    shown_faults = shown_fits fault_bytes (omega (arith, length_faults))

    pub faults_starts : AreBytes board code stat → StartsLonger board code stat fault_bytes
    faults_starts b = rw (faults_row board code stat on latched counts) (longer_starts (words fault_row) b)

    -- the channel words at 6, 8, 10 and 12
    pub faults_channels : on < 2 ^ 32 → latched < 2 ^ 32 → ChannelWords 6 on latched fault_bytes
    faults_channels o l = rw (faults_row board code stat on latched counts) (channels_in on latched 0 [] counts refl o l)

    -- the count of channel c at 14 + 2c
    pub count_at : AreWords counts → (c : ℕ) → c < 32 → number 2 (drop (14 + 2 * c) fault_bytes) ≡ get_or counts c 0
    count_at ws c h =
        let e : 14 + 2 * c ≡ 6 + 2 * (4 + c) = omega arith in
        rw (faults_row board code stat on latched counts, e)
        (word_in fault_row (4 + c) (get_or counts c 0) (omega (arith, length_fault_row)) (past (channel_words on latched) counts 4 c (four on latched)) (ws c))

  -- ---- 0x50

  module _ (on latched : ℕ) (ws : List ℕ) (all : length ws ≡ 122) where
    abbrev housekeeping_bytes : List ℕ
    housekeeping_bytes = housekeeping_reply board code stat on latched ws

    abbrev first_nine : List ℕ
    first_nine = take 5 ws ++ channel_words on latched

    abbrev housekeeping_row : List ℕ
    housekeeping_row = first_nine ++ drop 5 ws

    five : length (take 5 ws) ≡ 5
    five = length-take-le 5 ws (omega arith)

    nine : length first_nine ≡ 9
    nine = length-append (take 5 ws) (channel_words on latched) ∙ omega (arith, five, four on latched)

    length_housekeeping_row : length housekeeping_row ≡ 126
    length_housekeeping_row = length-append first_nine (drop 5 ws) ∙ omega (arith, nine, length-drop 5 ws)

    pub length_housekeeping : length housekeeping_bytes ≡ 258
    length_housekeeping = rw (housekeeping_row_lem board code stat on latched ws) (length_row housekeeping_row ∙ omega (arith, length_housekeeping_row))

    pub shown_housekeeping : shown (reply_of housekeeping_bytes) ≡ housekeeping_bytes
    unfolding room
    shown_housekeeping = shown_fits housekeeping_bytes (omega (arith, length_housekeeping))

    pub housekeeping_starts : AreBytes board code stat → StartsLonger board code stat housekeeping_bytes
    housekeeping_starts b = rw (housekeeping_row_lem board code stat on latched ws) (longer_starts (words housekeeping_row) b)

    -- words 0 to 4 from 6 on
    pub first_word_at : AreWords ws → (k : ℕ) → k < 5 → number 2 (drop (6 + 2 * k) housekeeping_bytes) ≡ get_or ws k 0
    first_word_at w k h =
        let e : get_or housekeeping_row k 0 ≡ get_or ws k 0 =
        get_or-append first_nine (drop 5 ws) 0 k (omega (arith, nine))
        ∙ get_or-append (take 5 ws) (channel_words on latched) 0 k (omega (arith, five))
        ∙ get_or-take 5 ws k 0 h in
        rw (housekeeping_row_lem board code stat on latched ws)
        (word_in housekeeping_row k (get_or ws k 0) (omega (arith, length_housekeeping_row)) e (w k))

    -- the channel words at 16, 18, 20 and 22
    pub housekeeping_channels : on < 2 ^ 32 → latched < 2 ^ 32 → ChannelWords 16 on latched housekeeping_bytes
    housekeeping_channels o l =
        rw (housekeeping_row_lem board code stat on latched ws) (channels_in on latched 5 (take 5 ws) (drop 5 ws) five o l)

    -- words 5 to 121 from 24 on
    pub later_word_at : AreWords ws → (j : ℕ) → j < 117 → number 2 (drop (24 + 2 * j) housekeeping_bytes) ≡ get_or ws (5 + j) 0
    later_word_at w j h =
        let e : 24 + 2 * j ≡ 6 + 2 * (9 + j) = omega arith in
        rw (housekeeping_row_lem board code stat on latched ws, e)
        (word_in housekeeping_row (9 + j) (get_or ws (5 + j) 0) (omega (arith, length_housekeeping_row))
        (past first_nine (drop 5 ws) 9 j nine ∙ get_or-drop 5 ws j 0) (w (5 + j)))

  -- ---- 0x82, 0x84 and 0x86

  module _ (id : ℕ) (value : List ℕ) where
    abbrev parameter_bytes : List ℕ
    parameter_bytes = parameter_reply board code stat id value

    pub length_parameter : length parameter_bytes ≡ 8 + length value
    unfolding parameter_reply laid_out bytes_of
    length_parameter = omega arith

    -- a value has 1 to 8 bytes
    pub shown_parameter : length value ≤ 8 → shown (reply_of parameter_bytes) ≡ parameter_bytes
    unfolding room
    shown_parameter h = shown_fits parameter_bytes (omega (arith, length_parameter))

    pub parameter_starts : AreBytes board code stat → StartsLonger board code stat parameter_bytes
    unfolding laid_out bytes_of
    parameter_starts b = rw (parameter_parts board code stat id value) (longer_starts (bytes_of 2 id ++ value) b)

    -- the id at 6, and from 8 on the value and nothing behind it
    pub id_at : id < 2 ^ 16 → number 2 (drop 6 parameter_bytes) ≡ id
    unfolding parameter_reply laid_out bytes_of number
    id_at h = omega arith

    pub value_at_lem : drop 8 parameter_bytes ≡ value
    unfolding parameter_reply laid_out bytes_of
    value_at_lem = refl
