-- The replies, as the ICD's pages lay them out: a list of fields, of which `2 bytes x` is x in two bytes, and `laid_out`
-- is their bytes in a row. xs ++ ys is xs and then ys, `take n` are the first n of a list and `drop n` what follows
-- them. A set of channels is a number whose bit c is channel c. Assumes nothing: these are definitions.
use Rattle.std.specs.Prelude.{ℕ, ◌/◌, ◌%◌, ◌^◌, Bool, cond, List, [], ◌∷◌, ◌++◌, map, take, drop}
use Rattle.wire.specs.Replies.{Field, ◌bytes◌, laid_out, reply_code}
use Rattle.command.specs.declared.Header.{Header}

-- STID, IVID, RC, BID, STAT: RC is the command's code with the lowest bit set, the other identifiers are the board's
-- own
abbrev pub head : Header → ℕ → ℕ → List Field
head board code stat = (1 bytes board.stid) ∷ (1 bytes board.ivid) ∷ (1 bytes reply_code code) ∷ (1 bytes board.bid) ∷ (1 bytes stat) ∷ []

-- a reserved byte is 0
abbrev pub reserved : List Field
reserved = (1 bytes 0) ∷ []

-- words, two bytes each
abbrev pub word_fields : List ℕ → List Field
word_fields ws = map (λ w. 2 bytes w) ws

-- STAT_CH_ON, STAT_CH_EXT_ON, STAT_CH_OCF, STAT_CH_EXT_OCF: of the channels on and then of those latched, channels 0 to
-- 15 and channels 16 to 31
unfoldable pub channel_words : ℕ → ℕ → List ℕ
channel_words on latched = on % 2 ^ 16 ∷ on / 2 ^ 16 ∷ latched % 2 ^ 16 ∷ latched / 2 ^ 16 ∷ []

abbrev pub channel_fields : ℕ → ℕ → List Field
channel_fields on latched = word_fields (channel_words on latched)

-- the 5-byte reply: of a refusal, and of each command that has no other
unfoldable pub short_reply : Header → ℕ → ℕ → List ℕ
short_reply board code stat = laid_out (head board code stat)

-- 0x42 (pages 43 and 44): the channel words, then a count for each channel
unfoldable pub faults_reply : Header → ℕ → ℕ → ℕ → ℕ → List ℕ → List ℕ
faults_reply board code stat on latched counts =
    laid_out (head board code stat ++ reserved ++ channel_fields on latched ++ word_fields counts)

-- 0x50 and 0x52 (pages 47 to 53; page 51 has 12 and 16 for the 8 and 10 of TEMP_MCU and VIP_INPUT): the first five of
-- the measured words, the channel words, then the other measured words
unfoldable pub housekeeping_reply : Header → ℕ → ℕ → ℕ → ℕ → List ℕ → List ℕ
housekeeping_reply board code stat on latched words =
    laid_out (head board code stat ++ reserved ++ word_fields (take 5 words) ++ channel_fields on latched ++ word_fields (drop 5 words))

-- 0x82, 0x84, 0x86 (pages 65 to 68; page 66 has RC and BID in each other's place): the id, then the bytes of the value
unfoldable pub parameter_reply : Header → ℕ → ℕ → ℕ → List ℕ → List ℕ
parameter_reply board code stat id value = laid_out (head board code stat ++ reserved ++ (2 bytes id) ∷ []) ++ value

-- 0x44 (page 46): ABF_PLACED_0 and ABF_PLACED_1, 0xAB where the ABF is placed and 0x00 where it is not
abbrev pub abf_byte : Bool → ℕ
abf_byte placed = cond placed 0xAB 0x00

unfoldable pub abf_reply : Header → ℕ → ℕ → Bool → List ℕ
abf_reply board code stat placed = laid_out (head board code stat ++ reserved ++ (1 bytes abf_byte placed) ∷ (1 bytes abf_byte placed) ∷ [])

-- 0x60 and 0x62 (pages 55 to 58; page 57 has 12 for the 8 of TEMP_MCU, and CC for RC): the measured words
unfoldable pub battery_reply : Header → ℕ → ℕ → List ℕ → List ℕ
battery_reply board code stat words = laid_out (head board code stat ++ reserved ++ word_fields words)
