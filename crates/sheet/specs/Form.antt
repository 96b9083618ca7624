-- The session sheet's form, as document 01 gives it: each part reads a text from a place on, and goes on behind what it
-- read. Characters are their ASCII codes: 10 ends a line, 32 is a space, 45 is `-`. Assumes nothing: these are
-- definitions.
use Rattle.std.specs.Prelude.{ℕ, zero, suc, ◌+◌, Option, Some, None}
use mathlib.Core.{Bool.Bool, Bool.cond, List.List, List.[], List.◌∷◌}
use lib.{Dec.leb, IntN.ℤ, ListN.length}
use Rattle.hexadecimal.specs.Hex.{payload_of}
use Rattle.channels.specs.Sets.{with_channel}
use Rattle.grammar.specs.Grammar.{Read, fails, reads, Parser, ◌>>=◌, ◌>>◌, ◌<|>◌, pure, byte, end, times, text, up_to}
use Rattle.grammar.specs.Numbers.{number, signed, word}

-- goes on where a test holds
abbrev pub where_true : Bool → Parser (Unit {0})
where_true t s i = cond t (reads tt i) fails

-- ---- before the ticks

-- a word, a number of at most a limit, and the line's end
unfoldable pub count : List ℕ → ℕ → Parser ℕ
count name limit = do
  text name
  n ← number limit
  byte 10
  pure n

-- behind a channel: one space where others follow, the line's end where none does
unfoldable pub gap : ℕ → Parser (Unit {0})
gap zero = byte 10
gap (suc n) = byte 32

-- so many channels 0 to 31, each at least as high as `least`, put to those of the set, and behind the last the line's
-- end: the next has to be higher
unfoldable pub channels_from : ℕ → ℕ → ℕ → Parser ℕ
channels_from zero least set = pure set
channels_from (suc n) least set = do
  c ← number 31
  where_true (leb least c)
  gap n
  channels_from n (c + 1) (with_channel set c)

-- a list of none still has its line
unfoldable pub channel_list : ℕ → Parser ℕ
channel_list zero = byte 10 >> pure 0
channel_list (suc n) = channels_from (suc n) 0 0

-- a set of channels after its count
unfoldable pub channel_set : List ℕ → Parser ℕ
channel_set name = do
  n ← count name 32
  channel_list n

-- board, fitted, forced, ticks, each with a space behind it
abbrev pub board_word : List ℕ
board_word = 98 ∷ 111 ∷ 97 ∷ 114 ∷ 100 ∷ 32 ∷ []

abbrev pub fitted_word : List ℕ
fitted_word = 102 ∷ 105 ∷ 116 ∷ 116 ∷ 101 ∷ 100 ∷ 32 ∷ []

abbrev pub forced_word : List ℕ
forced_word = 102 ∷ 111 ∷ 114 ∷ 99 ∷ 101 ∷ 100 ∷ 32 ∷ []

abbrev pub ticks_word : List ℕ
ticks_word = 116 ∷ 105 ∷ 99 ∷ 107 ∷ 115 ∷ 32 ∷ []

-- what stands before the ticks; `first` is the place of the first tick line
pub record Top : Type 0 where
  pub bid : ℕ
  pub fitted : ℕ
  pub forced : ℕ
  pub count : ℕ
  pub first : ℕ

abbrev pub top_at : ℕ → ℕ → ℕ → ℕ → Parser Top
top_at bid fitted forced count s i = reads (record { bid = bid; fitted = fitted; forced = forced; count = count; first = i }) i

unfoldable pub head : Parser Top
head = do
  bid ← count board_word 255
  fitted ← channel_set fitted_word
  forced ← channel_set forced_word
  ticks ← count ticks_word 4096
  top_at bid fitted forced ticks

-- ---- a tick line

-- no transfer, or the bytes of one
pub data Transfer : Type 0 where
  silence : Transfer
  bytes : List ℕ → Transfer

-- its bytes, of which there are none without a transfer
abbrev pub bytes_of : Transfer → List ℕ
bytes_of silence = []
bytes_of (bytes bs) = bs

-- the bytes that a command spells, where it ends before a place
abbrev pub spells : Option (List ℕ) → ℕ → Read Transfer
spells None i = fails
spells (Some bs) i = reads (bytes bs) i

-- `-`, or pairs of hex digits as on the text line; then the line's end
unfoldable pub command : Parser Transfer
command =
    (text (45 ∷ 10 ∷ []) >> pure silence)
    <|> (do
      t ← up_to 10
      byte 10
      λ s. spells (payload_of t))

pub record Tick : Type 0 where
  pub rail : ℤ
  pub overcurrent : ℕ
  pub transfer : Transfer

-- a tick line whose transfer may have any length
unfoldable pub any_tick_line : Parser Tick
any_tick_line = do
  rail ← signed
  byte 32
  overcurrent ← word 8 0
  byte 32
  transfer ← command
  pure (record { rail = rail; overcurrent = overcurrent; transfer = transfer })

-- a transfer has at most so many bytes
abbrev pub within : ℕ → Tick → Bool
within most tick = leb (length (bytes_of tick.transfer)) most

-- a tick line whose transfer has at most so many
unfoldable pub tick_line : ℕ → Parser Tick
tick_line most = do
  tick ← any_tick_line
  where_true (within most tick)
  pure tick

-- ---- the whole sheet: at most 65,536 bytes, and none behind the last tick line

pub record Sheet : Type 0 where
  pub top : Top
  pub ticks : List Tick

unfoldable pub sheet : Parser Sheet
sheet = do
  top ← head
  ticks ← times top.count (tick_line 256)
  end
  pure (record { top = top; ticks = ticks })

unfoldable pub sheet_in : List ℕ → Read Sheet
sheet_in s = cond (leb (length s) 65536) (sheet s 0) fails
