-- What the readers of a sheet answer and what a lent buffer then holds, by the form. Assumes nothing: these are
-- definitions.
use Rattle.std.specs.Prelude.{ℕ, Option, Some, None, Result, Ok, Err}
use mathlib.Core.{Bool.Bool, Bool.true, Bool.false, Bool.cond, List.List}
use lib.{Dec.leb, ListN.length}
use Rattle.hexadecimal.specs.{Hex.laid, declared.PayloadRefusal.PayloadRefusal}
use Rattle.grammar.specs.{Grammar.Read, Grammar.fails, Grammar.reads, Grammar.on, Grammar.times, Grammar.end, declared.Found.Found}
use Rattle.sheet.specs.Form.{Top, Transfer, silence, bytes, bytes_of, Tick, any_tick_line, within, tick_line, Sheet}
use Rattle.sheet.specs.{declared.head.Head.Head, declared.ticks.TickLine.TickLine, declared.ticks.TickRefusal.TickRefusal}
use Rattle.sheet.specs.declared.ticks.TickRefusal.TheVariants.{NotOfForm, TransferTooLong}

-- ---- before the ticks
abbrev pub head_by : Top → Head
head_by top = record { bid = top.bid; fitted = top.fitted; forced = top.forced; ticks = top.count; first = top.first }

abbrev pub head_of : Read Top → Option Head
head_of fails = None
head_of (reads top i) = Some (head_by top)

-- ---- a tick line: whether it has a transfer and how long that is are told, and its bytes then stand at the front of
-- the buffer
abbrev pub is_sent : Transfer → Bool
is_sent silence = false
is_sent (bytes bs) = true

abbrev pub sent_length : Transfer → Option ℕ
sent_length silence = None
sent_length (bytes bs) = Some (length bs)

-- what a payload's refusal is in a tick line
abbrev pub refused_by : PayloadRefusal → TickRefusal
refused_by PayloadRefusal.NotOfForm = NotOfForm
refused_by PayloadRefusal.TooShort = TransferTooLong

abbrev pub command_of : ℕ → Read Transfer → Result (Found (Option ℕ)) TickRefusal
command_of room fails = Err NotOfForm
command_of room (reads t i) = cond (leb (length (bytes_of t)) room) (Ok (record { value = sent_length t; next = i })) (Err TransferTooLong)

abbrev pub command_held : Read Transfer → List ℕ → List ℕ
command_held fails held = held
command_held (reads t i) held = laid (bytes_of t) held

-- what a line says, with the place behind it
abbrev pub line_by : Tick → ℕ → TickLine
line_by tick next = record { rail = tick.rail; overcurrent = tick.overcurrent; transfer = sent_length tick.transfer; next = next }

-- what a line that is of the form for a transfer of any length answers where the buffer has that much room
abbrev pub tick_of : ℕ → Read Tick → Result TickLine TickRefusal
tick_of room fails = Err NotOfForm
tick_of room (reads tick i) = cond (within room tick) (Ok (line_by tick i)) (Err TransferTooLong)

abbrev pub tick_held : Read Tick → List ℕ → List ℕ
tick_held fails held = held
tick_held (reads tick i) held = laid (bytes_of tick.transfer) held

-- ---- the whole sheet
abbrev pub is_read : {A : Type 0} → Read A → Bool
is_read fails = false
is_read (reads a i) = true

-- so many tick lines from a place on, and nothing behind them
unfoldable pub are_ticks : ℕ → List ℕ → ℕ → Bool
are_ticks n s first = is_read (on (times n (tick_line 256) s first) (λ ticks i. end s i))

abbrev pub sheet_head : Read Sheet → Option Head
sheet_head fails = None
sheet_head (reads sheet i) = Some (head_by sheet.top)

-- 14 where a sheet is not of the form
abbrev pub head_number : Option Head → ℕ
head_number (Some head) = 0
head_number None = 14

-- 14 where a tick line is not of the form, and 13 where it is, but the buffer is too short for the bytes of its
-- transfer
abbrev pub tick_number : Result TickLine TickRefusal → ℕ
tick_number (Ok line) = 0
tick_number (Err NotOfForm) = 14
tick_number (Err TransferTooLong) = 13

-- the number by the form: 0 for a tick line whose transfer has at most so many bytes, 13 for one whose transfer has
-- more, 14 for what is none
unfoldable pub tick_refusal : ℕ → List ℕ → ℕ → ℕ
tick_refusal most s i = cond (is_read (tick_line most s i)) 0 (cond (is_read (any_tick_line s i)) 13 14)
