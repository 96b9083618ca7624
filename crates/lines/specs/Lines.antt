-- The form of each line: its letter, its fields, which are numbers of fixed width at fixed places with one space (32)
-- between them, and its tail. A place past the end of a line holds no digit and no space, so that a line whose fields
-- are there is as long as they are. Assumes nothing: these are definitions.
use Rattle.std.specs.Prelude.{ℕ, ◌*◌, ◌%◌, Option, Some, None, option_and_then}
use mathlib.Core.{Bool.Bool, Bool.cond, Bool.◌&&◌, List.List}
use lib.{Dec.eqb, Dec.leb, ListN.get_or, ListN.drop}
use Rattle.wire.specs.declared.forms.Form.{Form}
use Rattle.wire.specs.declared.forms.Form.TheVariants.{Raw, Ascii}
use Rattle.script.specs.{Reading.field_of, Reading.sound}
use Rattle.lines.specs.{Tails.tail_of, Tails.string_length, Tails.sent_by, declared.tails.Tail.Tail}
use Rattle.kinds.specs.{Kinds.board_of, declared.Kind.Kind}
use Rattle.kinds.specs.declared.Kind.TheVariants.{Distribution, Battery}
use Rattle.lines.specs.{declared.Named.Named, declared.Asked.Asked, declared.Look.Look}

-- ---- fields

abbrev pub space_at : ℕ → List ℕ → Bool
space_at place line = eqb (get_or line place 0) 32

-- spaces stand at three places
unfoldable pub separated : ℕ → ℕ → ℕ → List ℕ → Bool
separated a b c line = space_at a line && space_at b line && space_at c line

-- the number of k digits at a place
abbrev pub number_at : ℕ → ℕ → List ℕ → Option ℕ
number_at place k line = field_of 0 k (drop place line)

-- a number up to a limit
abbrev pub limited : ℕ → Option ℕ → Option ℕ
limited most (Some n) = cond (leb n most) (Some n) None
limited most None = None

-- four digits behind the letter and a space
unfoldable pub size_of : ℕ → List ℕ → Option ℕ
size_of most line = cond (space_at 1 line) (limited most (number_at 2 4 line)) None

-- ---- B bb ffffffff gggggggg: a distribution board whose profile names raw

abbrev pub profile_from : Kind → Form → Option ℕ → Option ℕ → Option ℕ → Option Named
profile_from kind form None second third = None
profile_from kind form (Some bid) None third = None
profile_from kind form (Some bid) (Some fitted) None = None
profile_from kind form (Some bid) (Some fitted) (Some forced) =
    Some (record { bid = bid % 256; fitted = fitted; forced = forced; kind = kind; form = form })

unfoldable pub profile_of : Kind → Form → List ℕ → Option Named
profile_of kind form line = cond (separated 1 4 13 line) (profile_from kind form (number_at 2 2 line) (number_at 5 8 line) (number_at 14 8 line)) None

abbrev pub start_from : Option Named → Option Asked
start_from None = None
start_from (Some board) = Some (Asked.Start (record { board = board; stored = None }))

-- ---- P bb ffffffff gggggggg cccc STORED: the same, and behind it a save count and 268 bytes

abbrev pub stored_from : Option Named → Option ℕ → Option Asked
stored_from None count = None
stored_from (Some board) None = None
stored_from (Some board) (Some n) = Some (Asked.Start (record { board = board; stored = Some (n % 65536) }))

abbrev pub stored_in : Option Named → List ℕ → Option ℕ → Option Asked
stored_in profile behind None = None
stored_in profile behind (Some n) =
    cond (eqb n 268) (cond (separated 0 5 5 behind) (stored_from profile (number_at 1 4 behind)) None) None

-- ---- Q ss bb ffffffff gggggggg o f: STID, BID, fitted set, forced set, option digit, form; and the same with stored
-- settings, V ss bb ffffffff gggggggg o f cccc STORED

-- bit 0 of the option digit: the ABF is placed
abbrev pub abf_in : ℕ → Bool
abf_in option = eqb (option % 2) 1

-- the board of an STID, where there is one; an option that the board does not have is ignored
abbrev pub kind_of : ℕ → ℕ → Option Kind
kind_of stid option =
    cond (eqb stid (board_of Distribution).stid) (Some Distribution)
    (cond (eqb stid (board_of (Battery (abf_in option))).stid) (Some (Battery (abf_in option))) None)

abbrev pub kind_from : Option ℕ → Option ℕ → Option Kind
kind_from None option = None
kind_from (Some stid) None = None
kind_from (Some stid) (Some option) = kind_of stid option

-- the option digit is `0` to `3`
unfoldable pub kind_in : List ℕ → Option Kind
kind_in line =
    cond (separated 1 25 27 line)
    (kind_from (number_at 2 2 line) (limited 3 (number_at 26 1 line)))
    None

-- the form is `R` (82), which names raw, or `-` (45), which names none: the board then starts in ASCII form
abbrev pub form_of : ℕ → Option Form
form_of letter = cond (eqb letter 82) (Some Raw) (cond (eqb letter 45) (Some Ascii) None)

-- BID, fitted set and forced set stand behind the STID as they stand behind the letter of a B line
abbrev pub board_from : Option Kind → Option Form → List ℕ → Option Named
board_from None starts profile = None
board_from (Some kind) None profile = None
board_from (Some kind) (Some form) profile = profile_of kind form profile

unfoldable pub board_in : List ℕ → Option Named
board_in line = board_from (kind_in line) (form_of (get_or line 28 0)) (drop 3 line)

-- ---- W COUNT WORDS: at most 512 words of two bytes

abbrev pub lend_from : Option ℕ → Option ℕ → Option Asked
lend_from None string = None
lend_from (Some n) None = None
lend_from (Some n) (Some bytes) = cond (eqb bytes (2 * n)) (Some (Asked.Lend n)) None

unfoldable pub lend_in : List ℕ → Option ℕ → Option Asked
lend_in line string = cond (space_at 6 line) (lend_from (size_of 512 line) string) None

-- ---- T rrrr oooooooo CMD

abbrev pub tick_from : Option ℕ → Option ℕ → Option (Option ℕ) → Option Asked
tick_from None second sent = None
tick_from (Some rail) None sent = None
tick_from (Some rail) (Some overcurrent) None = None
tick_from (Some rail) (Some overcurrent) (Some transfer) = Some (Asked.Tick (rail % 65536) overcurrent transfer)

unfoldable pub tick_in : List ℕ → Option (Option ℕ) → Option Asked
tick_in line sent = cond (separated 1 6 15 line) (tick_from (number_at 2 4 line) (number_at 7 8 line) sent) None

-- ---- L ssss BYTES: at most 512 bytes of scratch, at most 600 received

abbrev pub receive_from : Option ℕ → Option ℕ → Option Asked
receive_from None string = None
receive_from (Some n) None = None
receive_from (Some n) (Some count) = cond (leb count 600) (Some (Asked.Receive n count)) None

unfoldable pub receive_in : List ℕ → Option ℕ → Option Asked
receive_in line string = cond (space_at 6 line) (receive_from (size_of 512 line) string) None

-- ---- R nnnn, at most 512 bytes, and F nnnn, at most 1,024

abbrev pub read_from : Option ℕ → Option Asked
read_from (Some n) = Some (Asked.Look (Look.Read n))
read_from None = None

abbrev pub frame_from : Option ℕ → Option Asked
frame_from (Some n) = Some (Asked.Look (Look.Frame n))
frame_from None = None

-- ---- a line by its letter

-- nothing stands behind the fields
abbrev pub bare : Option Asked → Tail → Option Asked
bare asked Tail.Absent = asked
bare asked Tail.Dash = None
bare asked Tail.Dot = None
bare asked (Tail.Bytes n) = None

-- B, P, W, T, R, L, F, S, Q, V
unfoldable pub line_by : ℕ → List ℕ → Tail → Option Asked
line_by letter line end =
    cond (eqb letter 66) (bare (start_from (profile_of Distribution Raw line)) end)
    (cond (eqb letter 80) (stored_in (profile_of Distribution Raw line) (drop 22 line) (string_length end))
    (cond (eqb letter 87) (lend_in line (string_length end))
    (cond (eqb letter 84) (tick_in line (sent_by end))
    (cond (eqb letter 82) (bare (read_from (size_of 512 line)) end)
    (cond (eqb letter 76) (receive_in line (string_length end))
    (cond (eqb letter 70) (bare (frame_from (size_of 1024 line)) end)
    (cond (eqb letter 83) (bare (Some (Asked.Look Look.Show)) end)
    (cond (eqb letter 81) (bare (start_from (board_in line)) end)
    (cond (eqb letter 86) (stored_in (board_in line) (drop 29 line) (string_length end)) None)))))))))

-- how wide the letter and the fields are
unfoldable pub width_of : ℕ → ℕ
width_of letter =
    cond (eqb letter 66) 22
    (cond (eqb letter 80) 28
    (cond (eqb letter 87) 7
    (cond (eqb letter 84) 16
    (cond (eqb letter 82) 6
    (cond (eqb letter 76) 7
    (cond (eqb letter 70) 6
    (cond (eqb letter 83) 1
    (cond (eqb letter 81) 29
    (cond (eqb letter 86) 35 0)))))))))

-- what stands behind them
unfoldable pub behind_fields : List ℕ → List ℕ
behind_fields line = drop (width_of (get_or line 0 0)) line

-- what a line asks for, where its byte string goes into a buffer of so much room
unfoldable pub asked_of : ℕ → List ℕ → Option Asked
asked_of room line = option_and_then (line_by (get_or line 0 0) line) (tail_of room (behind_fields line))

-- the bytes that its byte string spells
unfoldable pub spelt_by : List ℕ → List ℕ
spelt_by line = sound (behind_fields line)
