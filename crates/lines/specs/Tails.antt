-- The tail of a line: what stands behind its fields. Characters are their ASCII codes: 45 is `-`, 46 is `.`.
-- Assumes nothing: these are definitions.
use Rattle.std.specs.Prelude.{ℕ, Option, Some, None}
use mathlib.Core.{Bool.cond, List.List}
use lib.{Dec.eqb, Dec.leb, ListN.length, ListN.get_or}
use Rattle.script.specs.Reading.{count_of}
use Rattle.lines.specs.declared.tails.Tail.{Tail}

-- `-`, `.`, or no tail of a form
abbrev pub sign_of : ℕ → Option Tail
sign_of c = cond (eqb c 45) (Some Tail.Dash) (cond (eqb c 46) (Some Tail.Dot) None)

abbrev pub string_of : Option ℕ → Option Tail
string_of (Some n) = Some (Tail.Bytes n)
string_of None = None

-- nothing, a sign, or pairs of digits that a buffer of so much room takes
unfoldable pub tail_of : ℕ → List ℕ → Option Tail
tail_of room text =
    cond (eqb (length text) 0) (Some Tail.Absent)
    (cond (eqb (length text) 1) (sign_of (get_or text 0 0)) (string_of (count_of 0 room text)))

-- the length of a byte string: `-` is one of no bytes, and nothing at all is none
abbrev pub string_length : Tail → Option ℕ
string_length Tail.Absent = None
string_length Tail.Dash = Some 0
string_length Tail.Dot = None
string_length (Tail.Bytes n) = Some n

-- a transfer has at most 300 bytes
abbrev pub transfer_of : ℕ → Option (Option ℕ)
transfer_of n = cond (leb n 300) (Some (Some n)) None

-- the transfer of a tick: `-` is none, `.` one of no bytes
abbrev pub sent_by : Tail → Option (Option ℕ)
sent_by Tail.Absent = None
sent_by Tail.Dash = Some None
sent_by Tail.Dot = Some (Some 0)
sent_by (Tail.Bytes n) = transfer_of n
