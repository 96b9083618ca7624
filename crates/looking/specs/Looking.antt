-- What a line prints that only looks at a machine, and what a read of its text line prints. Characters are their ASCII
-- codes: 10 ends a line. Assumes nothing: these are definitions.
use Rattle.std.specs.Prelude.{ℕ, List, [], ◌∷◌, ◌++◌, min, length, take, Ok, Err}
use Rattle.wire.specs.{Replies.found, declared.forms.Form.Form}
use Rattle.hexadecimal.specs.Hex.{laid}
use Rattle.reading.specs.{Lines.LineAnswer, Lines.payload_in, declared.Line.Line}
use Rattle.framing.specs.Framing.{framed_of}
use Rattle.unit.specs.{Machine.due_of, declared.Machine.Machine}
use Rattle.script.specs.Printing.{hex_of}
use Rattle.lines.specs.declared.Look.{Look}
use Rattle.showing.specs.Showing.{state_line}
use Rattle.speaking.specs.Speaking.{heard_line, framed_line, blank}

-- ---- the text line, with a scratch buffer or an output of so many bytes, all 0xEE before

-- the payload that a line brings: a command's, and else none
abbrev pub payload_of : LineAnswer → Form → List ℕ → List ℕ → List ℕ
payload_of (Ok (Line.Command start end behind)) form received scratch = payload_in form received scratch start end
payload_of (Ok (Line.Switch to behind)) form received scratch = []
payload_of (Err refusal) form received scratch = []

unfoldable pub answer_line : LineAnswer → Form → List ℕ → List ℕ → List ℕ
answer_line line form received scratch = heard_line line (payload_of line form received scratch) scratch

unfoldable pub framing_line : Machine → List ℕ → List ℕ
framing_line m output = framed_line (framed_of (due_of m) (length output)) (laid (due_of m) output)

-- ---- what changes nothing: a bus read, a framing, the state

unfoldable pub read_line : Machine → ℕ → List ℕ
read_line m count = hex_of (found m.board.reply (min count 1024)) ++ 10 ∷ []

unfoldable pub look_line : Machine → Look → List ℕ
look_line m (Look.Read count) = read_line m count
look_line m (Look.Frame room) = framing_line m (take room blank)
look_line m Look.Show = state_line m.board
