-- What a read of the text line and a framing print, and the buffer that is lent for it. Characters are their ASCII
-- codes: 32 is a space, 10 ends a line. Assumes nothing: these are definitions.
use Rattle.std.specs.Prelude.{ℕ, List, [], ◌∷◌, ◌++◌, replicate, Result, Ok, Err}
use Rattle.wire.specs.declared.forms.Form.{Form}
use Rattle.reading.specs.{Lines.LineAnswer, declared.Line.Line, declared.LineRefusal.LineRefusal}
use Rattle.framing.specs.declared.FrameRefusal.{FrameRefusal}
use Rattle.script.specs.Printing.{hex_of, field_of}

-- form raw; form ascii
abbrev pub form_name : Form → List ℕ
form_name Form.Raw = 102 ∷ 111 ∷ 114 ∷ 109 ∷ 32 ∷ 114 ∷ 97 ∷ 119 ∷ []
form_name Form.Ascii = 102 ∷ 111 ∷ 114 ∷ 109 ∷ 32 ∷ 97 ∷ 115 ∷ 99 ∷ 105 ∷ 105 ∷ []

-- refused 1., with its last digit
abbrev pub refused : ℕ → List ℕ
refused digit = 114 ∷ 101 ∷ 102 ∷ 117 ∷ 115 ∷ 101 ∷ 100 ∷ 32 ∷ 49 ∷ digit ∷ []

-- `command`, the place and the payload
unfoldable pub command_text : ℕ → List ℕ → List ℕ
command_text behind payload = (99 ∷ 111 ∷ 109 ∷ 109 ∷ 97 ∷ 110 ∷ 100 ∷ []) ++ field_of 4 behind ++ 32 ∷ hex_of payload

-- a command, a form with its place, `refused 10`, or `refused` with its place
unfoldable pub line_text : LineAnswer → List ℕ → List ℕ
line_text (Ok (Line.Command start end behind)) payload = command_text behind payload
line_text (Ok (Line.Switch form behind)) payload = form_name form ++ field_of 4 behind
line_text (Err LineRefusal.NoFrame) payload = refused 48
line_text (Err (LineRefusal.TooLong behind)) payload = refused 49 ++ field_of 4 behind
line_text (Err (LineRefusal.NotOfForm behind)) payload = refused 50 ++ field_of 4 behind
line_text (Err (LineRefusal.ScratchTooShort behind)) payload = refused 51 ++ field_of 4 behind

-- then, always, the whole of the buffer that was lent
abbrev pub whole_text : List ℕ → List ℕ
whole_text buffer = (32 ∷ hex_of buffer) ++ 10 ∷ []

unfoldable pub heard_line : LineAnswer → List ℕ → List ℕ → List ℕ
heard_line line payload scratch = line_text line payload ++ whole_text scratch

-- `written` with how many bytes, or `refused 13`
unfoldable pub framed_text : Result ℕ FrameRefusal → List ℕ
framed_text (Ok n) = (119 ∷ 114 ∷ 105 ∷ 116 ∷ 116 ∷ 101 ∷ 110 ∷ []) ++ field_of 4 n
framed_text (Err FrameRefusal.OutputTooShort) = refused 51

unfoldable pub framed_line : Result ℕ FrameRefusal → List ℕ → List ℕ
framed_line answer buffer = framed_text answer ++ whole_text buffer

-- a buffer before it is lent: each byte is 0xEE
unfoldable pub blank : List ℕ
blank = replicate 1024 0xEE
