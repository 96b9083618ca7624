-- What a read of the text line answers, what the scratch buffer then holds, and the payload handed on. Assumes nothing:
-- these are definitions.
use Rattle.std.specs.Prelude.{ℕ, ◌-◌, Option, Some, None, Result, Ok, Err}
use mathlib.Core.{Bool.Bool, Bool.cond, Bool.◌&&◌, List.List, List.[], List.◌∷◌}
use lib.{Dec.eqb, Dec.ltb, ListN.length, ListN.take, ListN.drop}
use Rattle.wire.specs.declared.forms.Form.{Form}
use Rattle.wire.specs.declared.forms.Form.TheVariants.{Raw, Ascii}
use Rattle.hexadecimal.specs.{Hex.payload_of, Hex.read_of, Hex.held_after, declared.PayloadRefusal.PayloadRefusal}
use Rattle.frames.specs.{Frames.starts_with, Frames.frame_of, declared.Frame.Frame}
use Rattle.reading.specs.{declared.Line.Line, declared.LineRefusal.LineRefusal}
use Rattle.reading.specs.declared.Line.TheVariants.{Command, Switch}
use Rattle.reading.specs.declared.LineRefusal.TheVariants.{NoFrame, TooLong, NotOfForm, ScratchTooShort}

-- the bytes from start up to end, as far as they are there
unfoldable pub part : ℕ → ℕ → List ℕ → List ℕ
part start end s = take (end - start) (drop start s)

-- what stands between the tags of a frame
abbrev pub payload_at : Frame → List ℕ → List ℕ
payload_at frame s = part frame.start frame.end s

-- a read of the text line: what the frame there is, or why it is refused
abbrev pub LineAnswer : Type 0
LineAnswer = Result Line LineRefusal

-- ---- the form switch

-- the text of a switch: <cfg:raw/> and <cfg:ascii/>
abbrev pub switch_text : Form → List ℕ
switch_text Raw = 60 ∷ 99 ∷ 102 ∷ 103 ∷ 58 ∷ 114 ∷ 97 ∷ 119 ∷ 47 ∷ 62 ∷ []
switch_text Ascii = 60 ∷ 99 ∷ 102 ∷ 103 ∷ 58 ∷ 97 ∷ 115 ∷ 99 ∷ 105 ∷ 105 ∷ 47 ∷ 62 ∷ []

-- two texts of one length, one of which starts with the other
unfoldable pub same : List ℕ → List ℕ → Bool
same s text = eqb (length s) (length text) && starts_with text s

-- only the exact text is a switch
unfoldable pub switch_of : List ℕ → Option Form
switch_of payload = cond (same payload (switch_text Raw)) (Some Raw) (cond (same payload (switch_text Ascii)) (Some Ascii) None)

-- ---- a payload that is no switch, in a frame whose end has the place behind

-- in ASCII form: the bytes that the pairs spell, from the front of the scratch buffer on; 12 where they are not of the
-- form, 13 where there is no room
abbrev pub spelt : ℕ → Result ℕ PayloadRefusal → LineAnswer
spelt behind (Ok n) = Ok (Command 0 n behind)
spelt behind (Err PayloadRefusal.NotOfForm) = Err (NotOfForm behind)
spelt behind (Err PayloadRefusal.TooShort) = Err (ScratchTooShort behind)

unfoldable pub ascii_line : ℕ → List ℕ → ℕ → LineAnswer
ascii_line behind payload room = spelt behind (read_of (payload_of payload) room)

-- in raw form: what was received, from the opening tag's end up to the closing tag
abbrev pub in_form : Form → List ℕ → Frame → ℕ → LineAnswer
in_form Raw payload frame room = Ok (Command frame.start frame.end frame.behind)
in_form Ascii payload frame room = ascii_line frame.behind payload room

-- 11 comes before 12 and 13
unfoldable pub command_line : Form → List ℕ → Frame → ℕ → LineAnswer
command_line form payload frame room = cond (ltb 256 (length payload)) (Err (TooLong frame.behind)) (in_form form payload frame room)

-- what the scratch buffer holds after it
abbrev pub held_in : Form → List ℕ → List ℕ → List ℕ
held_in Raw payload held = held
held_in Ascii payload held = held_after (payload_of payload) held

unfoldable pub command_held : Form → List ℕ → List ℕ → List ℕ
command_held form payload held = cond (ltb 256 (length payload)) held (held_in form payload held)

-- ---- the read, by the form in force, with so much room in the scratch buffer

abbrev pub switching : Option Form → Form → List ℕ → Frame → ℕ → LineAnswer
switching (Some new) form payload frame room = Ok (Switch new frame.behind)
switching None form payload frame room = command_line form payload frame room

abbrev pub line_in : Option Frame → Form → List ℕ → ℕ → LineAnswer
line_in None form s room = Err NoFrame  -- 10
line_in (Some frame) form s room = switching (switch_of (payload_at frame s)) form (payload_at frame s) frame room

unfoldable pub line_of : Form → List ℕ → ℕ → LineAnswer
line_of form s room = line_in (frame_of s) form s room

-- a switch leaves the scratch buffer, and so does a line with no frame
abbrev pub switch_held : Option Form → Form → List ℕ → List ℕ → List ℕ
switch_held (Some new) form payload held = held
switch_held None form payload held = command_held form payload held

abbrev pub held_by : Option Frame → Form → List ℕ → List ℕ → List ℕ
held_by None form s held = held
held_by (Some frame) form s held = switch_held (switch_of (payload_at frame s)) form (payload_at frame s) held

unfoldable pub line_held : Form → List ℕ → List ℕ → List ℕ
line_held form s held = held_by (frame_of s) form s held

-- ---- the payload handed on: in raw form a part of what was received, in ASCII form a part of the scratch buffer
abbrev pub payload_in : Form → List ℕ → List ℕ → ℕ → ℕ → List ℕ
payload_in Raw received scratch start end = part start end received
payload_in Ascii received scratch start end = part start end scratch
