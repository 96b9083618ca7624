-- Document 01's number for each answer of a read and the place that it tells. 0 stands for an answer that is no
-- refusal. Assumes nothing: these are definitions.
use Rattle.std.specs.Prelude.{ℕ, Bool, true, false, cond, not, ◌&&◌, ◌||◌, List, [], Option, Some, None, Ok, Err}
use lib.{Dec.ltb, ListN.length}
use Rattle.wire.specs.declared.forms.Form.{Form}
use Rattle.wire.specs.declared.forms.Form.TheVariants.{Raw, Ascii}
use Rattle.hexadecimal.specs.{Hex.payload_of, Answers.is_of_form, Answers.bytes_in}
use Rattle.frames.specs.{Frames.frame_of, Answers.has_frame, declared.Frame.Frame}
use Rattle.reading.specs.Lines.{payload_at, LineAnswer, switch_text, same}
use Rattle.reading.specs.declared.Line.TheVariants.{Command, Switch}
use Rattle.reading.specs.declared.LineRefusal.TheVariants.{NoFrame, TooLong, NotOfForm, ScratchTooShort}

abbrev pub line_number : LineAnswer → ℕ
line_number (Ok line) = 0
line_number (Err NoFrame) = 10
line_number (Err (TooLong behind)) = 11
line_number (Err (NotOfForm behind)) = 12
line_number (Err (ScratchTooShort behind)) = 13

-- the place behind the closing tag; 10 has none
abbrev pub line_tells : LineAnswer → Option ℕ
line_tells (Ok (Command start end behind)) = Some behind
line_tells (Ok (Switch form behind)) = Some behind
line_tells (Err NoFrame) = None
line_tells (Err (TooLong behind)) = Some behind
line_tells (Err (NotOfForm behind)) = Some behind
line_tells (Err (ScratchTooShort behind)) = Some behind

-- ---- when each number is given

-- the payload: what stands between the tags of the frame
abbrev pub framed_part : Option Frame → List ℕ → List ℕ
framed_part None s = []
framed_part (Some frame) s = payload_at frame s

-- the place behind the closing tag of the frame; with no frame there is none
abbrev pub place_behind : Option Frame → Option ℕ
place_behind None = None
place_behind (Some frame) = Some frame.behind

-- the text of one of the two switches
abbrev pub is_switch : List ℕ → Bool
is_switch payload = same payload (switch_text Raw) || same payload (switch_text Ascii)

-- only ASCII form has a form to keep, and needs the scratch buffer
abbrev pub in_ascii : Form → Bool
in_ascii Raw = false
in_ascii Ascii = true

-- 11 to 13 of the table, for a payload that is no switch
unfoldable pub command_number : Form → List ℕ → ℕ → ℕ
command_number form payload room =
    cond (ltb 256 (length payload)) 11  -- payload over 256 received bytes, in either form
    (cond (in_ascii form && not (is_of_form payload)) 12  -- ASCII payload not of the form
    (cond (in_ascii form && ltb room (bytes_in (payload_of payload))) 13  -- scratch too short for the bytes read
    0))

-- the table of a read from the top: 10 before all, and a switch, which is no refusal, before 11 to 13
unfoldable pub reading_number : Form → List ℕ → ℕ → ℕ
reading_number form s room =
    cond (not (has_frame s)) 10
    (cond (is_switch (framed_part (frame_of s) s)) 0
    (command_number form (framed_part (frame_of s) s) room))
