-- The frame of a reply, and what framing answers and leaves. Assumes nothing: these are definitions.
use Rattle.std.specs.Prelude.{ℕ, ◌+◌, ◌-◌, Result, Ok, Err}
use mathlib.Core.{Bool.cond, List.List, List.[], List.◌∷◌, List.◌++◌}
use lib.{Dec.leb, ListN.length, Seq.sets}
use Rattle.wire.specs.declared.forms.Form.{Form}
use Rattle.wire.specs.declared.forms.Form.TheVariants.{Raw, Ascii}
use Rattle.hexadecimal.specs.Hex.{text_of}
use Rattle.reading.specs.Lines.{part, switch_text}
use Rattle.framing.specs.{declared.Due.Due, declared.FrameRefusal.FrameRefusal}
use Rattle.framing.specs.declared.Due.TheVariants.{Nothing, Reply, Echo}
use Rattle.framing.specs.declared.FrameRefusal.TheVariants.{OutputTooShort}

-- <rsp>
abbrev pub reply_tag : List ℕ
reply_tag = 60 ∷ 114 ∷ 115 ∷ 112 ∷ 62 ∷ []

-- </rsp>, CR, LF
abbrev pub reply_end : List ℕ
reply_end = 60 ∷ 47 ∷ 114 ∷ 115 ∷ 112 ∷ 62 ∷ 13 ∷ 10 ∷ []

abbrev pub reply_frame : List ℕ → List ℕ
reply_frame inner = reply_tag ++ inner ++ reply_end

-- what stands between the tags of a frame
abbrev pub unframed : List ℕ → List ℕ
unframed frame = part 5 (length frame - 8) frame

-- a reply in a form: its bytes, or their digits in capitals
abbrev pub written : Form → List ℕ → List ℕ
written Raw reply = reply
written Ascii reply = text_of reply

-- what is due: nothing at all, the reply in the form in force, or the text of a switch, the same in either form
abbrev pub due_text : Due → Form → List ℕ → List ℕ
due_text Nothing form reply = []
due_text Reply form reply = reply_frame (written form reply)
due_text (Echo to) form reply = reply_frame (switch_text to)

-- 13 where the output is too short for all of it; what the output then holds is `hexadecimal::laid`
abbrev pub framed_of : List ℕ → ℕ → Result ℕ FrameRefusal
framed_of text room = cond (leb (length text) room) (Ok (length text)) (Err OutputTooShort)

-- ---- the tags, which are 13 characters, around n bytes that were written from place 5 on
abbrev pub enclosed_held : ℕ → List ℕ → List ℕ
enclosed_held n held = sets (sets held 0 reply_tag) (5 + n) reply_end
