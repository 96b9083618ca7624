-- When each answer of a read is given, said of every answer: `Given` of the laws proves that a read gives the answer of
-- which this holds, and no other. Assumes nothing: these are definitions.
use Rattle.std.specs.Prelude.{◌≡◌, ℕ, ◌≤◌, ◌<◌, List, length, Some, None, Ok, Err}
use Rattle.wire.specs.declared.forms.Form.{Form}
use Rattle.wire.specs.declared.forms.Form.TheVariants.{Raw, Ascii}
use Rattle.hexadecimal.specs.Hex.{payload_of}
use Rattle.frames.specs.First.{FrameAt, Complete}
use Rattle.reading.specs.Lines.{part, LineAnswer, switch_text}
use Rattle.reading.specs.declared.Line.TheVariants.{Command, Switch}
use Rattle.reading.specs.declared.LineRefusal.TheVariants.{NoFrame, TooLong, NotOfForm, ScratchTooShort}

-- a frame whose payload is no switch and has at most 256 bytes
pub record Plain (s : List ℕ) (start end behind : ℕ) : Type 0 where
  pub framed : FrameAt s start end behind
  pub no_switch : (form : Form) → part start end s ≡ switch_text form → ⊥
  pub short : length (part start end s) ≤ 256

-- a payload in ASCII form that spells bytes
pub record Spelt (payload bytes : List ℕ) (form : Form) : Type 0 where
  pub in_ascii : form ≡ Ascii
  pub spells : payload_of payload ≡ Some bytes

-- a payload in ASCII form that spells none
pub record Unspelt (payload : List ℕ) (form : Form) : Type 0 where
  pub in_ascii : form ≡ Ascii
  pub spells_none : payload_of payload ≡ None

-- where the payload handed on lies: among the received bytes, or at the front of a scratch buffer with so much room
abbrev pub Handed : Form → List ℕ → ℕ → ℕ → ℕ → ℕ → ℕ → Type 0
Handed Raw payload room start end from to = (from ≡ start) × (to ≡ end)
Handed Ascii payload room start end from to = (bytes : List ℕ) × (payload_of payload ≡ Some bytes) × (length bytes ≤ room) × (from ≡ 0) × (to ≡ length bytes)

abbrev pub GivenWhen : Form → List ℕ → ℕ → LineAnswer → Type 0
GivenWhen form s room (Err NoFrame) = Complete s → ⊥  -- 10
GivenWhen form s room (Ok (Switch to behind)) =
    (start : ℕ) × (end : ℕ) × FrameAt s start end behind × (part start end s ≡ switch_text to)
GivenWhen form s room (Err (TooLong behind)) =
    (start : ℕ) × (end : ℕ) × FrameAt s start end behind × (256 < length (part start end s))  -- 11
GivenWhen form s room (Err (NotOfForm behind)) =
    (start : ℕ) × (end : ℕ) × Plain s start end behind × Unspelt (part start end s) form  -- 12
GivenWhen form s room (Err (ScratchTooShort behind)) =
    (start : ℕ) × (end : ℕ) × Plain s start end behind × (bytes : List ℕ) × Spelt (part start end s) bytes form × (room < length bytes)  -- 13
GivenWhen form s room (Ok (Command from to behind)) =
    (start : ℕ) × (end : ℕ) × Plain s start end behind × Handed form (part start end s) room start end from to
