-- What a read leaves: the scratch buffer as it was, but for a command in ASCII form, whose bytes then stand at its
-- front and are the payload handed on; and the numbers and places that it tells. Assumes nothing.
use Prim.Native.Nat.{ℕ, ◌+◌, ◌-◌, ◌≤◌}
use mathlib.Core.Path.{◌≡◌, refl, ap, sym, subst}
use mathlib.Core.Bool.{Bool, true, false, cond}
use Rattle.std.specs.Prelude.{Option, Some, None, Result, Ok, Err}
use mathlib.Core.List.{List, ◌++◌}
use native.Mathlib.Omega.{arith}
use lib.Dec.{eqb, leb, ltb}
use lib.ListN.{length, drop}
use lib.Seq.{take_at}
use borrow.Author.Tests.{le-ltb, le-leb}
use Rattle.wire.specs.declared.forms.Form.{Form}
use Rattle.wire.specs.declared.forms.Form.TheVariants.{Raw, Ascii}
use Rattle.hexadecimal.specs.Hex.{payload_of, read_of, held_after}
use Rattle.hexadecimal.specs.declared.PayloadRefusal.{PayloadRefusal}
use Rattle.frames.specs.Frames.{lying, opening_tag, closing_tag, frame_of}
use Rattle.frames.specs.First.{StandsAt, FrameAt, Complete}
use Rattle.frames.specs.declared.Frame.{Frame}
use Rattle.frames.proofs.Search.{frame_found}
use Rattle.reading.specs.Lines.{payload_at, LineAnswer, part, switch_of, spelt, ascii_line, in_form, command_line, switching, line_in, line_of, held_in, command_held, switch_held, held_by, line_held, payload_in}
use Rattle.reading.specs.Given.{Plain, GivenWhen}
use Rattle.reading.specs.Answers.{line_number, line_tells}
use Rattle.reading.specs.declared.Line.TheVariants.{Command, Switch}
use Rattle.reading.specs.declared.LineRefusal.TheVariants.{NoFrame, TooLong, NotOfForm, ScratchTooShort}
use Rattle.reading.proofs.Given.{no_switch, given, given_only}

-- ---- the scratch buffer

-- every answer but a command in ASCII form leaves it
abbrev Left : LineAnswer → Form → List ℕ → List ℕ → Type 0
Left (Ok (Command start end behind)) Raw held after = after ≡ held
Left (Ok (Command start end behind)) Ascii held after = Unit {0}
Left (Ok (Switch to behind)) form held after = after ≡ held
Left (Err NoFrame) form held after = after ≡ held
Left (Err (TooLong behind)) form held after = after ≡ held
Left (Err (NotOfForm behind)) form held after = after ≡ held
Left (Err (ScratchTooShort behind)) form held after = after ≡ held

module _ (held : List ℕ) where
  left_spelt : (o : Option (List ℕ)) (behind : ℕ) → Left (spelt behind (read_of o (length held))) Ascii held (held_after o held)
  left_spelt None behind = refl
  left_spelt (Some bytes) behind = go (leb (length bytes) (length held))
    where
      go : (t : Bool) → Left (spelt behind (cond t (Ok (length bytes)) (Err PayloadRefusal.TooShort))) Ascii held (cond t (bytes ++ drop (length bytes) held) held)
      go true = tt
      go false = refl

  left_form : (form : Form) (payload : List ℕ) (start end behind : ℕ) → Left (in_form form payload (lying start end behind) (length held)) form held (held_in form payload held)
  unfolding ascii_line
  left_form Raw payload start end behind = refl
  left_form Ascii payload start end behind = left_spelt (payload_of payload) behind

  left_switch : (form : Form) (w : Option Form) (payload : List ℕ) (start end behind : ℕ) → Left (switching w form payload (lying start end behind) (length held)) form held (switch_held w form payload held)
  unfolding command_line command_held
  left_switch form (Some to) payload start end behind = refl
  left_switch form None payload start end behind = go (ltb 256 (length payload))
    where
      go : (t : Bool) → Left (cond t (Err (TooLong behind)) (in_form form payload (lying start end behind) (length held))) form held (cond t held (held_in form payload held))
      go true = refl
      go false = left_form form payload start end behind

  left : (form : Form) (s : List ℕ) → Left (line_of form s (length held)) form held (line_held form s held)
  unfolding line_of line_held
  left form s = go (frame_of s)
    where
      go : (f : Option Frame) → Left (line_in f form s (length held)) form held (held_by f form s held)
      go None = refl
      go (Some frame) = left_switch form (switch_of (payload_at frame s)) (payload_at frame s) frame.start frame.end frame.behind

  -- a refused read
  pub refused_leaves : (form : Form) (s : List ℕ) → (line_number (line_of form s (length held)) ≡ 0 → ⊥) → line_held form s held ≡ held
  refused_leaves form s n = go (line_of form s (length held)) n (left form s)
    where
      go : (line : LineAnswer) → (line_number line ≡ 0 → ⊥) → Left line form held (line_held form s held) → line_held form s held ≡ held
      go (Ok (Command start end behind)) n l = absurd (n refl)
      go (Ok (Switch to behind)) n l = absurd (n refl)
      go (Err NoFrame) n l = l
      go (Err (TooLong behind)) n l = l
      go (Err (NotOfForm behind)) n l = l
      go (Err (ScratchTooShort behind)) n l = l

  -- a switch
  pub switch_leaves : (form to : Form) (s : List ℕ) (behind : ℕ) → line_of form s (length held) ≡ Ok (Switch to behind) → line_held form s held ≡ held
  switch_leaves form to s behind e = subst (λ (line : LineAnswer). Left line form held (line_held form s held)) e (left form s)

  -- a command in raw form
  pub raw_leaves : (s : List ℕ) → line_held Raw s held ≡ held
  raw_leaves s = go (line_of Raw s (length held)) (left Raw s)
    where
      go : (line : LineAnswer) → Left line Raw held (line_held Raw s held) → line_held Raw s held ≡ held
      go (Ok (Command start end behind)) l = l
      go (Ok (Switch to behind)) l = l
      go (Err NoFrame) l = l
      go (Err (TooLong behind)) l = l
      go (Err (NotOfForm behind)) l = l
      go (Err (ScratchTooShort behind)) l = l

  -- a command in ASCII form: its bytes at the front, and those past them as they were
  pub ascii_holds : (s : List ℕ) (start end behind : ℕ) → Plain s start end behind → (bytes : List ℕ) → payload_of (part start end s) ≡ Some bytes → length bytes ≤ length held
      → line_held Ascii s held ≡ bytes ++ drop (length bytes) held
  unfolding line_held command_held
  ascii_holds s start end behind p bytes q l =
      rw (
        frame_found s start end behind p.framed,
        no_switch (part start end s) p.no_switch,
        le-ltb 256 (length (part start end s)) p.short,
        q,
        le-leb (length bytes) (length held) l,
      )

-- what is handed on in ASCII form is what the payload spells
pub payload_spelt : (s held : List ℕ) (start end behind : ℕ) → Plain s start end behind → (bytes : List ℕ) → payload_of (part start end s) ≡ Some bytes → length bytes ≤ length held
    → payload_in Ascii s (line_held Ascii s held) 0 (length bytes) ≡ bytes
unfolding part
payload_spelt s held start end behind p bytes q l =
    let whole : length bytes - 0 ≡ length bytes = omega arith in
    rw (ascii_holds held s start end behind p bytes q l, whole) (take_at bytes (drop (length bytes) held) (length bytes) refl)

-- ---- numbers and places

-- the refusal of a number, with the place that it tells
abbrev pub refusal : ℕ → ℕ → LineAnswer
refusal n behind = cond (eqb n 10) (Err NoFrame) (cond (eqb n 11) (Err (TooLong behind)) (cond (eqb n 12) (Err (NotOfForm behind)) (Err (ScratchTooShort behind))))

-- a number is told only where its line of `GivenWhen` holds
pub number_given : (form : Form) (s : List ℕ) (room : ℕ) → (line_number (line_of form s room) ≡ 0 → ⊥) → (behind : ℕ) × GivenWhen form s room (refusal (line_number (line_of form s room)) behind)
number_given form s room n = go (line_of form s room) n (given form s room)
  where
    go : (line : LineAnswer) → (line_number line ≡ 0 → ⊥) → GivenWhen form s room line → (behind : ℕ) × GivenWhen form s room (refusal (line_number line) behind)
    go (Ok (Command start end behind)) n g = absurd (n refl)
    go (Ok (Switch to behind)) n g = absurd (n refl)
    go (Err NoFrame) n g = (0, g)
    go (Err (TooLong behind)) n g = (behind, g)
    go (Err (NotOfForm behind)) n g = (behind, g)
    go (Err (ScratchTooShort behind)) n g = (behind, g)

-- and each line of it that holds gives its number
pub given_number : (form : Form) (s : List ℕ) (room : ℕ) (line : LineAnswer) → GivenWhen form s room line → line_number (line_of form s room) ≡ line_number line
given_number form s room line g = sym (ap line_number (given_only form s room line g))

-- so 10 is told exactly where no frame is complete
pub number_10 : (form : Form) (s : List ℕ) (room : ℕ) → line_number (line_of form s room) ≡ 10 → Complete s → ⊥
number_10 form s room e =
    let told = number_given form s room (λ z. absurd (omega (arith, e, z))) in
    subst (λ (n : ℕ). GivenWhen form s room (refusal n told.0)) e told.1

pub incomplete_10 : (form : Form) (s : List ℕ) (room : ℕ) → (Complete s → ⊥) → line_number (line_of form s room) ≡ 10
incomplete_10 form s room n = given_number form s room (Err NoFrame) n

-- as where no opening tag stands, and where behind none of them a closing tag stands
pub unopened_10 : (form : Form) (s : List ℕ) (room : ℕ) → ((place : ℕ) → StandsAt opening_tag s place → ⊥) → line_number (line_of form s room) ≡ 10
unopened_10 form s room n = incomplete_10 form s room (λ c. n c.opening c.opened)

pub unclosed_10 : (form : Form) (s : List ℕ) (room : ℕ) → ((opening closing : ℕ) → StandsAt opening_tag s opening → opening + 5 ≤ closing → StandsAt closing_tag s closing → ⊥)
    → line_number (line_of form s room) ≡ 10
unclosed_10 form s room n = incomplete_10 form s room (λ c. n c.opening c.closing c.opened c.behind c.closed)

-- every answer to a frame tells the place behind its closing tag
pub place_told : (form : Form) (s : List ℕ) (room start end behind : ℕ) → FrameAt s start end behind → line_tells (line_of form s room) ≡ Some behind
unfolding line_of command_line ascii_line
place_told form s room start end behind f = rw (frame_found s start end behind f) (go (switch_of (part start end s)))
  where
    spelling : (o : Result ℕ PayloadRefusal) → line_tells (spelt behind o) ≡ Some behind
    spelling (Ok n) = refl
    spelling (Err PayloadRefusal.NotOfForm) = refl
    spelling (Err PayloadRefusal.TooShort) = refl

    forming : (form : Form) → line_tells (in_form form (part start end s) (lying start end behind) room) ≡ Some behind
    forming Raw = refl
    forming Ascii = spelling (read_of (payload_of (part start end s)) room)

    measuring : (t : Bool) → line_tells (cond t (Err (TooLong behind)) (in_form form (part start end s) (lying start end behind) room)) ≡ Some behind
    measuring true = refl
    measuring false = forming form

    go : (w : Option Form) → line_tells (switching w form (part start end s) (lying start end behind) room) ≡ Some behind
    go (Some to) = refl
    go None = measuring (ltb 256 (length (part start end s)))
