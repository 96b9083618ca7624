-- A read gives each answer exactly when `GivenWhen` says, and a switch is exactly its text. Assumes nothing.
use Prim.Native.Nat.{ℕ, ◌≤◌, ◌<◌}
use mathlib.Core.Path.{◌≡◌, refl, ap, sym, ◌∙◌}
use mathlib.Core.Bool.{Bool, true, false, cond, ◌&&◌}
use Rattle.std.specs.Prelude.{Option, Some, None, Ok, Err}
use mathlib.Core.List.{List, [], ◌∷◌}
use native.Mathlib.Omega.{arith}
use lib.Dec.{eqb, leb, ltb}
use lib.ListN.{length}
use borrow.Author.Tests.{eqb-true, leb-true, leb-false, ltb-true, ltb-false, lt-ltb, le-ltb, le-leb, lt-leb}
use Rattle.wire.specs.declared.forms.Form.{Form}
use Rattle.wire.specs.declared.forms.Form.TheVariants.{Raw, Ascii}
use Rattle.hexadecimal.specs.Hex.{payload_of, read_of}
use Rattle.hexadecimal.specs.declared.PayloadRefusal.{PayloadRefusal}
use Rattle.frames.specs.Frames.{lying, starts_with, frame_of}
use Rattle.frames.specs.First.{FrameAt}
use Rattle.frames.specs.declared.Frame.{Frame}
use Rattle.frames.proofs.Search.{found_frame, frame_found, not_there_lem, none_complete}
use Rattle.reading.specs.Lines.{payload_at, LineAnswer, part, switch_text, same, switch_of, spelt, ascii_line, in_form, command_line, switching, line_in, line_of}
use Rattle.reading.specs.Given.{Plain, Handed, GivenWhen}
use Rattle.reading.specs.declared.Line.TheVariants.{Command, Switch}
use Rattle.reading.specs.declared.LineRefusal.TheVariants.{NoFrame, TooLong, NotOfForm, ScratchTooShort}

-- ---- a switch is exactly its text

both : (a b : Bool) → a && b ≡ true → (a ≡ true) × (b ≡ true)
both true b e = (refl, e)
both false b e = let z : ◌≡◌ {A = ℕ} 0 1 = cc in absurd (omega arith)

starts_whole : (text s : List ℕ) → length s ≡ length text → starts_with text s ≡ true → s ≡ text
unfolding starts_with
starts_whole [] [] h e = refl
starts_whole [] (x ∷ s) h e = absurd (omega arith)
starts_whole (t ∷ text) [] h e = absurd (omega arith)
starts_whole (t ∷ text) (x ∷ s) h e =
    let w = both (eqb x t) (starts_with text s) e in
    rw (eqb-true x t w.0, starts_whole text s (omega arith) w.1)

same_text : (s text : List ℕ) → same s text ≡ true → s ≡ text
unfolding same
same_text s text e =
    let w = both (eqb (length s) (length text)) (starts_with text s) e in
    starts_whole text s (eqb-true (length s) (length text) w.0) w.1

pub switched_text : (payload : List ℕ) (form : Form) → switch_of payload ≡ Some form → payload ≡ switch_text form
unfolding switch_of
switched_text payload form e = go (same payload (switch_text Raw)) (same payload (switch_text Ascii)) refl refl e
  where
    go : (r a : Bool) → same payload (switch_text Raw) ≡ r → same payload (switch_text Ascii) ≡ a → cond r (Some Raw) (cond a (Some Ascii) None) ≡ Some form → payload ≡ switch_text form
    go true a p q e = let f : Raw ≡ form = cc in same_text payload (switch_text Raw) p ∙ ap switch_text f
    go false true p q e = let f : Ascii ≡ form = cc in same_text payload (switch_text Ascii) q ∙ ap switch_text f
    go false false p q e = let z : ◌≡◌ {A = ℕ} 0 1 = cc in absurd (omega arith)

pub text_switched : (form : Form) → switch_of (switch_text form) ≡ Some form
unfolding switch_of same starts_with
text_switched Raw = refl
text_switched Ascii = refl

pub no_switch : (payload : List ℕ) → ((form : Form) → payload ≡ switch_text form → ⊥) → switch_of payload ≡ None
no_switch payload n = go (switch_of payload) refl
  where
    go : (w : Option Form) → switch_of payload ≡ w → switch_of payload ≡ None
    go None e = e
    go (Some form) e = absurd (n form (switched_text payload form e))

is_no_switch : (payload : List ℕ) → switch_of payload ≡ None → (form : Form) → payload ≡ switch_text form → ⊥
is_no_switch payload e form q =
    let f : Some form ≡ None = sym (text_switched form) ∙ sym (ap switch_of q) ∙ e in
    let z : ◌≡◌ {A = ℕ} 0 1 = cc in
    absurd (omega arith)

text_short : (form : Form) → length (switch_text form) ≤ 256
text_short Raw = omega arith
text_short Ascii = omega arith

long_no_switch : (payload : List ℕ) → 256 < length payload → (form : Form) → payload ≡ switch_text form → ⊥
long_no_switch payload l form q = absurd (omega (arith, text_short form, ap length q))

-- ---- each answer holds when it is given
module _ (s : List ℕ) (room start end behind : ℕ) where
  given_spelt : Plain s start end behind → (o : Option (List ℕ)) → payload_of (part start end s) ≡ o → GivenWhen Ascii s room (spelt behind (read_of o room))
  given_spelt p None q = (start, end, p, record { in_ascii = refl; spells_none = q })
  given_spelt p (Some bytes) q = go (leb (length bytes) room) refl
    where
      go : (t : Bool) → leb (length bytes) room ≡ t → GivenWhen Ascii s room (spelt behind (cond t (Ok (length bytes)) (Err PayloadRefusal.TooShort)))
      go true e = (start, end, p, (bytes, q, leb-true (length bytes) room e, refl, refl))
      go false e = (start, end, p, bytes, record { in_ascii = refl; spells = q }, leb-false (length bytes) room e)

  given_form : (form : Form) → Plain s start end behind → GivenWhen form s room (in_form form (part start end s) (lying start end behind) room)
  unfolding ascii_line
  given_form Raw p = (start, end, p, (refl, refl))
  given_form Ascii p = given_spelt p (payload_of (part start end s)) refl

  given_switch : (form : Form) → FrameAt s start end behind → (w : Option Form) → switch_of (part start end s) ≡ w → GivenWhen form s room (switching w form (part start end s) (lying start end behind) room)
  unfolding command_line
  given_switch form f (Some to) q = (start, end, f, switched_text (part start end s) to q)
  given_switch form f None q = go (ltb 256 (length (part start end s))) refl
    where
      go : (t : Bool) → ltb 256 (length (part start end s)) ≡ t → GivenWhen form s room (cond t (Err (TooLong behind)) (in_form form (part start end s) (lying start end behind) room))
      go true e = (start, end, f, ltb-true 256 (length (part start end s)) e)
      go false e = given_form form (record { framed = f; no_switch = is_no_switch (part start end s) q; short = ltb-false 256 (length (part start end s)) e })

pub given : (form : Form) (s : List ℕ) (room : ℕ) → GivenWhen form s room (line_of form s room)
unfolding line_of
given form s room = go (frame_of s) refl
  where
    go : (f : Option Frame) → frame_of s ≡ f → GivenWhen form s room (line_in f form s room)
    go None e = not_there_lem s e
    go (Some frame) e = given_switch s room frame.start frame.end frame.behind form (found_frame s frame.start frame.end frame.behind e) (switch_of (payload_at frame s)) refl

-- ---- and no other is given
module _ (form : Form) (s : List ℕ) (room : ℕ) where
  plain_line : (start end behind : ℕ) → Plain s start end behind → line_of form s room ≡ in_form form (part start end s) (lying start end behind) room
  unfolding line_of command_line
  plain_line start end behind p =
      rw (
        frame_found s start end behind p.framed,
        no_switch (part start end s) p.no_switch,
        le-ltb 256 (length (part start end s)) p.short,
      )

  pub given_only : (line : LineAnswer) → GivenWhen form s room line → line ≡ line_of form s room
  unfolding line_of command_line ascii_line
  given_only (Err NoFrame) n = rw (none_complete s n)
  given_only (Ok (Switch to behind)) (start, end, f, q) = rw (frame_found s start end behind f, q, text_switched to)
  given_only (Err (TooLong behind)) (start, end, f, l) =
      rw (
        frame_found s start end behind f,
        no_switch (part start end s) (long_no_switch (part start end s) l),
        lt-ltb 256 (length (part start end s)) l,
      )
  given_only (Err (NotOfForm behind)) (start, end, p, u) =
      sym (plain_line start end behind p ∙ rw (u.in_ascii, u.spells_none))
  given_only (Err (ScratchTooShort behind)) (start, end, p, bytes, u, l) =
      sym (plain_line start end behind p ∙ rw (u.in_ascii, u.spells, lt-leb (length bytes) room l))
  given_only (Ok (Command from to behind)) (start, end, p, h) = sym (plain_line start end behind p ∙ sym (handed form h))
    where
      handed : (form : Form) → Handed form (part start end s) room start end from to → Ok (Command from to behind) ≡ in_form form (part start end s) (lying start end behind) room
      handed Raw h = rw (h.0, h.1)
      handed Ascii (bytes, q, l, a, b) = rw (a, b, q, le-leb (length bytes) room l)
