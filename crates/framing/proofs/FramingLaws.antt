-- What a bench can rely on in what framing writes: the reply reads back, 13 has its one cause, and no byte is touched
-- that is not of the frame. Assumes nothing.
use Prim.Native.Nat.{ℕ, ◌-◌, ◌≤◌, ◌<◌}
use mathlib.Core.Path.{◌≡◌, refl, ap, sym, ◌∙◌}
use mathlib.Core.Logic.{⊎_elim}
use Rattle.std.specs.Prelude.{Some, Ok, Err}
use mathlib.Core.List.{List, [], ◌∷◌}
use native.Mathlib.Omega.{arith}
use lib.ListN.{length, take, drop, get_or}
use lib.Seq.{take_at, drop_at}
use Rattle.laws.proofs.Lists.{lt_or_le}
use Rattle.wire.specs.declared.forms.Form.{Form}
use Rattle.wire.specs.declared.forms.Form.TheVariants.{Raw, Ascii}
use Rattle.hexadecimal.specs.Hex.{payload_of, text_of, laid}
use Rattle.hexadecimal.proofs.RoundTrip.{reads_back}
use Rattle.reading.specs.Lines.{part, switch_text}
use Rattle.framing.specs.Framing.{reply_end, reply_frame, unframed, due_text, framed_of}
use Rattle.framing.specs.Answers.{framed_number}
use Rattle.framing.specs.declared.Due.{Due}
use Rattle.framing.specs.declared.Due.TheVariants.{Nothing, Reply, Echo}
use Rattle.framing.specs.declared.FrameRefusal.TheVariants.{OutputTooShort}
use Rattle.framing.proofs.Enclosing.{frame_length, framed_fits, framed_short, laid_fits, laid_short}

-- ---- what the frame holds

between_the_tags : (text : List ℕ) → unframed (reply_frame text) ≡ text
unfolding part
between_the_tags text = take_at text reply_end (length (reply_frame text) - 8 - 5) (omega (arith, frame_length text))

-- a reply in a form is its bytes, or reads back to them where there are any
pub raw_framing_is_the_reply : (reply : List ℕ) → unframed (due_text Reply Raw reply) ≡ reply
raw_framing_is_the_reply reply = between_the_tags reply

pub framing_reads_back : (b : ℕ) (bytes : List ℕ) → ((k : ℕ) → get_or (b ∷ bytes) k 0 < 256) → payload_of (unframed (due_text Reply Ascii (b ∷ bytes))) ≡ Some (b ∷ bytes)
framing_reads_back b bytes h = ap payload_of (between_the_tags (text_of (b ∷ bytes))) ∙ reads_back b bytes h

-- an echo is the text of the switch, in whichever form
pub echo_in_either_form : (to form : Form) (reply : List ℕ) → (due_text (Echo to) form reply ≡ due_text (Echo to) Raw []) × (unframed (due_text (Echo to) form reply) ≡ switch_text to)
echo_in_either_form to form reply = (refl, between_the_tags (switch_text to))

-- ---- what framing answers, and what it leaves
module _ (due : Due) (form : Form) (reply : List ℕ) where
  abbrev text : List ℕ
  text = due_text due form reply

  pub number_0_framing : (room : ℕ) → length text ≤ room → framed_number (framed_of text room) ≡ 0
  number_0_framing room h = rw (framed_fits text room h)

  -- 13 is given where the output is too short, and nowhere else
  pub number_13_framing : (room : ℕ) → (framed_number (framed_of text room) ≡ 13 → room < length text) × (room < length text → framed_number (framed_of text room) ≡ 13)
  number_13_framing room = (
    λ e.
        ⊎_elim
        (λ (l : room < length text). l)
        (λ (l : length text ≤ room). absurd (omega (arith, e, number_0_framing room l)))
        (lt_or_le room (length text)),
    λ l. rw (framed_short text room l),
  )

  -- a refusal leaves the output as it was
  pub framing_leaves : (out : List ℕ) → framed_of text (length out) ≡ Err OutputTooShort → laid text out ≡ out
  framing_leaves out e = laid_short text out ((number_13_framing (length out)).0 (ap framed_number e))

  -- what is written is the text, and the bytes behind it are as they were
  pub framing_writes : (out : List ℕ) (n : ℕ) → framed_of text (length out) ≡ Ok n → (take n (laid text out) ≡ text) × (drop n (laid text out) ≡ drop n out)
  framing_writes out n e =
      ⊎_elim
      (λ (l : length out < length text). absurd (omega (arith, (number_13_framing (length out)).1 l, ap framed_number e)))
      (λ (l : length text ≤ length out).
      let whole : Ok (length text) ≡ Ok n = sym (framed_fits text (length out) l) ∙ e in
      let same : length text ≡ n = cc in
      let rest = drop (length text) out in
      rw (laid_fits text out l) (take_at text rest n same, drop_at text rest n same ∙ ap (λ (k : ℕ). drop k out) same))
      (lt_or_le (length out) (length text))

-- with nothing due no byte is written, in whatever room
pub nothing_due : (form : Form) (reply out : List ℕ) (room : ℕ) → (framed_of (due_text Nothing form reply) room ≡ Ok 0) × (laid (due_text Nothing form reply) out ≡ out)
nothing_due form reply out room = (framed_fits [] room (omega arith), laid_fits [] out (omega arith))
