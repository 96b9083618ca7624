-- The two long lines: what a tick prints, and the state. Characters are their ASCII codes: 32 is a space, 45 is `-`, 10
-- ends a line. Assumes nothing: these are definitions.
use Rattle.std.specs.Prelude.{ℕ, take, Option, Some, None}
use Rattle.std.specs.Bool.{then_some}
use mathlib.Core.{Bool.Bool, List.List, List.[], List.◌∷◌, List.◌++◌}
use Rattle.wire.specs.declared.reply.Reply.{Reply}
use Rattle.image.specs.Image.{image_of}
use Rattle.memory.specs.{Memory.Store, declared.Memory.Memory}
use Rattle.modes.specs.declared.ModeAge.{ModeAge}
use Rattle.channels.specs.declared.Channels.{Channels}
use Rattle.watchdog.specs.declared.Event.{Event}
use Rattle.answers.specs.declared.Outcome.{Outcome}
use Rattle.state.specs.{Parts.cause_number, Parts.words_of, declared.parts.Resets.Resets, declared.parts.Board.Board}
use Rattle.script.specs.Printing.{field_of, row, hex_of}
use Rattle.naming.specs.Naming.{mode_letter, event_letter, answer_digit, form_letter}

-- a space and one character
abbrev pub letter_of : ℕ → List ℕ
letter_of c = 32 ∷ c ∷ []

-- a space and the bytes that a reply shows
unfoldable pub reply_text : Reply → List ℕ
reply_text r = 32 ∷ hex_of (take r.len r.bytes)

-- ---- the tick line: mode age timer on latched event answer reply

unfoldable pub front_text : ModeAge → ℕ → Channels → List ℕ
front_text phase timer c =
    mode_letter phase.mode
    ∷ field_of 16 phase.age
    ++ field_of 16 timer
    ++ field_of 8 c.on
    ++ field_of 8 c.latched

-- the reply made in this tick, or `-`
abbrev pub made_text : Option Reply → List ℕ
made_text (Some r) = reply_text r
made_text None = letter_of 45

unfoldable pub tick_line : ℕ → ℕ → Bool → Board → List ℕ
tick_line event answer replied b =
    front_text b.phase b.timer b.channels
    ++ letter_of event
    ++ letter_of answer
    ++ made_text (then_some replied b.reply)
    ++ 10 ∷ []

-- `refused 9`; the answer is `-` when the tick brought no transfer
unfoldable pub ticked_line : Outcome → Event → Bool → Board → List ℕ
ticked_line Outcome.WrongWordCount event replied b = 114 ∷ 101 ∷ 102 ∷ 117 ∷ 115 ∷ 101 ∷ 100 ∷ 32 ∷ 57 ∷ 10 ∷ []
ticked_line Outcome.NoTransfer event replied b = tick_line (event_letter event) 45 replied b
ticked_line (Outcome.Answered a) event replied b = tick_line (event_letter event) (answer_digit a) replied b

-- ---- the state line: form cause pwr wdg cmd savecount checksum stored settings counts words reply

unfoldable pub resets_text : Resets → List ℕ
resets_text r = field_of 2 (cause_number r.cause) ++ field_of 4 r.power ++ field_of 4 r.watchdog ++ field_of 4 r.command

-- the stored save count, or `-`
unfoldable pub stored_text : Store → List ℕ
stored_text (Some s) = field_of 4 s.save_count
stored_text None = letter_of 45

unfoldable pub memory_text : Memory → List ℕ
memory_text m = field_of 4 m.shown.save_count ++ field_of 4 m.shown.checksum ++ stored_text m.store ++ 32 ∷ hex_of (image_of m.current)

unfoldable pub state_line : Board → List ℕ
state_line b =
    form_letter b.form
    ∷ resets_text b.resets
    ++ memory_text b.memory
    ++ (32 ∷ row 4 b.channels.counts)
    ++ (32 ∷ row 4 (words_of b))
    ++ reply_text b.reply
    ++ 10 ∷ []
