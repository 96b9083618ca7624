-- The lines of a transcript, and the line of a refused sheet. Characters are their ASCII codes: 32 is a space, 45 is
-- `-`, 10 ends a line, 48 to 57 are the digits. Assumes nothing: these are definitions.
use Rattle.std.specs.Prelude.{ℕ, zero, suc, ◌+◌, ◌/◌, ◌%◌, ◌^◌, ltb, Result, Ok, Err}
use mathlib.Core.{Bool.Bool, Bool.cond, List.List, List.[], List.◌∷◌, List.◌++◌}
use Rattle.hexadecimal.specs.Hex.{text_of, word_text}
use Rattle.wire.specs.{Replies.shown, declared.reply.Reply.Reply}
use Rattle.state.specs.{Parts.mode_of, declared.parts.Board.Board}
use Rattle.naming.specs.Naming.{mode_letter}
use Rattle.sheet.specs.Form.{ticks_word}
use Rattle.transcript.specs.declared.SheetRefusal.{SheetRefusal}
use Rattle.transcript.specs.declared.SheetRefusal.TheVariants.{ProfileBreaksARule, NotOfForm}

-- ---- a number in decimal, without leading zeros

-- the digit for a power of ten, where the number reaches that far
abbrev pub digit_for : ℕ → ℕ → List ℕ
digit_for power n = cond (ltb n power) [] ((n / power % 10 + 48) ∷ [])

-- the digits for the tens up to 10 ^ k, and the ones
unfoldable pub digits_for : ℕ → ℕ → List ℕ
digits_for zero n = (n % 10 + 48) ∷ []
digits_for (suc k) n = digit_for (10 ^ suc k) n ++ digits_for k n

-- a number of 32 bits has at most ten
abbrev pub decimal : ℕ → List ℕ
decimal n = digits_for 9 n

-- ---- the lines

-- a space and the reply in ASCII form, or `-`
unfoldable pub made_text : Bool → Reply → List ℕ
made_text replied r = 32 ∷ cond replied (text_of (shown r)) (45 ∷ [])

-- number, mode, channels on, channels latched, reply
unfoldable pub tick_text : ℕ → Bool → Board → List ℕ
tick_text number replied b =
    decimal number
    ++ (32 ∷ mode_letter (mode_of b) ∷ [])
    ++ (32 ∷ word_text b.channels.on)
    ++ (32 ∷ word_text b.channels.latched)
    ++ made_text replied b.reply
    ++ 10 ∷ []

-- the count of ticks
unfoldable pub ticks_text : ℕ → List ℕ
ticks_text n = ticks_word ++ decimal n ++ 10 ∷ []

-- ---- what opening a sheet answers

-- document 01's number of an answer; 0 stands for none
abbrev pub opened_number : {A : Type 0} → Result A SheetRefusal → ℕ
opened_number (Ok a) = 0
opened_number (Err ProfileBreaksARule) = 8
opened_number (Err NotOfForm) = 14

-- refused 8; refused 14
abbrev pub refused8 : List ℕ
refused8 = 114 ∷ 101 ∷ 102 ∷ 117 ∷ 115 ∷ 101 ∷ 100 ∷ 32 ∷ 56 ∷ 10 ∷ []

abbrev pub refused14 : List ℕ
refused14 = 114 ∷ 101 ∷ 102 ∷ 117 ∷ 115 ∷ 101 ∷ 100 ∷ 32 ∷ 49 ∷ 52 ∷ 10 ∷ []

-- the refusal's line; none for a session that runs
abbrev pub refusal_text : Result (Unit {0}) SheetRefusal → List ℕ
refusal_text (Ok u) = []
refusal_text (Err ProfileBreaksARule) = refused8
refusal_text (Err NotOfForm) = refused14
