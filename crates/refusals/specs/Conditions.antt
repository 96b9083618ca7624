-- Demand 1, when a command is refused: to every transfer exactly one of the eight answers of document 01's command
-- table is given, and it is the one that the machine tells. The table stands below, row by row, as conditions on the
-- bytes of the transfer and on mode, profile, rail and settings; no decoder stands between, and a place in the bytes is
-- a number. All boards of every kind and all bytes are meant, not only boards that can be reached. `7 when b` is a row
-- with the number 7 and the condition b; `a ∷ b ∷ []` is a list of two; || is or, && is and. Assumes nothing: these are
-- definitions and the statement of the claim.
use Rattle.std.specs.Prelude.{ℕ, ◌+◌, ◌≤◌, ◌<◌}
use mathlib.Core.{Path.◌≡◌, Bool.Bool, Bool.true, Bool.false, Bool.cond, Bool.not, Bool.◌&&◌, Bool.◌||◌}
use mathlib.Core.{List.List, List.[], List.◌∷◌, Option.Option, Option.none, Option.some}
use lib.{Dec.eqb, Dec.ltb, Ieee.binary32, Ieee.binary64, IntN.ℤ, ListN.length, ListN.drop, ListN.get_or}
use Rattle.kinds.specs.Kinds.{KindOfBoard, board_of, is_in}
use Rattle.wire.specs.{Numbers.number, Floats.nan_pattern}
use Rattle.value.specs.{Types.width, declared.ValueType.ValueType}
use Rattle.value.specs.declared.ValueType.TheVariants.{Int8, Uint8, Int16, Uint16, Int32, Uint32, Float, Int64, Uint64, Double}
use Rattle.settings.specs.{Table.parameter_of, declared.Parameter.Parameter}
use Rattle.settings.specs.declared.Parameter.TheVariants.{ReadWrite, ReadOnly, Unknown}
use Rattle.modes.specs.{Table.◌at_least◌, Table.same, declared.Mode.Mode, declared.Limits.Limits}
use Rattle.modes.specs.declared.Mode.TheVariants.{Startup, Nominal, Safety, Emergency}
use Rattle.channels.specs.Sets.{has}
use Rattle.image.specs.Image.{settings_checksum}
use Rattle.command.specs.Checks.{Check, ◌when◌}
use Rattle.memory.specs.Limits.{limits_of}
use Rattle.state.specs.{Parts.mode_of, Parts.word_count, declared.parts.Board.Board}
use Rattle.answers.specs.{Answers.told_number, declared.Commanded.Commanded}
use Rattle.commands.specs.Step.{commanded_of}
use Rattle.unit.specs.{declared.Machine.Machine, Runs.Sample, Runs.told, Runs.happens, Runs.after_step3}

-- ---- a transfer, and what it meets: the board as the command step finds it, the rail of the tick and the limits in
-- force
pub record Sent : Type 0 where
  pub rail : ℤ
  pub limits : Limits
  pub board : Board
  pub bytes : List ℕ

-- the byte at a place, counted from 0; STID, IVID, CC and BID stand at 0 to 3, and a key or a channel at 4
infix 80 ◌at◌
abbrev pub ◌at◌ : Sent → ℕ → ℕ
t at place = get_or t.bytes place 0

abbrev pub code : Sent → ℕ
code t = t at 2

-- a parameter's id stands at 4 and its value from 6 on; a checksum stands at 5; the lower byte comes first
abbrev pub id : Sent → ℕ
id t = number 2 (drop 4 t.bytes)

abbrev pub checksum : Sent → ℕ
checksum t = number 2 (drop 5 t.bytes)

-- what goes by the kind of the board
abbrev pub kind : Sent → KindOfBoard
kind t = board_of t.board.profile.kind

infix 60 ◌differs_from◌
abbrev pub ◌differs_from◌ : ℕ → ℕ → Bool
x differs_from y = not (eqb x y)

infix 60 ◌has_fewer_than◌bytes
abbrev pub ◌has_fewer_than◌bytes : Sent → ℕ → Bool
t has_fewer_than n bytes = ltb (length t.bytes) n

-- ---- 3: the STID of its kind, IVID 7, its own BID
abbrev pub not_the_boards : Sent → Bool
not_the_boards t = (t at 0) differs_from (kind t).stid || (t at 1) differs_from 7 || (t at 3) differs_from t.board.profile.bid

-- ---- 4: its kind has no such code
abbrev pub not_listed : Sent → Bool
not_listed t = not (is_in (code t) (kind t).codes)

-- ---- 5: the bytes that each command needs, its header included, as the ICD's command pages give them; every code of
-- every kind is here
infix 70 ◌needs◌
pub data Need : Type 0 where
  ◌needs◌ : ℕ → ℕ → Need

abbrev pub lengths : List Need
lengths =
    (0xAA needs 5) ∷ (0x02 needs 4) ∷ (0x04 needs 4) ∷ (0x06 needs 4)
    ∷ (0x10 needs 6) ∷ (0x12 needs 6) ∷ (0x14 needs 6) ∷ (0x16 needs 5) ∷ (0x18 needs 5)
    ∷ (0x30 needs 4) ∷ (0x32 needs 4) ∷ (0x42 needs 4) ∷ (0x50 needs 4)
    ∷ (0x82 needs 6) ∷ (0x84 needs 6) ∷ (0x86 needs 6)
    ∷ (0x90 needs 5) ∷ (0x92 needs 5) ∷ (0x94 needs 7)
    ∷ (0x52 needs 4)
    ∷ (0x44 needs 4) ∷ (0x60 needs 4) ∷ (0x62 needs 4)
    ∷ []

unfoldable pub needed_by : List Need → ℕ → ℕ
needed_by [] c = 0
needed_by ((k needs n) ∷ more) c = cond (eqb c k) n (needed_by more c)

-- 0x84 needs its value too, as many bytes as the id's type has. A value is looked for only where the id can be set: so
-- one 5 and one 7 are document 01's four checks of 0x84, which are 5 for the id, 7 for the id, 5 for the value and 7
-- for the value.
abbrev pub value_short : Parameter → Sent → Bool
value_short (ReadWrite type) t = t has_fewer_than 6 + width type bytes
value_short (ReadOnly type) t = false
value_short Unknown t = false

abbrev pub shorter_than_needed : Sent → Bool
shorter_than_needed t = t has_fewer_than needed_by lengths (code t) bytes || eqb (code t) 0x84 && value_short (parameter_of (id t)) t

-- ---- 6: the five channel commands outside nominal; 0x32 in emergency; 0x30 in emergency, and in safety unless the
-- rail is at least safety low
infix 70 ◌in_mode◌
abbrev pub ◌in_mode◌ : Sent → Mode → Bool
t in_mode m = same (mode_of t.board) m

abbrev pub not_available : Sent → Bool
not_available t =
    cond (is_in (code t) (0x10 ∷ 0x12 ∷ 0x14 ∷ 0x16 ∷ 0x18 ∷ [])) (not (t in_mode Nominal))
    (cond (eqb (code t) 0x32) (t in_mode Emergency)
    (cond (eqb (code t) 0x30) (t in_mode Emergency || t in_mode Safety && not (t.rail at_least t.limits.safety_low))
    false))

-- ---- 7
unfoldable pub key_wrong : ℕ → ℕ → Bool
key_wrong c key = eqb c 0xAA && key differs_from 0xA6 || is_in c (0x90 ∷ 0x92 ∷ 0x94 ∷ []) && key differs_from 0xA7

-- 0x16, 0x18: an index above 31 or a channel that is not fitted, and for 0x18 also a force-enabled one
abbrev pub not_there : Sent → Bool
not_there t = ltb 31 (t at 4) || not (has t.board.profile.fitted (t at 4))

abbrev pub channel_wrong : Sent → Bool
channel_wrong t =
    cond (eqb (code t) 0x16) (not_there t)
    (cond (eqb (code t) 0x18) (not_there t || has t.board.profile.forced (t at 4))
    false)

-- a NaN, which only the two float types have
abbrev pub is_nan_value : ValueType → ℕ → Bool
is_nan_value Int8 x = false
is_nan_value Uint8 x = false
is_nan_value Int16 x = false
is_nan_value Uint16 x = false
is_nan_value Int32 x = false
is_nan_value Uint32 x = false
is_nan_value Float x = nan_pattern binary32 x
is_nan_value Int64 x = false
is_nan_value Uint64 x = false
is_nan_value Double x = nan_pattern binary64 x

abbrev pub value_is_nan : Parameter → Sent → Bool
value_is_nan (ReadWrite type) t = is_nan_value type (number (width type) (drop 6 t.bytes))
value_is_nan (ReadOnly type) t = false
value_is_nan Unknown t = false

-- an id that is unknown (0x82), unknown or read-only (0x84, 0x86), or a value that is a NaN (0x84)
abbrev pub unknown : Parameter → Bool
unknown (ReadWrite type) = false
unknown (ReadOnly type) = false
unknown Unknown = true

abbrev pub unsettable : Parameter → Bool
unsettable (ReadWrite type) = false
unsettable (ReadOnly type) = true
unsettable Unknown = true

unfoldable pub id_wrong : ℕ → Parameter → Bool
id_wrong c p = eqb c 0x82 && unknown p || (eqb c 0x84 || eqb c 0x86) && unsettable p

abbrev pub parameter_wrong : Sent → Bool
parameter_wrong t = id_wrong (code t) (parameter_of (id t)) || eqb (code t) 0x84 && value_is_nan (parameter_of (id t)) t

-- 0x94: neither 0 nor that of the settings in force
abbrev pub checksum_wrong : Sent → Bool
checksum_wrong t =
    eqb (code t) 0x94 && not (eqb (checksum t) 0 || eqb (checksum t) (settings_checksum t.board.memory.current))

-- ---- the table
abbrev pub refusals : Sent → List Check
refusals t =
    1 when (t has_fewer_than 4 bytes)
    ∷ 2 when (t in_mode Startup)
    ∷ 3 when not_the_boards t
    ∷ 4 when not_listed t
    ∷ 5 when shorter_than_needed t
    ∷ 6 when not_available t
    ∷ 7 when (key_wrong (code t) (t at 4) || channel_wrong t || parameter_wrong t || checksum_wrong t)
    ∷ []

unfoldable pub none_of : List Check → Bool
none_of [] = true
none_of (k when b ∷ rows) = not b && none_of rows

abbrev pub answer_table : Sent → List Check
answer_table t = 0 when none_of (refusals t) ∷ refusals t

-- the condition in the row of a number
unfoldable pub condition : ℕ → List Check → Bool
condition n [] = false
condition n (k when b ∷ rows) = cond (eqb n k) b (condition n rows)

-- an answer is given: the condition of its row holds, and that of no refusal before it
pub record Given (t : Sent) (n : ℕ) : Type 0 where
  pub holds : condition n (answer_table t) ≡ true
  pub none_before : (k : ℕ) → 1 ≤ k → k < n → condition k (answer_table t) ≡ false

-- ---- what is told
-- by the command step
abbrev pub obeyed : Sent → Commanded
obeyed t = commanded_of t.rail t.limits true t.bytes t.board

abbrev pub answer : Sent → Option ℕ
answer t = told_number (obeyed t).outcome

-- by a tick, whose transfer meets the board that steps 1 to 3 leave
abbrev pub met_in : Machine → Sample → Sent
met_in m i = record { rail = i.rail; limits = limits_of m.board.memory; board = after_step3 m i; bytes = i.transfer }

abbrev pub tick_answer : Machine → Sample → Option ℕ
tick_answer m i = told_number (told m i).outcome

-- ---- the claim
pub record ExactlyWhen : Type 0 where
  -- one of the eight answers is given to every transfer, and no second one
  pub one : (t : Sent) → (n : ℕ) × (n ≤ 7) × Given t n
  pub only_one : (t : Sent) (n m : ℕ) → Given t n → Given t m → n ≡ m
  -- the command step answers what is given, and nothing else
  pub answered : (t : Sent) (n : ℕ) → Given t n → answer t ≡ some n
  pub only_answered : (t : Sent) (n : ℕ) → answer t ≡ some n → Given t n
  -- so does a tick that happens and has a transfer
  pub told_so : (m : Machine) (i : Sample) (n : ℕ) → happens (word_count m.board) i ≡ true → i.sent ≡ true → Given (met_in m i) n → tick_answer m i ≡ some n
  -- a tick that happens and has none tells no number
  pub unasked : (m : Machine) (i : Sample) → happens (word_count m.board) i ≡ true → i.sent ≡ false → tick_answer m i ≡ none
  -- and a tick that tells one of the eight happened, had a transfer, and its answer is given
  pub only_told : (m : Machine) (i : Sample) (n : ℕ) → n ≤ 7 → tick_answer m i ≡ some n
      → (happens (word_count m.board) i ≡ true) × (i.sent ≡ true) × Given (met_in m i) n
