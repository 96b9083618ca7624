-- The command step answers the number of the first check of document 01's table that applies. Assumes nothing.
use Prim.Native.Nat.{ℕ}
use mathlib.Core.Path.{◌≡◌, refl, sym, subst}
use mathlib.Core.Bool.{Bool, true, false, cond, not, ◌&&◌, ◌||◌}
use mathlib.Core.List.{List, [], ◌∷◌}
use mathlib.Core.Option.{Option, some}
use lib.Dec.{T, ltb, eqb}
use lib.IntN.{ℤ}
use lib.ListN.{length}
use Rattle.laws.proofs.Cases.{cases}
use Rattle.kinds.specs.Kinds.{board_of, is_in}
use Rattle.value.specs.Values.{read_of}
use Rattle.std.specs.Prelude.{Result, Ok, Err}
use Rattle.value.specs.declared.ParamValue.{ParamValue}
use Rattle.value.specs.declared.ValueRefusal.{ValueRefusal}
use Rattle.settings.specs.Table.{parameter_of}
use Rattle.settings.specs.declared.Parameter.{Parameter}
use Rattle.settings.specs.declared.Parameter.TheVariants.{ReadWrite, ReadOnly, Unknown}
use Rattle.modes.specs.Table.{◌at_least◌}
use Rattle.modes.specs.Commands.{to_safety_from, to_safety, to_nominal_from, to_nominal}
use Rattle.modes.specs.declared.Mode.{Mode}
use Rattle.modes.specs.declared.Mode.TheVariants.{Startup, Nominal, Safety, Emergency}
use Rattle.modes.specs.declared.ModeAge.{ModeAge}
use Rattle.modes.specs.declared.Limits.{Limits}
use Rattle.channels.specs.Operations.{wrong_to_switch_on, wrong_to_switch_off}
use Rattle.channels.specs.declared.Channels.{Channels}
use Rattle.command.specs.Table.{command_table, find}
use Rattle.command.specs.Decode.{Decoded, fewer_than_four, header_of, header_is, code_of, byte_after, id_of, value_part, checksum_in, get_by, getting, valued, set_by, setting, reset_by, resetting, carried, listed, decode_of}
use Rattle.command.specs.Answers.{refusal_number}
use Rattle.command.specs.Checks.{Check, ◌when◌, first, shorter, key_wrong, id_wrong, is_too_short, is_nan_value, value_reads, checks}
use Rattle.command.specs.declared.Refusal.{Refusal}
use Rattle.command.specs.declared.Refusal.TheVariants.{FewerThanFourBytes, InStartup, NotThisBoard, CodeNotListed, TooShort, WrongKey, WrongParameter, NotANumber}
use Rattle.command.proofs.Laws.{none, ◌and◌, at_code, table_codes, has_a_command, header_check}
use Rattle.memory.specs.Memory.{is_right, saved_of}
use Rattle.state.specs.Parts.{mode_of}
use Rattle.state.specs.declared.parts.Board.{Board}
use Rattle.answers.specs.Answers.{told_number, accepted_with, accepted_of, refused_of, not_this_board_of}
use Rattle.answers.specs.declared.Answer.{Answer}
use Rattle.answers.specs.declared.Commanded.{Commanded}
use Rattle.effects.specs.Effects.{is_nominal, switched_of, group_on_of, group_off_of, group_state_of, channel_on_of, channel_off_of, cancelled_of, switched_mode_of, faults_of, housekeeping_of, engineering_housekeeping_of, abf_of, battery_housekeeping_of, engineering_battery_housekeeping_of, parameter_answered as parameter_run, remembered_of, saved_in, restarted_of, reported_of, run_of}
use Rattle.asking.specs.Checks.{◌is◌, is_startup, channel_codes, unavailable, channel_wrong, checksum_wrong, checks_of}
use Rattle.commands.proofs.Stepwise.{turned_down, decoded_of, stepped_of}

-- the number that a command is told
abbrev told : Commanded → Option ℕ
told c = told_number c.outcome

-- ---- the step's own checks
module _ (code : ℕ) (b : Board) where
  -- 0x10, 0x12, 0x14, 0x16, 0x18: outside nominal 6, then 7 where the channel is wrong
  switched_by : (m : Mode) (wrong : Bool) (after : Board)
      → told (cond (not (is_nominal m)) (refused_of Answer.NotAvailable code b) (cond (not (not wrong)) (refused_of Answer.Wrong code b) (accepted_of code after)))
      ≡ some (cond (not (m is Nominal)) 6 (cond wrong 7 0))
  unfolding is_nominal refused_of accepted_of accepted_with
  switched_by Startup wrong after = refl
  switched_by Nominal true after = refl
  switched_by Nominal false after = refl
  switched_by Safety wrong after = refl
  switched_by Emergency wrong after = refl

  switched : (wrong : Bool) (channels : Channels) → told (switched_of code (not wrong) channels b) ≡ some (cond (not (mode_of b is Nominal)) 6 (cond wrong 7 0))
  unfolding switched_of
  switched wrong channels = switched_by (mode_of b) wrong _

  -- 0x32 and 0x30, which no startup lets through
  to_safety_lem : (m : Mode) (s : ModeAge) → is_startup m ≡ false → told (switched_mode_of code (to_safety_from m s) b) ≡ some (cond (m is Emergency) 6 0)
  unfolding is_startup switched_mode_of refused_of accepted_of accepted_with
  to_safety_lem Startup s h = absurd (subst T h tt)
  to_safety_lem Nominal s h = refl
  to_safety_lem Safety s h = refl
  to_safety_lem Emergency s h = refl

  to_nominal_lem : (m : Mode) (s : ModeAge) (rail : ℤ) (limits : Limits) → is_startup m ≡ false
      → told (switched_mode_of code (to_nominal_from m s rail limits) b) ≡ some (cond (m is Emergency || m is Safety && not (rail at_least limits.safety_low)) 6 0)
  unfolding is_startup switched_mode_of refused_of accepted_of accepted_with
  to_nominal_lem Startup s rail limits h = absurd (subst T h tt)
  to_nominal_lem Nominal s rail limits h = refl
  to_nominal_lem Safety s rail limits h = cases (rail at_least limits.safety_low) (λ e. rw e) (λ e. rw e)
  to_nominal_lem Emergency s rail limits h = refl

  -- 0x94
  saved : (given : ℕ) → told (saved_in code given b) ≡ some (cond (not (is_right given b.memory)) 7 0)
  unfolding saved_in saved_of remembered_of refused_of accepted_of accepted_with
  saved given = cases (is_right given b.memory) (λ e. rw e) (λ e. rw e)

module _ (rail : ℤ) (limits : Limits) (b : Board) where
  abbrev told_of : ℕ → Decoded → Option ℕ
  told_of code d = told (decoded_of rail limits code d b)

  -- ---- the decoder's checks
  refused : (code : ℕ) (r : Refusal) → told_of code (Err r) ≡ some (refusal_number r)
  unfolding decoded_of turned_down refused_of not_this_board_of
  refused code FewerThanFourBytes = refl
  refused code InStartup = refl
  refused code NotThisBoard = refl
  refused code CodeNotListed = refl
  refused code TooShort = refl
  refused code WrongKey = refl
  refused code WrongParameter = refl
  refused code NotANumber = refl

  past : (code : ℕ) (x : Bool) (r : Refusal) (d : Decoded) {rest : ℕ} → (x ≡ false → told_of code d ≡ some rest) → told_of code (cond x (Err r) d) ≡ some (cond x (refusal_number r) rest)
  past code true r d e = refused code r
  past code false r d e = e refl

  behind : (code : ℕ) (x : Bool) (r : Refusal) (d : Decoded) {rest : ℕ} → told_of code d ≡ some rest → told_of code (cond x (Err r) d) ≡ some (cond x (refusal_number r) rest)
  behind code x r d e = past code x r d (λ _. e)

  module _ (s : List ℕ) where
    plain : (code needed : ℕ) (d : Decoded) {rest : ℕ} → told_of code d ≡ some rest → told_of code (cond (ltb (length s) needed) (Err TooShort) d) ≡ some (cond (ltb (length s) needed) 5 rest)
    plain code needed d e = behind code (ltb (length s) needed) TooShort d e

    keyed : (code needed key : ℕ) (d : Decoded) {rest : ℕ} → told_of code d ≡ some rest
        → told_of code (cond (ltb (length s) needed) (Err TooShort) (cond (not (eqb (byte_after s) key)) (Err WrongKey) d))
        ≡ some (cond (ltb (length s) needed) 5 (cond (not (eqb (byte_after s) key)) 7 rest))
    keyed code needed key d e = plain code needed _ (behind code (not (eqb (byte_after s) key)) WrongKey d e)

    -- parameters
    got : (code id : ℕ) (p : Parameter) → told_of code (get_by id p) ≡ some (cond (id_wrong 0x82 p) 7 0)
    unfolding decoded_of turned_down refused_of run_of reported_of parameter_run accepted_with id_wrong
    got code id (ReadWrite t) = refl
    got code id (ReadOnly t) = refl
    got code id Unknown = refl

    reset : (code id : ℕ) (p : Parameter) → told_of code (reset_by id p) ≡ some (cond (id_wrong 0x86 p) 7 0)
    unfolding decoded_of turned_down refused_of run_of reported_of parameter_run accepted_with id_wrong
    reset code id (ReadWrite t) = refl
    reset code id (ReadOnly t) = refl
    reset code id Unknown = refl

    value_set : (code id : ℕ) (v : Result ParamValue ValueRefusal) → told_of code (valued id v) ≡ some (cond (is_too_short v) 5 (cond (is_nan_value v) 7 0))
    unfolding decoded_of turned_down refused_of run_of reported_of parameter_run accepted_with valued
    value_set code id (Ok v) = refl
    value_set code id (Err ValueRefusal.TooShort) = refl
    value_set code id (Err ValueRefusal.NotANumber) = refl

    set : (code id : ℕ) (p : Parameter) (value : List ℕ)
        → told_of code (set_by id p value) ≡ some (cond (id_wrong 0x84 p) 7 (cond (value_reads p value is_too_short) 5 (cond (value_reads p value is_nan_value) 7 0)))
    unfolding decoded_of turned_down refused_of id_wrong
    set code id (ReadWrite t) value = value_set code id (read_of t value)
    set code id (ReadOnly t) value = refl
    set code id Unknown value = refl

    -- the checks behind that of the code
    abbrev behind_4 : ℕ → List Check
    behind_4 code =
        5 when shorter (find command_table code) s
        ∷ 6 when unavailable code (mode_of b) rail limits
        ∷ 7 when key_wrong (find command_table code) s
        ∷ 7 when id_wrong code (parameter_of (id_of s))
        ∷ 5 when (eqb code 0x84 && value_reads (parameter_of (id_of s)) (value_part s) is_too_short)
        ∷ 7 when (eqb code 0x84 && value_reads (parameter_of (id_of s)) (value_part s) is_nan_value)
        ∷ 7 when channel_wrong code b.profile (byte_after s)
        ∷ 7 when checksum_wrong code (checksum_in s) b.memory
        ∷ []

    -- a command of the list
    in_list : is_startup (mode_of b) ≡ false → (code : ℕ) → is_in code table_codes ≡ true → told_of code (listed (find command_table code) s) ≡ some (first (behind_4 code))
    unfolding listed find command_table first is_in id_wrong unavailable channel_codes channel_wrong checksum_wrong carried getting setting resetting decoded_of run_of reported_of accepted_of accepted_with group_on_of group_off_of group_state_of channel_on_of channel_off_of cancelled_of faults_of housekeeping_of engineering_housekeeping_of abf_of battery_housekeeping_of engineering_battery_housekeeping_of remembered_of restarted_of to_safety to_nominal
    in_list started code h =
        at_code (λ k. told_of k (listed (find command_table k) s) ≡ some (first (behind_4 k))) code table_codes h
        (keyed 0xAA 5 0xA6 _ refl
        and plain 0x02 4 _ refl
        and plain 0x04 4 _ refl
        and plain 0x06 4 _ refl
        and plain 0x10 6 _ (switched 0x10 b false _)
        and plain 0x12 6 _ (switched 0x12 b false _)
        and plain 0x14 6 _ (switched 0x14 b false _)
        and plain 0x16 5 _ (switched 0x16 b (wrong_to_switch_on b.profile.fitted (byte_after s)) _)
        and plain 0x18 5 _ (switched 0x18 b (wrong_to_switch_off b.profile.fitted b.profile.forced (byte_after s)) _)
        and plain 0x30 4 _ (to_nominal_lem 0x30 b (mode_of b) b.phase rail limits started)
        and plain 0x32 4 _ (to_safety_lem 0x32 b (mode_of b) b.phase started)
        and plain 0x42 4 _ refl
        and plain 0x50 4 _ refl
        and plain 0x82 6 _ (got 0x82 (id_of s) (parameter_of (id_of s)))
        and plain 0x84 6 _ (set 0x84 (id_of s) (parameter_of (id_of s)) (value_part s))
        and plain 0x86 6 _ (reset 0x86 (id_of s) (parameter_of (id_of s)))
        and keyed 0x90 5 0xA7 _ refl
        and keyed 0x92 5 0xA7 _ refl
        and keyed 0x94 7 0xA7 _ (saved 0x94 b _)
        and plain 0x52 4 _ refl
        and plain 0x44 4 _ refl
        and plain 0x60 4 _ refl
        and plain 0x62 4 _ refl
        and none)

    -- ---- the whole table
    pub in_order : told (stepped_of rail limits s b) ≡ some (first (checks_of rail limits b s))
    unfolding stepped_of decode_of first checks_of checks
    in_order =
        rw (sym (header_check b.profile.kind b.profile.bid s))
        (behind (code_of s) (fewer_than_four s) FewerThanFourBytes _
        (past (code_of s) (is_startup (mode_of b)) InStartup _
        (λ started.
        behind (code_of s) (not (header_is (header_of b.profile.kind b.profile.bid) s)) NotThisBoard _
        (cases (is_in (code_of s) (board_of b.profile.kind).codes)
        (λ here. rw here (in_list started (code_of s) (has_a_command b.profile.kind (code_of s) here)))
        (λ none-such. rw none-such (refused (code_of s) CodeNotListed))))))
