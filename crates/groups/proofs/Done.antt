-- What a command does to a board, by its code: the one walk through the table, for all that is shown elsewhere of
-- channels, mode, memory and counts. A command that alters none of these is one line of `in_list`. Assumes nothing.
use Prim.Native.Nat.{ℕ, suc}
use mathlib.Core.Path.{◌≡◌, refl, sym, subst}
use mathlib.Core.Bool.{Bool, true, false, cond, not}
use mathlib.Core.List.{List, [], ◌∷◌}
use mathlib.Core.Option.{some}
use Rattle.std.specs.Prelude.{is_err, Some}
use lib.Dec.{eqb, ltb}
use lib.IntN.{ℤ}
use lib.ListN.{length}
use Rattle.laws.proofs.Cases.{cases}
use Rattle.kinds.specs.Kinds.{board_of, is_in}
use Rattle.wire.specs.Replies.{reply_of}
use Rattle.wire.specs.declared.reply.Reply.{Reply}
use Rattle.std.specs.Prelude.{Result, Ok, Err}
use Rattle.value.specs.declared.ValueRefusal.{ValueRefusal}
use Rattle.value.specs.declared.ParamValue.{ParamValue}
use Rattle.value.specs.Values.{read_of}
use Rattle.settings.specs.Table.{parameter_of}
use Rattle.settings.specs.declared.Parameter.{Parameter}
use Rattle.settings.specs.declared.Parameter.TheVariants.{ReadWrite, ReadOnly, Unknown}
use Rattle.modes.specs.Table.{◌at_least◌, same, entered}
use Rattle.modes.specs.Commands.{to_safety_from, to_safety, to_nominal_from, to_nominal}
use Rattle.modes.specs.declared.Mode.{Mode}
use Rattle.modes.specs.declared.Mode.TheVariants.{Startup, Nominal, Safety, Emergency}
use Rattle.modes.specs.declared.ModeAge.{ModeAge}
use Rattle.modes.specs.declared.Limits.{Limits}
use Rattle.channels.specs.declared.Channels.{Channels}
use Rattle.channels.proofs.Laws as channel
use Rattle.command.specs.Table.{command_table, find}
use Rattle.command.specs.Decode.{Decoded, fewer_than_four, header_is, code_of, byte_after, id_of, value_part, group_in, get_by, getting, valued, set_by, setting, reset_by, resetting, carried, header_of, listed, decode_of}
use Rattle.command.specs.declared.Refusal.{Refusal}
use Rattle.command.specs.declared.Refusal.TheVariants.{FewerThanFourBytes, InStartup, NotThisBoard, CodeNotListed, TooShort, WrongKey, WrongParameter, NotANumber}
use Rattle.command.proofs.Laws.{none, ◌and◌, at_code, table_codes, has_a_command}
use Rattle.memory.specs.Memory.{after_save, load_of, defaulted_of, set_in, reset_in, saved_of}
use Rattle.memory.specs.declared.Memory.{Memory}
use Rattle.replies.specs.Layouts.{faults_reply}
use Rattle.state.specs.Parts.{mode_of, with_phase, with_reply, with_memory, with_channels, with_measured}
use Rattle.state.specs.Start.{command_reset_of}
use Rattle.state.specs.declared.parts.Board.{Board}
use Rattle.state.specs.declared.parts.Measured.{Measured}
use Rattle.change.specs.Change.{is_dark, from_nominal_to_safety, entering_of}
use Rattle.answers.specs.Answers as answers
use Rattle.answers.specs.Answers.{told_number, new, fed, accepted_with, accepted_of, refused_of, not_this_board_of}
use Rattle.answers.specs.declared.Answer.{Answer}
use Rattle.answers.specs.declared.Commanded.{Commanded}
use Rattle.effects.specs.Effects.{is_nominal, switched_of, group_on_of, group_off_of, group_state_of, channel_on_of, channel_off_of, cancelled_of, switched_mode_of, faults_of, housekeeping_of, engineering_housekeeping_of, abf_of, battery_housekeeping_of, engineering_battery_housekeeping_of, parameter_answered as parameter_run, remembered_of, saved_in, restarted_of, reported_of, run_of}
use Rattle.asking.specs.Checks.{is_startup}
use Rattle.commands.specs.Step.{commanded_of}
use Rattle.commands.proofs.Stepwise.{turned_down, decoded_of, stepped_of}
use Rattle.commands.proofs.Told.{stepwise}

-- the codes of which more is said than that they reply
abbrev pub acting : List ℕ
acting = 0xAA ∷ 0x04 ∷ 0x10 ∷ 0x12 ∷ 0x14 ∷ 0x16 ∷ 0x18 ∷ 0x30 ∷ 0x32 ∷ 0x42 ∷ 0x84 ∷ 0x86 ∷ 0x90 ∷ 0x92 ∷ 0x94 ∷ []

module _ (rail : ℤ) (limits : Limits) (s : List ℕ) (b : Board) where
  -- the channels after one of the laws' commands
  abbrev pub operated : channel.Command → Channels
  operated o = channel.obeyed b.profile.fitted b.profile.forced o b.channels

  -- ---- what the codes ask for: an operation on the channels
  pub data Operates : ℕ → channel.Command → Type 0 where
    group_on : Operates 0x10 (channel.turn_group_on (group_in s).spoken (group_in s).mask)
    group_off : Operates 0x12 (channel.turn_group_off (group_in s).spoken (group_in s).mask)
    group_state : Operates 0x14 (channel.set_group_state (group_in s).spoken (group_in s).mask)
    channel_on : Operates 0x16 (channel.turn_on (byte_after s))
    channel_off : Operates 0x18 (channel.turn_off (byte_after s))
    cancel : Operates 0x04 channel.turn_command_enabled_off

  -- a mode, with the channels that it brings
  pub data Enters : ℕ → ModeAge → Channels → Type 0 where
    in_nominal : to_nominal b.phase rail limits ≡ Some b.phase → Enters 0x30 b.phase b.channels
    into_nominal : to_nominal b.phase rail limits ≡ Some (entered Nominal) → Enters 0x30 (entered Nominal) b.channels
    in_safety : same (mode_of b) Nominal ≡ false → to_safety b.phase ≡ Some b.phase → Enters 0x32 b.phase b.channels
    into_safety : same (mode_of b) Nominal ≡ true → to_safety b.phase ≡ Some (entered Safety) → Enters 0x32 (entered Safety) (operated channel.turn_command_enabled_off)

  -- another memory
  pub data Remembers : ℕ → Memory → Type 0 where
    set : (id : ℕ) (v : ParamValue) → Remembers 0x84 (set_in id v b.memory)
    reset_one : (id : ℕ) → Remembers 0x86 (reset_in b.profile.kind id b.memory)
    defaults : Remembers 0x90 (defaulted_of b.profile.kind b.memory)
    load : Remembers 0x92 (load_of b.profile.kind b.memory)
    save : (given : ℕ) → Remembers 0x94 (after_save (saved_of given b.memory) b.memory)

  -- ---- the board that an accepted command of a code leaves, with some reply and the timer at 0, or by a reset
  pub data Done : ℕ → Board → Type 0 where
    replies : {k : ℕ} (r : Reply) (w : Measured) → is_in k acting ≡ false → Done k (with_reply r (fed (with_measured w b)))
    shows_faults : Done 0x42 (with_reply (reply_of (faults_reply (answers.header_of b.profile) 0x42 new b.channels.on b.channels.latched b.channels.counts)) (fed b))
    operates : {k : ℕ} {o : channel.Command} (r : Reply) → Operates k o → Done k (with_reply r (fed (with_channels (operated o) b)))
    enters : {k : ℕ} {p : ModeAge} {ch : Channels} (r : Reply) → Enters k p ch → Done k (with_reply r (fed (with_phase p (with_channels ch b))))
    remembers : {k : ℕ} {m : Memory} (r : Reply) → Remembers k m → Done k (with_reply r (fed (with_memory m b)))
    restarts : Done 0xAA (command_reset_of b)

  -- and a refused one
  pub record Left (after : Board) : Type 0 where
    pub phase : after.phase ≡ b.phase
    pub memory : after.memory ≡ b.memory
    pub channels : after.channels ≡ b.channels

  -- a command is refused, or accepted with a board of which P holds
  pub data Answers (P : Board → Type 0) (c : Commanded) : Type 0 where
    refusing : (n : ℕ) → told_number c.outcome ≡ some (suc n) → Left c.board → Answers P c
    accepting : told_number c.outcome ≡ some 0 → P c.board → Answers P c

  -- and with one of which all holds that follows
  pub hence : {P : Board → Type 0} (Q : Board → Type 0) {c : Commanded} → ((after : Board) → P after → Q after) → Answers P c → Answers Q c
  hence Q f (refusing n t left) = refusing n t left
  hence Q {c} f (accepting t p) = accepting t (f c.board p)

  -- a command of code k
  abbrev Does : ℕ → Commanded → Type 0
  Does k c = Answers (Done k) c

  -- ---- refusals: 1 to 5 and 7 of the decoder
  turned_down_lem : (k : ℕ) (r : Refusal) → Does k (turned_down k r b)
  unfolding turned_down not_this_board_of refused_of
  turned_down_lem k FewerThanFourBytes = refusing 0 refl (record { phase = refl; memory = refl; channels = refl })
  turned_down_lem k InStartup = refusing 1 refl (record { phase = refl; memory = refl; channels = refl })
  turned_down_lem k NotThisBoard = refusing 2 refl (record { phase = refl; memory = refl; channels = refl })
  turned_down_lem k CodeNotListed = refusing 3 refl (record { phase = refl; memory = refl; channels = refl })
  turned_down_lem k TooShort = refusing 4 refl (record { phase = refl; memory = refl; channels = refl })
  turned_down_lem k WrongKey = refusing 6 refl (record { phase = refl; memory = refl; channels = refl })
  turned_down_lem k WrongParameter = refusing 6 refl (record { phase = refl; memory = refl; channels = refl })
  turned_down_lem k NotANumber = refusing 6 refl (record { phase = refl; memory = refl; channels = refl })

  -- 6, of a mode
  unavailable : (k : ℕ) → Does k (refused_of Answer.NotAvailable k b)
  unfolding refused_of
  unavailable k = refusing 5 refl (record { phase = refl; memory = refl; channels = refl })

  -- 7, of a channel or a checksum
  wrong : (k : ℕ) → Does k (refused_of Answer.Wrong k b)
  unfolding refused_of
  wrong k = refusing 6 refl (record { phase = refl; memory = refl; channels = refl })

  -- what a check puts in front of a command
  either : (k : ℕ) (t : Bool) {x y : Commanded} → Does k x → Does k y → Does k (cond t x y)
  either k true p q = p
  either k false p q = q

  -- ---- each command
  -- the five on channels: in nominal, and the channel right
  switched : {k : ℕ} {o : channel.Command} (right : Bool) → Operates k o → Does k (switched_of k right (operated o) b)
  unfolding switched_of accepted_of accepted_with
  switched {k} right o = either k (not (is_nominal (mode_of b))) (unavailable k) (either k (not right) (wrong k) (accepting refl (operates _ o)))

  -- a mode, with channels that are those it brings
  mode_entered : {k : ℕ} {p : ModeAge} {ch : Channels} (left : Channels) (r : Reply) → left ≡ ch → Enters k p ch → Done k (with_reply r (fed (with_phase p (with_channels left b))))
  mode_entered {k} {p} left r e x = subst (λ (y : Channels). Done k (with_reply r (fed (with_phase p (with_channels y b))))) (sym e) (enters r x)

  -- 0x30, by the mode
  nominal_asked : (m : Mode) → mode_of b ≡ m → Does 0x30 (switched_mode_of 0x30 (to_nominal_from m b.phase rail limits) b)
  unfolding switched_mode_of accepted_of accepted_with entering_of is_dark from_nominal_to_safety to_nominal
  nominal_asked Startup e = unavailable 0x30
  nominal_asked Nominal e = accepting refl (mode_entered _ _ (rw e) (in_nominal (rw e)))
  nominal_asked Safety e =
      cases (rail at_least limits.safety_low)
      (λ enough. rw enough (accepting refl (mode_entered _ _ (rw e) (into_nominal (rw (e, enough))))))
      (λ low. rw low (unavailable 0x30))
  nominal_asked Emergency e = unavailable 0x30

  -- 0x32, by the mode
  safety_asked : (m : Mode) → mode_of b ≡ m → Does 0x32 (switched_mode_of 0x32 (to_safety_from m b.phase) b)
  unfolding switched_mode_of accepted_of accepted_with entering_of is_dark from_nominal_to_safety to_safety
  safety_asked Startup e = unavailable 0x32
  safety_asked Nominal e = accepting refl (mode_entered _ _ (rw e) (into_safety (rw e) (rw e)))
  safety_asked Safety e = accepting refl (mode_entered _ _ (rw e) (in_safety (rw e) (rw e)))
  safety_asked Emergency e = unavailable 0x32

  -- another memory, told in 5 bytes
  remembered : {k : ℕ} {m : Memory} → Remembers k m → Does k (remembered_of k m b)
  unfolding remembered_of accepted_of accepted_with
  remembered m = accepting refl (remembers _ m)

  -- another memory, told with the value of an id
  parameter : {k : ℕ} {m : Memory} (id : ℕ) → Remembers k m → Does k (parameter_run k id m b)
  unfolding parameter_run accepted_with
  parameter id m = accepting refl (remembers _ m)

  -- 0x94, which refuses a wrong checksum
  saved : (given : ℕ) → Does 0x94 (saved_in 0x94 given b)
  unfolding saved_in
  saved given = either 0x94 (is_err (saved_of given b.memory)) (wrong 0x94) (remembered (save given))

  -- ---- by what a code carries
  abbrev Runs : ℕ → Decoded → Type 0
  Runs k d = Does k (decoded_of rail limits k d b)

  -- 0x82
  got : (id : ℕ) (p : Parameter) → Runs 0x82 (get_by id p)
  unfolding decoded_of run_of reported_of parameter_run accepted_with is_in
  got id (ReadWrite t) = accepting refl (replies _ _ refl)
  got id (ReadOnly t) = accepting refl (replies _ _ refl)
  got id Unknown = turned_down_lem 0x82 WrongParameter

  -- 0x84, once its id is known
  value_set : (id : ℕ) (v : Result ParamValue ValueRefusal) → Runs 0x84 (valued id v)
  unfolding decoded_of run_of valued
  value_set id (Ok v) = parameter id (set id v)
  value_set id (Err ValueRefusal.TooShort) = turned_down_lem 0x84 TooShort
  value_set id (Err ValueRefusal.NotANumber) = turned_down_lem 0x84 NotANumber

  -- 0x84
  set_asked : (id : ℕ) (p : Parameter) (value : List ℕ) → Runs 0x84 (set_by id p value)
  unfolding decoded_of
  set_asked id (ReadWrite t) value = value_set id (read_of t value)
  set_asked id (ReadOnly t) value = turned_down_lem 0x84 WrongParameter
  set_asked id Unknown value = turned_down_lem 0x84 WrongParameter

  -- 0x86
  reset_asked : (id : ℕ) (p : Parameter) → Runs 0x86 (reset_by id p)
  unfolding decoded_of run_of
  reset_asked id (ReadWrite t) = parameter id (reset_one id)
  reset_asked id (ReadOnly t) = turned_down_lem 0x86 WrongParameter
  reset_asked id Unknown = turned_down_lem 0x86 WrongParameter

  -- ---- every code of the table
  -- what the decoder refuses stands in front of the command
  behind : (k : ℕ) (x : Bool) (r : Refusal) (d : Decoded) → Runs k d → Runs k (cond x (Err r) d)
  unfolding decoded_of
  behind k true r d p = turned_down_lem k r
  behind k false r d p = p

  -- a command that may be too short
  plain : (k needed : ℕ) (d : Decoded) → Runs k d → Runs k (cond (ltb (length s) needed) (Err TooShort) d)
  plain k needed d p = behind k (ltb (length s) needed) TooShort d p

  -- a command that may be too short, or have a wrong key
  keyed : (k needed key : ℕ) (d : Decoded) → Runs k d → Runs k (cond (ltb (length s) needed) (Err TooShort) (cond (not (eqb (byte_after s) key)) (Err WrongKey) d))
  keyed k needed key d p = plain k needed _ (behind k (not (eqb (byte_after s) key)) WrongKey d p)

  -- by the table, code by code
  in_list : (code : ℕ) → is_in code table_codes ≡ true → Runs code (listed (find command_table code) s)
  unfolding listed find command_table is_in carried getting setting resetting decoded_of run_of reported_of group_on_of group_off_of group_state_of channel_on_of channel_off_of cancelled_of accepted_of accepted_with faults_of housekeeping_of engineering_housekeeping_of abf_of battery_housekeeping_of engineering_battery_housekeeping_of restarted_of to_safety to_nominal
  in_list code h =
      at_code (λ k. Runs k (listed (find command_table k) s)) code table_codes h
      (keyed 0xAA 5 0xA6 _ (accepting refl restarts)
      and plain 0x02 4 _ (accepting refl (replies _ _ refl))
      and plain 0x04 4 _ (accepting refl (operates _ cancel))
      and plain 0x06 4 _ (accepting refl (replies _ _ refl))
      and plain 0x10 6 _ (switched true group_on)
      and plain 0x12 6 _ (switched true group_off)
      and plain 0x14 6 _ (switched true group_state)
      and plain 0x16 5 _ (switched _ channel_on)
      and plain 0x18 5 _ (switched _ channel_off)
      and plain 0x30 4 _ (nominal_asked (mode_of b) refl)
      and plain 0x32 4 _ (safety_asked (mode_of b) refl)
      and plain 0x42 4 _ (accepting refl shows_faults)
      and plain 0x50 4 _ (accepting refl (replies _ _ refl))
      and plain 0x82 6 _ (got (id_of s) (parameter_of (id_of s)))
      and plain 0x84 6 _ (set_asked (id_of s) (parameter_of (id_of s)) (value_part s))
      and plain 0x86 6 _ (reset_asked (id_of s) (parameter_of (id_of s)))
      and keyed 0x90 5 0xA7 _ (remembered defaults)
      and keyed 0x92 5 0xA7 _ (remembered load)
      and keyed 0x94 7 0xA7 _ (saved _)
      and plain 0x52 4 _ (accepting refl (replies _ _ refl))
      and plain 0x44 4 _ (accepting refl (replies _ _ refl))
      and plain 0x60 4 _ (accepting refl (replies _ _ refl))
      and plain 0x62 4 _ (accepting refl (replies _ _ refl))
      and none)

  -- ---- every transfer
  pub does : Does (code_of s) (commanded_of rail limits true s b)
  unfolding commanded_of stepped_of decode_of decoded_of
  does =
      let code = code_of s in
      rw (stepwise rail limits s b)
      (behind code (fewer_than_four s) FewerThanFourBytes _
      (behind code (is_startup (mode_of b)) InStartup _
      (behind code (not (header_is (header_of b.profile.kind b.profile.bid) s)) NotThisBoard _
      (cases (is_in code (board_of b.profile.kind).codes)
      (λ here. rw here (in_list code (has_a_command b.profile.kind code here)))
      (λ none_such. rw none_such (turned_down_lem code CodeNotListed))))))
