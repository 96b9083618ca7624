-- The parts of the command step, put together in a board, are the step. Assumes nothing.
use Prim.Native.Nat.{ℕ}
use mathlib.Core.Path.{◌≡◌, refl, ap, sym, ◌∙◌}
use mathlib.Core.Bool.{Bool, true, false, cond}
use mathlib.Core.List.{List}
use Rattle.std.specs.Prelude.{Option, Some, None}
use lib.IntN.{ℤ}
use Rattle.std.specs.Prelude.{Ok, Err}
use Rattle.laws.proofs.Cases.{cases}
use Rattle.modes.specs.declared.ModeAge.{ModeAge}
use Rattle.modes.specs.declared.Limits.{Limits}
use Rattle.modes.specs.Commands.{to_safety, to_nominal}
use Rattle.channels.specs.declared.Channels.{Channels}
use Rattle.command.specs.Decode.{Decoded, code_of}
use Rattle.command.specs.declared.Command.{Command}
use Rattle.command.specs.declared.Refusal.{Refusal}
use Rattle.memory.specs.Memory.{is_right, saved_of}
use Rattle.state.specs.Parts.{mode_of, with_reply, with_memory}
use Rattle.state.specs.Start.{command_reset_of}
use Rattle.state.specs.declared.parts.Board.{Board}
use Rattle.answers.specs.Answers.{accepted_with, accepted_of, refused_of, not_this_board_of}
use Rattle.answers.specs.declared.Commanded.{Commanded}
use Rattle.effects.specs.Effects.{is_nominal, switched_of, group_on_of, group_off_of, group_state_of, channel_on_of, channel_off_of, cancelled_of, switched_mode_of, faults_of, housekeeping_of, engineering_housekeeping_of, abf_of, battery_housekeeping_of, engineering_battery_housekeeping_of, parameter_answered, remembered_of, saved_in, restarted_of, reported_of, run_of}
use Rattle.asking.specs.Asked.{asked_by, asked_of}
use Rattle.asking.specs.declared.Asked.{Asked}
use Rattle.asking.specs.declared.Asked.TheVariants as asked
use Rattle.answering.specs.Answering.{memory_after, alters, is_restart, reply_to}
use Rattle.commands.specs.Step.{read_by, commanded_of}
use Rattle.commands.proofs.Stepwise.{turned_down, decoded_of, stepped_of}
use Rattle.commands.proofs.Told.{stepwise}
use Rattle.effects.specs.Parts.{obeyed_in}
use Rattle.commands.specs.Parts.{asked_in, memory_change_asked, layout_asked}
use Rattle.effects.specs.declared.parts.Obeyed.{Obeyed}
use Rattle.command.specs.declared.Layout.{Layout}
use Rattle.command.specs.declared.Layout.TheVariants.{Short, Faults, Housekeeping, Parameter, EngineeringHousekeeping, AbfPlacedState, BatteryHousekeeping, EngineeringBatteryHousekeeping}
use Rattle.effects.specs.declared.parts.MemoryChange.{MemoryChange}

-- ---- a board, part after part
abbrev pub altered : MemoryChange → Board → Board
altered how b = cond (alters how) (with_memory (memory_after b.profile.kind how b.memory) b) b

abbrev pub replied : ℕ → Obeyed → Layout → Board → Board
replied code told layout b = cond told.replied (with_reply (reply_to code told.outcome layout b) b) b

abbrev pub settled : Obeyed → Board → Board
settled told b =
    record {
      phase = told.phase;
      timer = told.timer;
      reply = b.reply;
      memory = b.memory;
      channels = told.channels;
      profile = b.profile;
      measured = record { words = b.measured.words; fresh = told.fresh };
      resets = b.resets;
      form = b.form;
    }

abbrev pub put : ℕ → Asked → Obeyed → Board → Board
put code asked told b = settled told (replied code told (layout_asked asked) (altered (memory_change_asked asked) b))

abbrev pub over : Asked → Board → Board
over asked b = cond (is_restart (memory_change_asked asked)) (command_reset_of b) b

abbrev pub whole : ℕ → Asked → Obeyed → Board → Commanded
whole code asked told b = record { board = over asked (put code asked told b); outcome = told.outcome; replied = told.replied }

-- ---- each command
module _ (code : ℕ) (b : Board) where
  -- a command that leaves the memory, and is told in 5 bytes
  abbrev shortly : Obeyed → Commanded
  shortly told = record { board = settled told (replied code told Short b); outcome = told.outcome; replied = told.replied }

  switched : (right : Bool) (channels : Channels) → shortly (obeyed_in (switched_of 0 right channels b)) ≡ switched_of code right channels b
  unfolding switched_of reply_to accepted_of accepted_with refused_of
  switched right channels = cases (is_nominal (mode_of b)) (λ n. cases right (λ r. rw (n, r)) (λ r. rw (n, r))) (λ n. rw n)

  changed : (to : Option ModeAge) → shortly (obeyed_in (switched_mode_of 0 to b)) ≡ switched_mode_of code to b
  unfolding switched_mode_of reply_to accepted_of accepted_with refused_of
  changed (Some phase) = refl
  changed None = refl

  saved : (given : ℕ) → whole code (asked.Run (Command.SaveConfiguration given)) (obeyed_in (saved_in 0 given b)) b ≡ saved_in code given b
  unfolding saved_in saved_of remembered_of reply_to accepted_of accepted_with refused_of
  saved given = cases (is_right given b.memory) (λ e. rw e) (λ e. rw e)

  reported : (layout : Layout) → whole code (asked.Run (Command.Report layout)) (obeyed_in (reported_of 0 layout b)) b ≡ reported_of code layout b
  unfolding reported_of faults_of housekeeping_of engineering_housekeeping_of abf_of battery_housekeeping_of engineering_battery_housekeeping_of parameter_answered reply_to accepted_of accepted_with
  reported Short = refl
  reported Faults = refl
  reported Housekeeping = refl
  reported (Parameter id) = refl
  reported EngineeringHousekeeping = refl
  reported AbfPlacedState = refl
  reported BatteryHousekeeping = refl
  reported EngineeringBatteryHousekeeping = refl

  run : (rail : ℤ) (limits : Limits) (c : Command) → whole code (asked.Run c) (obeyed_in (run_of rail limits 0 c b)) b ≡ run_of rail limits code c b
  unfolding run_of group_on_of group_off_of group_state_of channel_on_of channel_off_of cancelled_of faults_of housekeeping_of engineering_housekeeping_of abf_of battery_housekeeping_of engineering_battery_housekeeping_of parameter_answered remembered_of restarted_of command_reset_of reply_to accepted_of accepted_with
  run rail limits (Command.GroupOn g) = switched _ _
  run rail limits (Command.GroupOff g) = switched _ _
  run rail limits (Command.GroupState g) = switched _ _
  run rail limits (Command.ChannelOn one) = switched _ _
  run rail limits (Command.ChannelOff one) = switched _ _
  run rail limits Command.CancelOperation = refl
  run rail limits Command.SwitchToSafety = changed (to_safety b.phase)
  run rail limits Command.SwitchToNominal = changed (to_nominal b.phase rail limits)
  run rail limits (Command.SetParameter id v) = refl
  run rail limits (Command.ResetParameter id) = refl
  run rail limits Command.ResetConfiguration = refl
  run rail limits Command.LoadConfiguration = refl
  run rail limits (Command.SaveConfiguration given) = saved given
  run rail limits Command.SystemReset = refl
  run rail limits (Command.Report layout) = reported layout

  -- ---- whatever was asked
  pub together : (rail : ℤ) (limits : Limits) (a : Asked) → whole code a (obeyed_in (asked_in rail limits 0 a b)) b ≡ asked_in rail limits code a b
  unfolding asked_in reply_to
  together rail limits (asked.Silence outcome) = refl
  together rail limits (asked.Refusal answer) = refl
  together rail limits (asked.Run c) = run rail limits c

-- ---- what is asked comes to the step
module _ (rail : ℤ) (limits : Limits) (code : ℕ) (b : Board) where
  refused_as_lem : (r : Refusal) → asked_in rail limits code (asked_by (Err r)) b ≡ turned_down code r b
  unfolding asked_in turned_down refused_of not_this_board_of
  refused_as_lem Refusal.FewerThanFourBytes = refl
  refused_as_lem Refusal.InStartup = refl
  refused_as_lem Refusal.NotThisBoard = refl
  refused_as_lem Refusal.CodeNotListed = refl
  refused_as_lem Refusal.TooShort = refl
  refused_as_lem Refusal.WrongKey = refl
  refused_as_lem Refusal.WrongParameter = refl
  refused_as_lem Refusal.NotANumber = refl

  decoded_as : (d : Decoded) → asked_in rail limits code (asked_by d) b ≡ decoded_of rail limits code d b
  unfolding asked_in decoded_of
  decoded_as (Ok c) = refl
  decoded_as (Err r) = refused_as_lem r

-- what a board is asked
abbrev pub asked_of_board : Bool → List ℕ → Board → Asked
asked_of_board sent s b = asked_of b.profile.kind b.profile.bid (mode_of b) sent s

pub as_the_step : (rail : ℤ) (limits : Limits) (sent : Bool) (s : List ℕ) (b : Board) → asked_in rail limits (code_of s) (asked_of_board sent s b) b ≡ commanded_of rail limits sent s b
unfolding asked_in asked_of commanded_of stepped_of
as_the_step rail limits true s b = decoded_as rail limits (code_of s) b (read_by b s) ∙ sym (stepwise rail limits s b)
as_the_step rail limits false s b = refl

-- ---- a board that was changed part after part, as the code changes it
module _ (rail : ℤ) (limits : Limits) (sent : Bool) (s : List ℕ) (b : Board) (a : Asked) (told : Obeyed) (how : MemoryChange) (b₁ b₂ : Board) where
  pub record Obeying : Type 0 where
    pub asks : a ≡ asked_of_board sent s b
    pub tells : told ≡ obeyed_in (asked_in rail limits 0 a b)
    pub keeps : how ≡ memory_change_asked a
    pub alters_it : b₁ ≡ altered how b
    pub answers_it : b₂ ≡ replied (code_of s) told (layout_asked a) b₁

  step_of : Obeying → whole (code_of s) a told b ≡ commanded_of rail limits sent s b
  step_of o = rw o.tells (together (code_of s) b rail limits a) ∙ ap (λ (x : Asked). asked_in rail limits (code_of s) x b) o.asks ∙ as_the_step rail limits sent s b

  put_as : Obeying → settled told b₂ ≡ put (code_of s) a told b
  put_as o = rw (o.answers_it, o.alters_it, o.keeps)

  pub goes_on : Obeying → is_restart how ≡ false → record { board = settled told b₂; outcome = told.outcome; replied = told.replied } ≡ commanded_of rail limits sent s b
  goes_on o e = ap (λ (x : Board). record { board = x; outcome = told.outcome; replied = told.replied }) (put_as o ∙ sym (rw (sym o.keeps, e))) ∙ step_of o

  pub begins_again : Obeying → is_restart how ≡ true → {again : Board} → again ≡ command_reset_of (settled told b₂) → record { board = again; outcome = told.outcome; replied = told.replied } ≡ commanded_of rail limits sent s b
  begins_again o e f = ap (λ (x : Board). record { board = x; outcome = told.outcome; replied = told.replied }) (f ∙ ap command_reset_of (put_as o) ∙ sym (rw (sym o.keeps, e))) ∙ step_of o
