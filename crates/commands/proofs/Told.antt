-- What the command step makes of every transfer: it accepts it and the timer is 0, or it hands the board on as it was,
-- or it only answers, with the timer or without it. So the checks and the command's own tests, one after the other,
-- come to the table's answer. Assumes nothing.
use Prim.Native.Nat.{ℕ, ◌≤◌}
use mathlib.Core.Path.{◌≡◌, refl, sym, ap, ◌∙◌, subst}
use mathlib.Core.Bool.{Bool, true, false, cond, not}
use mathlib.Core.List.{List}
use mathlib.Core.Option.{Option, some}
use native.Mathlib.Omega.{arith}
use Rattle.std.specs.Prelude as prelude
use Rattle.std.specs.Prelude.{is_err, Some, None, Ok, Err}
use lib.IntN.{ℤ}
use Rattle.modes.specs.declared.ModeAge.{ModeAge}
use Rattle.modes.specs.Commands.{to_safety, to_nominal}
use Rattle.modes.specs.declared.Limits.{Limits}
use Rattle.channels.specs.declared.Channels.{Channels}
use Rattle.command.specs.Checks.{first}
use Rattle.command.specs.Decode.{Decoded, code_of}
use Rattle.command.specs.declared.Command.{Command}
use Rattle.command.specs.declared.Layout.{Layout}
use Rattle.command.specs.declared.Refusal.{Refusal}
use Rattle.memory.specs.Memory.{saved_of}
use Rattle.state.specs.Parts.{mode_of}
use Rattle.state.specs.Start.{fresh_of, command_reset_of}
use Rattle.state.specs.declared.parts.Board.{Board}
use Rattle.answers.specs.Answers.{answer_number, answer_of, told_number, silent_of, accepted_with, accepted_of, refused_of, not_this_board_of}
use Rattle.answers.specs.declared.Answer.{Answer}
use Rattle.answers.specs.declared.Answer.TheVariants.{Accepted, FewerThanFourBytes, InStartup, NotThisBoard, CodeNotListed, TooShort, NotAvailable, Wrong}
use Rattle.answers.specs.declared.Outcome.TheVariants.{Answered}
use Rattle.answers.specs.declared.Commanded.{Commanded}
use Rattle.effects.specs.Effects.{is_nominal, switched_of, group_on_of, group_off_of, group_state_of, channel_on_of, channel_off_of, cancelled_of, switched_mode_of, faults_of, housekeeping_of, engineering_housekeeping_of, abf_of, battery_housekeeping_of, engineering_battery_housekeeping_of, parameter_answered, remembered_of, saved_in, restarted_of, reported_of, run_of}
use Rattle.asking.specs.Checks.{checks_of}
use Rattle.commands.specs.Step.{done_of, read_by, returning, transferred_of, commanded_of, number_of}
use Rattle.commands.proofs.Order.{in_order}
use Rattle.commands.proofs.Stepwise.{turned_down, decoded_of, stepped_of}

pub same_number : (n m : ℕ) → ◌≡◌ {A = Option ℕ} (some n) (some m) → n ≡ m
same_number n m e = cc

pub data Result (code : ℕ) (b : Board) : Commanded → Type 0 where
  accepted : {c : Commanded} → c.outcome ≡ Answered Accepted → c.board.timer ≡ 0 → Result code b c
  short : Result code b (silent_of (Answered FewerThanFourBytes) b)
  starting : Result code b (silent_of (Answered InStartup) b)
  elsewhere : Result code b (not_this_board_of code b)
  refused : (answer : Answer) → 4 ≤ answer_number answer → Result code b (refused_of answer code b)

module _ (code : ℕ) (b : Board) where
  either : (x : Bool) {p q : Commanded} → Result code b p → Result code b q → Result code b (cond x p q)
  either true p q = p
  either false p q = q

  -- 4 to 7
  not_listed_lem : Result code b (refused_of CodeNotListed code b)
  not_listed_lem = refused CodeNotListed (omega arith)

  too_short : Result code b (refused_of TooShort code b)
  too_short = refused TooShort (omega arith)

  not_available_lem : Result code b (refused_of NotAvailable code b)
  not_available_lem = refused NotAvailable (omega arith)

  wrong : Result code b (refused_of Wrong code b)
  wrong = refused Wrong (omega arith)

  switched : (right : Bool) (channels : Channels) → Result code b (switched_of code right channels b)
  unfolding switched_of accepted_of accepted_with
  switched right channels = either (not (is_nominal (mode_of b))) not_available_lem (either (not right) wrong (accepted refl refl))

  switched_mode : (c : prelude.Option ModeAge) → Result code b (switched_mode_of code c b)
  unfolding switched_mode_of accepted_of accepted_with
  switched_mode (Some phase) = accepted refl refl
  switched_mode None = not_available_lem

  reported : (layout : Layout) → Result code b (reported_of code layout b)
  unfolding reported_of faults_of housekeeping_of engineering_housekeeping_of abf_of battery_housekeeping_of engineering_battery_housekeeping_of parameter_answered accepted_of accepted_with
  reported Layout.Short = accepted refl refl
  reported Layout.Faults = accepted refl refl
  reported Layout.Housekeeping = accepted refl refl
  reported (Layout.Parameter id) = accepted refl refl
  reported Layout.EngineeringHousekeeping = accepted refl refl
  reported Layout.AbfPlacedState = accepted refl refl
  reported Layout.BatteryHousekeeping = accepted refl refl
  reported Layout.EngineeringBatteryHousekeeping = accepted refl refl

  run : (rail : ℤ) (limits : Limits) (c : Command) → Result code b (run_of rail limits code c b)
  unfolding run_of group_on_of group_off_of group_state_of channel_on_of channel_off_of cancelled_of faults_of housekeeping_of engineering_housekeeping_of abf_of battery_housekeeping_of engineering_battery_housekeeping_of parameter_answered remembered_of saved_in restarted_of accepted_of accepted_with command_reset_of fresh_of
  run rail limits (Command.GroupOn g) = switched _ _
  run rail limits (Command.GroupOff g) = switched _ _
  run rail limits (Command.GroupState g) = switched _ _
  run rail limits (Command.ChannelOn one) = switched _ _
  run rail limits (Command.ChannelOff one) = switched _ _
  run rail limits Command.CancelOperation = accepted refl refl
  run rail limits Command.SwitchToSafety = switched_mode (to_safety b.phase)
  run rail limits Command.SwitchToNominal = switched_mode (to_nominal b.phase rail limits)
  run rail limits (Command.SetParameter id v) = accepted refl refl
  run rail limits (Command.ResetParameter id) = accepted refl refl
  run rail limits Command.ResetConfiguration = accepted refl refl
  run rail limits Command.LoadConfiguration = accepted refl refl
  run rail limits (Command.SaveConfiguration given) = either (is_err (saved_of given b.memory)) wrong (accepted refl refl)
  run rail limits Command.SystemReset = accepted refl refl
  run rail limits (Command.Report layout) = reported layout

  turned_down_lem : (refusal : Refusal) → Result code b (turned_down code refusal b)
  unfolding turned_down
  turned_down_lem Refusal.FewerThanFourBytes = short
  turned_down_lem Refusal.InStartup = starting
  turned_down_lem Refusal.NotThisBoard = elsewhere
  turned_down_lem Refusal.CodeNotListed = not_listed_lem
  turned_down_lem Refusal.TooShort = too_short
  turned_down_lem Refusal.WrongKey = wrong
  turned_down_lem Refusal.WrongParameter = wrong
  turned_down_lem Refusal.NotANumber = wrong

  decoded : (rail : ℤ) (limits : Limits) (d : Decoded) → Result code b (decoded_of rail limits code d b)
  unfolding decoded_of
  decoded rail limits (Ok c) = run rail limits c
  decoded rail limits (Err refusal) = turned_down_lem refusal

-- ---- by the number that is told, it is what the table returns
module _ (rail : ℤ) (limits : Limits) (s : List ℕ) (b : Board) where
  -- an accepted transfer is a command
  done : (d : Decoded) → told_number (decoded_of rail limits (code_of s) d b).outcome ≡ some 0 → decoded_of rail limits (code_of s) d b ≡ done_of rail limits (code_of s) d b
  unfolding decoded_of turned_down refused_of not_this_board_of
  done (Ok c) q = refl
  done (Err Refusal.FewerThanFourBytes) q = absurd (omega (arith, same_number 1 0 q))
  done (Err Refusal.InStartup) q = absurd (omega (arith, same_number 2 0 q))
  done (Err Refusal.NotThisBoard) q = absurd (omega (arith, same_number 3 0 q))
  done (Err Refusal.CodeNotListed) q = absurd (omega (arith, same_number 4 0 q))
  done (Err Refusal.TooShort) q = absurd (omega (arith, same_number 5 0 q))
  done (Err Refusal.WrongKey) q = absurd (omega (arith, same_number 7 0 q))
  done (Err Refusal.WrongParameter) q = absurd (omega (arith, same_number 7 0 q))
  done (Err Refusal.NotANumber) q = absurd (omega (arith, same_number 7 0 q))

  refusing : (a : Answer) → 4 ≤ answer_number a → refused_of a (code_of s) b ≡ returning (answer_of (answer_number a)) rail limits s b
  unfolding returning
  refusing Accepted h = absurd (omega arith)
  refusing FewerThanFourBytes h = absurd (omega arith)
  refusing InStartup h = absurd (omega arith)
  refusing NotThisBoard h = absurd (omega arith)
  refusing CodeNotListed h = refl
  refusing TooShort h = refl
  refusing NotAvailable h = refl
  refusing Wrong h = refl

  as_returned : (n : ℕ) (c : Commanded) → Result (code_of s) b c → told_number c.outcome ≡ some n
      → (told_number c.outcome ≡ some 0 → c ≡ done_of rail limits (code_of s) (read_by b s) b) → c ≡ returning (answer_of n) rail limits s b
  unfolding returning not_this_board_of refused_of
  as_returned n c (accepted e z) q d =
      let zero : n ≡ 0 = same_number n 0 (sym q ∙ ap told_number e) in
      rw zero (d (ap told_number e))
  as_returned n c short q d = rw (sym (same_number 1 n q))
  as_returned n c starting q d = rw (sym (same_number 2 n q))
  as_returned n c elsewhere q d = rw (sym (same_number 3 n q))
  as_returned n c (refused a k) q d = rw (sym (same_number (answer_number a) n q)) (refusing a k)

  -- the table's answer is what the checks come to, one after the other
  pub stepwise : transferred_of rail limits s b ≡ stepped_of rail limits s b
  unfolding transferred_of stepped_of
  stepwise =
      sym
      (as_returned (first (checks_of rail limits b s)) (stepped_of rail limits s b) (decoded (code_of s) b rail limits (read_by b s)) (in_order rail limits b s) (done (read_by b s)))

  -- of a transfer
  pub result : Result (code_of s) b (transferred_of rail limits s b)
  unfolding stepped_of
  result = subst (Result (code_of s) b) (sym stepwise) (decoded (code_of s) b rail limits (read_by b s))

  -- the number that is told is that of the first check that applies
  pub number_told : told_number (transferred_of rail limits s b).outcome ≡ some (first (checks_of rail limits b s))
  number_told = ap (λ (c : Commanded). told_number c.outcome) stepwise ∙ in_order rail limits b s

pub numbered : (rail : ℤ) (limits : Limits) (sent : Bool) (s : List ℕ) (b : Board) → told_number (commanded_of rail limits sent s b).outcome ≡ number_of rail limits sent s b
unfolding commanded_of number_of
numbered rail limits true s b = number_told rail limits s b
numbered rail limits false s b = refl

pub with_number : {r : Commanded} (rail : ℤ) (limits : Limits) (sent : Bool) (s : List ℕ) (b : Board) → r ≡ commanded_of rail limits sent s b
    → (r ≡ commanded_of rail limits sent s b) × (told_number r.outcome ≡ number_of rail limits sent s b)
with_number rail limits sent s b e = (e, ap (λ (c : Commanded). told_number c.outcome) e ∙ numbered rail limits sent s b)
