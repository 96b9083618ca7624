-- A tick that happens tells that it had no transfer, or the transfer's answer, and never 9; the reply that it leaves as
-- its own is one that it made; and it leaves the profile, and but for a reset the form of the text line. Assumes
-- nothing.
use Prim.Native.Nat.{ℕ}
use mathlib.Core.Path.{◌≡◌, refl, ap, sym, subst, ◌∙◌}
use mathlib.Core.Bool.{Bool, true, false, cond, not, false≢true}
use mathlib.Core.Logic.{◌⊎◌, inl, inr, ⊎_elim}
use mathlib.Core.List.{List}
use mathlib.Core.Option.{some}
use native.Mathlib.Omega.{arith}
use Rattle.std.specs.Prelude.{is_err, Option, Some, None}
use lib.IntN.{ℤ}
use lib.ListN.{length}
use Rattle.std.specs.Prelude.{Ok, Err}
use Rattle.laws.proofs.Cases.{cases}
use Rattle.modes.specs.declared.ModeAge.{ModeAge}
use Rattle.modes.specs.Commands.{to_safety, to_nominal}
use Rattle.modes.specs.Table.{entered}
use Rattle.modes.specs.declared.Mode.TheVariants.{Startup}
use Rattle.modes.specs.declared.Limits.{Limits}
use Rattle.watchdog.specs.Watchdog as dog
use Rattle.watchdog.specs.declared.Event.{Event}
use Rattle.watchdog.specs.declared.Event.TheVariants.{NoEvent, PeripheralReset, WatchdogReset}
use Rattle.channels.specs.declared.Channels.{Channels}
use Rattle.command.specs.Decode.{Decoded, code_of}
use Rattle.command.specs.declared.Command.{Command}
use Rattle.command.specs.declared.Layout.{Layout}
use Rattle.command.specs.declared.Refusal.{Refusal}
use Rattle.memory.specs.Limits.{timeout_of, limits_of}
use Rattle.memory.specs.Memory.{saved_of}
use Rattle.wire.specs.declared.reply.Reply.{Reply}
use Rattle.wire.specs.declared.forms.Form.{Form}
use Rattle.state.specs.Parts.{word_count, mode_of, with_reply}
use Rattle.state.specs.Start.{fresh_of, command_reset_of, watchdog_reset_of}
use Rattle.state.specs.declared.parts.Board.{Board}
use Rattle.state.specs.declared.parts.Profile.{Profile}
use Rattle.answers.specs.Answers.{answer_number, told_number, accepted_with, accepted_of, refused_of, not_this_board_of}
use Rattle.answers.specs.declared.Answer.{Answer}
use Rattle.answers.specs.declared.Answer.TheVariants.{Accepted, FewerThanFourBytes, InStartup, NotThisBoard, CodeNotListed, TooShort, NotAvailable, Wrong}
use Rattle.answers.specs.declared.Outcome.{Outcome}
use Rattle.answers.specs.declared.Outcome.TheVariants.{NoTransfer, Answered}
use Rattle.answers.specs.declared.Commanded.{Commanded}
use Rattle.effects.specs.Effects.{is_nominal, switched_of, group_on_of, group_off_of, group_state_of, channel_on_of, channel_off_of, cancelled_of, switched_mode_of, faults_of, housekeeping_of, engineering_housekeeping_of, abf_of, battery_housekeeping_of, engineering_battery_housekeeping_of, parameter_answered, remembered_of, saved_in, restarted_of, reported_of, run_of}
use Rattle.commands.specs.Step.{read_by, transferred_of, commanded_of}
use Rattle.commands.proofs.Stepwise.{turned_down, decoded_of, stepped_of}
use Rattle.commands.proofs.Told.{stepwise, numbered}
use Rattle.board.specs.Tick.{risen_of, changed_of, tripped_of, watched_as, watched_in, tick_with, allowed_count, tick_of, tick_number}
use Rattle.board.specs.declared.Ticked.{Ticked}

-- what every command but a reset leaves: the form of the text line, and the profile
abbrev lasting : Board → Form × Profile
lasting b = (b.form, b.profile)

-- ---- every transfer is answered. Where a reply is made it is the same whatever reply r waited before; the form of the
-- text line and the profile stay, but for a reset by command
record Answers (b : Board) (c other : Commanded) : Type 0 where
  answer : Answer
  told_so : c.outcome ≡ Answered answer
  own_reply : c.replied ≡ true → c.board.reply ≡ other.board.reply
  form_kept : (lasting c.board ≡ lasting b) ⊎ (c.board ≡ command_reset_of b)

replies : {b : Board} {c other : Commanded} (answer : Answer) → c.outcome ≡ Answered answer → c.board.reply ≡ other.board.reply → lasting c.board ≡ lasting b → Answers b c other
replies answer t r f = record { answer = answer; told_so = t; own_reply = λ e. r; form_kept = inl f }

silent : {b : Board} {c other : Commanded} (answer : Answer) → c.outcome ≡ Answered answer → c.replied ≡ false → lasting c.board ≡ lasting b → Answers b c other
silent answer t q f = record { answer = answer; told_so = t; own_reply = λ e. absurd (false≢true (sym q ∙ e)); form_kept = inl f }

either : (t : Bool) {b : Board} {x y x' y' : Commanded} → Answers b x x' → Answers b y y' → Answers b (cond t x y) (cond t x' y')
either true p q = p
either false p q = q

module _ (r : Reply) where
  switched : (code : ℕ) (right : Bool) (channels : Channels) (b : Board) → Answers b (switched_of code right channels b) (switched_of code right channels (with_reply r b))
  unfolding switched_of refused_of accepted_of accepted_with
  switched code right channels b = either (not (is_nominal (mode_of b))) (replies NotAvailable refl refl refl) (either (not right) (replies Wrong refl refl refl) (replies Accepted refl refl refl))

  switched_mode : (code : ℕ) (c : Option ModeAge) (b : Board) → Answers b (switched_mode_of code c b) (switched_mode_of code c (with_reply r b))
  unfolding switched_mode_of refused_of accepted_of accepted_with
  switched_mode code (Some phase) b = replies Accepted refl refl refl
  switched_mode code None b = replies NotAvailable refl refl refl

  reported : (code : ℕ) (layout : Layout) (b : Board) → Answers b (reported_of code layout b) (reported_of code layout (with_reply r b))
  unfolding reported_of faults_of housekeeping_of engineering_housekeeping_of abf_of battery_housekeeping_of engineering_battery_housekeeping_of parameter_answered accepted_of accepted_with
  reported code Layout.Short b = replies Accepted refl refl refl
  reported code Layout.Faults b = replies Accepted refl refl refl
  reported code Layout.Housekeeping b = replies Accepted refl refl refl
  reported code (Layout.Parameter id) b = replies Accepted refl refl refl
  reported code Layout.EngineeringHousekeeping b = replies Accepted refl refl refl
  reported code Layout.AbfPlacedState b = replies Accepted refl refl refl
  reported code Layout.BatteryHousekeeping b = replies Accepted refl refl refl
  reported code Layout.EngineeringBatteryHousekeeping b = replies Accepted refl refl refl

  run : (rail : ℤ) (limits : Limits) (code : ℕ) (c : Command) (b : Board) → Answers b (run_of rail limits code c b) (run_of rail limits code c (with_reply r b))
  unfolding run_of group_on_of group_off_of group_state_of channel_on_of channel_off_of cancelled_of faults_of housekeeping_of engineering_housekeeping_of abf_of battery_housekeeping_of engineering_battery_housekeeping_of parameter_answered remembered_of saved_in restarted_of refused_of accepted_of accepted_with
  run rail limits code (Command.GroupOn g) b = switched code _ _ b
  run rail limits code (Command.GroupOff g) b = switched code _ _ b
  run rail limits code (Command.GroupState g) b = switched code _ _ b
  run rail limits code (Command.ChannelOn one) b = switched code _ _ b
  run rail limits code (Command.ChannelOff one) b = switched code _ _ b
  run rail limits code Command.CancelOperation b = replies Accepted refl refl refl
  run rail limits code Command.SwitchToSafety b = switched_mode code (to_safety b.phase) b
  run rail limits code Command.SwitchToNominal b = switched_mode code (to_nominal b.phase rail limits) b
  run rail limits code (Command.SetParameter id v) b = replies Accepted refl refl refl
  run rail limits code (Command.ResetParameter id) b = replies Accepted refl refl refl
  run rail limits code Command.ResetConfiguration b = replies Accepted refl refl refl
  run rail limits code Command.LoadConfiguration b = replies Accepted refl refl refl
  run rail limits code (Command.SaveConfiguration given) b = either (is_err (saved_of given b.memory)) (replies Wrong refl refl refl) (replies Accepted refl refl refl)
  run rail limits code (Command.Report layout) b = reported code layout b
  run rail limits code Command.SystemReset b = record { answer = Accepted; told_so = refl; own_reply = λ e. absurd (false≢true e); form_kept = inr refl }

  turned_down_lem : (code : ℕ) (refusal : Refusal) (b : Board) → Answers b (turned_down code refusal b) (turned_down code refusal (with_reply r b))
  unfolding turned_down not_this_board_of refused_of
  turned_down_lem code Refusal.FewerThanFourBytes b = silent FewerThanFourBytes refl refl refl
  turned_down_lem code Refusal.InStartup b = silent InStartup refl refl refl
  turned_down_lem code Refusal.NotThisBoard b = replies NotThisBoard refl refl refl
  turned_down_lem code Refusal.CodeNotListed b = replies CodeNotListed refl refl refl
  turned_down_lem code Refusal.TooShort b = replies TooShort refl refl refl
  turned_down_lem code Refusal.WrongKey b = replies Wrong refl refl refl
  turned_down_lem code Refusal.WrongParameter b = replies Wrong refl refl refl
  turned_down_lem code Refusal.NotANumber b = replies Wrong refl refl refl

  transferred : (rail : ℤ) (limits : Limits) (s : List ℕ) (b : Board) → Answers b (transferred_of rail limits s b) (transferred_of rail limits s (with_reply r b))
  unfolding stepped_of decoded_of
  transferred rail limits s b = rw (stepwise rail limits s b, stepwise rail limits s (with_reply r b)) (decoded (read_by b s))
    where
      decoded : (d : Decoded) → Answers b (decoded_of rail limits (code_of s) d b) (decoded_of rail limits (code_of s) d (with_reply r b))
      decoded (Ok c) = run rail limits (code_of s) c b
      decoded (Err refusal) = turned_down_lem (code_of s) refusal b

-- ---- what holds of no transfer and of each answer holds of what the tick tells
module _ (P : Outcome → Type 0) (quiet : P NoTransfer) (answers : (answer : Answer) → P (Answered answer)) where
  commanded : (rail : ℤ) (limits : Limits) (sent : Bool) (s : List ℕ) (b : Board) → P (commanded_of rail limits sent s b).outcome
  unfolding commanded_of
  commanded rail limits false s b = quiet
  commanded rail limits true s b =
      let w = transferred b.reply rail limits s b in
      subst P (sym w.told_so) (answers w.answer)

  watched : (c : Commanded) → P c.outcome → P (watched_in c).outcome
  unfolding watched_in
  watched c p = go (dog.watched_of c.board.timer (dog.seconds_in_ticks (timeout_of c.board.memory)))
    where
      go : (e : Event) → P (watched_as e c).outcome
      go NoEvent = p
      go PeripheralReset = p
      go WatchdogReset = p

  pub told : (rail : ℤ) (named : ℕ) (words : List ℕ) (sent : Bool) (s : List ℕ) (b : Board) → allowed_count (word_count b) (length words) ≡ true → P (tick_of rail named words sent s b).outcome
  unfolding tick_of tick_with
  told rail named words sent s b allowed =
      let limits = limits_of b.memory in
      let settled = tripped_of named (changed_of rail limits (risen_of words b)) in
      rw allowed (watched (commanded_of rail limits sent s settled) (commanded rail limits sent s settled))

-- 9 is told exactly where the count of words is not allowed
pub only_9 : (rail : ℤ) (named : ℕ) (words : List ℕ) (sent : Bool) (s : List ℕ) (b : Board) → allowed_count (word_count b) (length words) ≡ true → told_number (tick_of rail named words sent s b).outcome ≡ some 9 → ⊥
only_9 rail named words sent s b allowed = told (λ o. told_number o ≡ some 9 → ⊥) quiet answers rail named words sent s b allowed
  where
    quiet : told_number NoTransfer ≡ some 9 → ⊥
    quiet e = let z : ◌≡◌ {A = ℕ} 0 1 = cc in absurd (omega arith)

    below : (answer : Answer) → answer_number answer ≡ 9 → ⊥
    below Accepted e = absurd (omega arith)
    below FewerThanFourBytes e = absurd (omega arith)
    below InStartup e = absurd (omega arith)
    below NotThisBoard e = absurd (omega arith)
    below CodeNotListed e = absurd (omega arith)
    below TooShort e = absurd (omega arith)
    below NotAvailable e = absurd (omega arith)
    below Wrong e = absurd (omega arith)

    answers : (answer : Answer) → told_number (Answered answer) ≡ some 9 → ⊥
    answers answer e = let n : answer_number answer ≡ 9 = cc in below answer n

-- what a tick that happens tells is what its command is told
watched_tells : (c : Commanded) → (watched_in c).outcome ≡ c.outcome
unfolding watched_in
watched_tells c = go (dog.watched_of c.board.timer (dog.seconds_in_ticks (timeout_of c.board.memory)))
  where
    go : (e : Event) → (watched_as e c).outcome ≡ c.outcome
    go NoEvent = refl
    go PeripheralReset = refl
    go WatchdogReset = refl

module _ (rail : ℤ) (named : ℕ) (words : List ℕ) (sent : Bool) (s : List ℕ) (b : Board) where
  pub numbered_tick : told_number (tick_of rail named words sent s b).outcome ≡ tick_number rail named words sent s b
  unfolding tick_of tick_with tick_number
  numbered_tick =
      let limits = limits_of b.memory in
      cases (allowed_count (word_count b) (length words))
      (λ t. rw t (ap told_number (watched_tells _) ∙ numbered rail limits sent s (tripped_of named (changed_of rail limits (risen_of words b)))))
      (λ f. rw f)

  pub with_number : {r : Ticked} → r ≡ tick_of rail named words sent s b → (r ≡ tick_of rail named words sent s b) × (told_number r.outcome ≡ tick_number rail named words sent s b)
  with_number e = (e, ap (λ (t : Ticked). told_number t.outcome) e ∙ numbered_tick)

-- ---- the reply and the form
made_in : (r : Reply) (rail : ℤ) (limits : Limits) (s : List ℕ) (b : Board) (sent : Bool) → (commanded_of rail limits sent s b).replied ≡ true
    → (commanded_of rail limits sent s b).board.reply ≡ (commanded_of rail limits sent s (with_reply r b)).board.reply
unfolding commanded_of
made_in r rail limits s b false e = absurd (false≢true e)
made_in r rail limits s b true e = (transferred r rail limits s b).own_reply e

-- a command leaves the form and the profile, or is a reset
formed_in : (rail : ℤ) (limits : Limits) (s : List ℕ) (b : Board) (sent : Bool) → (lasting (commanded_of rail limits sent s b).board ≡ lasting b) ⊎ ((commanded_of rail limits sent s b).board ≡ command_reset_of b)
unfolding commanded_of
formed_in rail limits s b false = inl refl
formed_in rail limits s b true = (transferred b.reply rail limits s b).form_kept

-- so no command alters the profile, a reset neither
pub command_profile : (rail : ℤ) (limits : Limits) (s : List ℕ) (b : Board) (sent : Bool) → (commanded_of rail limits sent s b).board.profile ≡ b.profile
unfolding command_reset_of fresh_of
command_profile rail limits s b sent =
    ⊎_elim
    (λ (e : lasting (commanded_of rail limits sent s b).board ≡ lasting b). ap (λ (x : Form × Profile). x.1) e)
    (λ (e : (commanded_of rail limits sent s b).board ≡ command_reset_of b). ap (λ (x : Board). x.profile) e)
    (formed_in rail limits s b sent)

-- a board in the form of the one before it, or started over in its profile's
abbrev pub InForm : Board → Board → Type 0
InForm b after = (after.form ≡ b.form) ⊎ ((after.phase ≡ entered Startup) × (after.form ≡ b.profile.form))

command_form : (rail : ℤ) (limits : Limits) (s : List ℕ) (b : Board) (sent : Bool) → InForm b (commanded_of rail limits sent s b).board
unfolding command_reset_of fresh_of
command_form rail limits s b sent =
    ⊎_elim
    (λ (e : lasting (commanded_of rail limits sent s b).board ≡ lasting b). inl (ap (λ (x : Form × Profile). x.0) e))
    (λ (e : (commanded_of rail limits sent s b).board ≡ command_reset_of b). inr (ap (λ (x : Board). x.phase) e, ap (λ (x : Board). x.form) e))
    (formed_in rail limits s b sent)

module _ (rail : ℤ) (named : ℕ) (words : List ℕ) (sent : Bool) (s : List ℕ) (b : Board) (allowed : allowed_count (word_count b) (length words) ≡ true) where
  -- the board as the command finds it
  abbrev pub found : Board
  found = tripped_of named (changed_of rail (limits_of b.memory) (risen_of words b))

  abbrev obeyed : Commanded
  obeyed = commanded_of rail (limits_of b.memory) sent s found

  abbrev happening : Event
  happening = dog.watched_of obeyed.board.timer (dog.seconds_in_ticks (timeout_of obeyed.board.memory))

  -- the reply of a tick that says it has one is what the command made, whatever reply r waited before it
  pub own_reply : (r : Reply) → (tick_of rail named words sent s b).replied ≡ true
      → (tick_of rail named words sent s b).board.reply ≡ (commanded_of rail (limits_of b.memory) sent s (with_reply r found)).board.reply
  unfolding tick_of tick_with watched_in
  own_reply r e = rw allowed (watching happening obeyed (rw allowed at e) (made_in r rail (limits_of b.memory) s found sent))
    where
      watching : (w : Event) (c : Commanded) {kept : Reply} → (watched_as w c).replied ≡ true → (c.replied ≡ true → c.board.reply ≡ kept) → (watched_as w c).board.reply ≡ kept
      watching NoEvent c e m = m e
      watching PeripheralReset c e m = m e
      watching WatchdogReset c e m = absurd (false≢true e)

  -- the profile stays
  pub profile_after : (tick_of rail named words sent s b).board.profile ≡ b.profile
  unfolding tick_of tick_with watched_in risen_of changed_of tripped_of watchdog_reset_of fresh_of
  profile_after = rw allowed (watching happening obeyed (command_profile rail (limits_of b.memory) s found sent))
    where
      watching : (w : Event) (c : Commanded) → c.board.profile ≡ b.profile → (watched_as w c).board.profile ≡ b.profile
      watching NoEvent c p = p
      watching PeripheralReset c p = p
      watching WatchdogReset c p = p

  -- the form stays, or the board starts over in the profile's
  pub form_after : InForm b (tick_of rail named words sent s b).board
  unfolding tick_of tick_with watched_in risen_of changed_of tripped_of watchdog_reset_of fresh_of
  form_after = rw allowed (watching happening obeyed (command_form rail (limits_of b.memory) s found sent) (command_profile rail (limits_of b.memory) s found sent))
    where
      watching : (w : Event) (c : Commanded) → InForm b c.board → c.board.profile ≡ b.profile → InForm b (watched_as w c).board
      watching NoEvent c f p = f
      watching PeripheralReset c f p = f
      watching WatchdogReset c f p = inr (refl, ap (λ (x : Profile). x.form) p)
