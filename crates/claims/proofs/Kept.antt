-- Document 01's machine keeps each claim that a wrong program breaks, at every tick. Assumes nothing.
use Prim.Native.Nat.{ℕ, suc, ◌%◌}
use mathlib.Core.Path.{◌≡◌, refl, sym, ap, subst, ◌∙◌}
use mathlib.Core.Bool.{Bool, true, false, cond, not, ◌&&◌, ◌||◌, false≢true}
use mathlib.Core.List.{List, [], ◌∷◌, ◌++◌, map}
use mathlib.Core.Option.{Option, some}
use native.Mathlib.Omega.{arith}
use Rattle.std.specs.Prelude as prelude
use Rattle.std.specs.Prelude.{is_err, Some, None}
use lib.Dec.{eqb, ltb}
use lib.IntN.{ℤ}
use lib.ListN.{length, get_or}
use Rattle.std.specs.Prelude.{Ok, Err}
use Rattle.laws.proofs.Cases.{cases}
use Rattle.kinds.specs.Kinds.{board_of, is_in}
use Rattle.wire.specs.Numbers.{bytes_of}
use Rattle.wire.specs.Replies.{shown, reply_of, room, laid_out, reply_code}
use Rattle.wire.proofs.Room.{shown_reply_of}
use Rattle.modes.specs.declared.ModeAge.{ModeAge}
use Rattle.modes.specs.Table.{◌at_least◌, entered}
use Rattle.modes.specs.Commands.{to_safety, to_nominal_from, to_nominal}
use Rattle.modes.specs.declared.Mode.{Mode}
use Rattle.modes.specs.declared.Mode.TheVariants.{Startup, Nominal, Safety, Emergency}
use Rattle.modes.specs.declared.Limits.{Limits}
use Rattle.channels.specs.declared.Channels.{Channels}
use Rattle.channels.specs.Chan.{chan}
use Rattle.command.specs.Table as commands
use Rattle.command.specs.Decode.{Decoded, fewer_than_four, code_of, header_of, header_is, carried, listed, decode_of}
use Rattle.command.specs.declared.Command.{Command}
use Rattle.command.specs.declared.Layout.{Layout}
use Rattle.command.specs.declared.Refusal.{Refusal}
use Rattle.watchdog.specs.declared.Event.{Event}
use Rattle.watchdog.specs.declared.Event.TheVariants.{NoEvent, PeripheralReset, WatchdogReset}
use Rattle.memory.specs.Limits.{limits_of}
use Rattle.memory.specs.Memory.{saved_of}
use Rattle.replies.specs.Layouts.{short_reply, faults_reply, housekeeping_reply, parameter_reply, abf_reply, battery_reply}
use Rattle.state.specs.Parts.{mode_of, word_count}
use Rattle.state.specs.declared.parts.Board.{Board}
use Rattle.answers.specs.Answers.{told_number, accepted_with, accepted_of, refused_of, not_this_board_of}
use Rattle.answers.specs.declared.Answer.{Answer}
use Rattle.answers.specs.declared.Commanded.{Commanded}
use Rattle.effects.specs.Effects.{is_nominal, switched_of, group_on_of, group_off_of, group_state_of, channel_on_of, channel_off_of, cancelled_of, switched_mode_of, faults_of, housekeeping_of, engineering_housekeeping_of, abf_of, battery_housekeeping_of, engineering_battery_housekeeping_of, parameter_answered, remembered_of, saved_in, restarted_of, reported_of, run_of}
use Rattle.asking.specs.Checks.{is_startup}
use Rattle.commands.specs.Step.{read_by, commanded_of}
use Rattle.commands.proofs.Stepwise.{turned_down, decoded_of, stepped_of}
use Rattle.commands.proofs.Told.{stepwise}
use Rattle.board.specs.Tick.{watched_as, allowed_count, tick_of}
use Rattle.framing.specs.declared.Due.{Due}
use Rattle.unit.specs.Machine.{begun_of, told_by, told_of}
use Rattle.unit.specs.declared.Machine.{Machine}
use Rattle.unit.specs.declared.Told.{Told}
use Rattle.unit.specs.Runs.{Sample, told, after_step3, Call, tick, after_call, after}
use Rattle.refusals.specs.Conditions.{obeyed, met_in, tick_answer}
use Rattle.refusals.proofs.Answered.{happening, watched, given, told_is, answer_is, happens, sends, told_so}
use Rattle.refusals.proofs.RefusedTicks.{refused_tick}
use Rattle.groups.specs.Resets.{is_accepted, tells_watchdog_reset, tells_command_reset, tells_reset}
use Rattle.groups.proofs.Groups.{groups}
use Rattle.groups.proofs.Counts.{counts}
use Rattle.changes.specs.ModeChange.{mode_commands}
use Rattle.changes.proofs.ModeChange.{mode_change}
use Rattle.claims.specs.Wrong.{document01, state_after, last_told, OfATick, shown_after, AtEachTick, TellsWhatIsGiven, RepliesWithItsCode, MovesByTheTable, ComesIntoNominal, SwitchesTheNamed, CountsStep3}

-- ---- a sentence that holds of every tick of the machine
same_machine : (m : Machine) (before : List Sample) → state_after document01 m before ≡ shown_after document01 m m before
unfolding state_after shown_after
same_machine m [] = refl
same_machine m (i ∷ is) = same_machine (told m i).machine is

at_each : (sentence : OfATick) → ((m : Machine) (i : Sample) → sentence m i (told m i)) → AtEachTick sentence document01
at_each sentence h m before last = rw (same_machine m before) (h (shown_after document01 m m before) last)

-- ---- 1. the number that is given
pub tells_given : AtEachTick TellsWhatIsGiven document01
tells_given = at_each TellsWhatIsGiven (λ m i n h s g. told_so m i n h s g)

-- ---- 2. the code of a reply
byte_2 : (a b c : ℕ) (rest : List ℕ) → get_or (shown (reply_of (a ∷ b ∷ c ∷ rest))) 2 0 ≡ c
unfolding room
byte_2 a b c rest = ap (λ (l : List ℕ). get_or l 2 0) (shown_reply_of (a ∷ b ∷ c ∷ rest))

module _ (code : ℕ) where
  -- a step makes no reply, or one with the code
  data Coded : Commanded → Type 0 where
    silent : {c : Commanded} → c.replied ≡ false → Coded c
    coded : {c : Commanded} → get_or (shown c.board.reply) 2 0 ≡ reply_code code % 256 → Coded c

  either : (x : Bool) {p q : Commanded} → Coded p → Coded q → Coded (cond x p q)
  either true p q = p
  either false p q = q

  refused : (a : Answer) (b : Board) → Coded (refused_of a code b)
  unfolding refused_of short_reply laid_out bytes_of
  refused a b = coded (byte_2 _ _ _ _)

  accepted : (b : Board) → Coded (accepted_of code b)
  unfolding accepted_of accepted_with short_reply laid_out bytes_of
  accepted b = coded (byte_2 _ _ _ _)

  elsewhere : (b : Board) → Coded (not_this_board_of code b)
  unfolding not_this_board_of short_reply laid_out bytes_of
  elsewhere b = coded (byte_2 _ _ _ _)

  switched : (right : Bool) (channels : Channels) (b : Board) → Coded (switched_of code right channels b)
  unfolding switched_of
  switched right channels b = either (not (is_nominal (mode_of b))) (refused _ b) (either (not right) (refused _ b) (accepted _))

  switched_mode : (x : prelude.Option ModeAge) (b : Board) → Coded (switched_mode_of code x b)
  unfolding switched_mode_of
  switched_mode (Some phase) b = accepted _
  switched_mode None b = refused _ b

  reported : (layout : Layout) (b : Board) → Coded (reported_of code layout b)
  unfolding reported_of faults_of housekeeping_of engineering_housekeeping_of abf_of battery_housekeeping_of engineering_battery_housekeeping_of parameter_answered accepted_with faults_reply housekeeping_reply parameter_reply abf_reply battery_reply laid_out bytes_of
  reported Layout.Short b = accepted _
  reported Layout.Faults b = coded (byte_2 _ _ _ _)
  reported Layout.Housekeeping b = coded (byte_2 _ _ _ _)
  reported (Layout.Parameter id) b = coded (byte_2 _ _ _ _)
  reported Layout.EngineeringHousekeeping b = coded (byte_2 _ _ _ _)
  reported Layout.AbfPlacedState b = coded (byte_2 _ _ _ _)
  reported Layout.BatteryHousekeeping b = coded (byte_2 _ _ _ _)
  reported Layout.EngineeringBatteryHousekeeping b = coded (byte_2 _ _ _ _)

  run : (rail : ℤ) (limits : Limits) (c : Command) (b : Board) → Coded (run_of rail limits code c b)
  unfolding run_of reported_of group_on_of group_off_of group_state_of channel_on_of channel_off_of cancelled_of faults_of housekeeping_of engineering_housekeeping_of abf_of battery_housekeeping_of engineering_battery_housekeeping_of parameter_answered remembered_of saved_in restarted_of accepted_with faults_reply housekeeping_reply parameter_reply abf_reply battery_reply laid_out bytes_of
  run rail limits (Command.GroupOn g) b = switched _ _ b
  run rail limits (Command.GroupOff g) b = switched _ _ b
  run rail limits (Command.GroupState g) b = switched _ _ b
  run rail limits (Command.ChannelOn one) b = switched _ _ b
  run rail limits (Command.ChannelOff one) b = switched _ _ b
  run rail limits Command.CancelOperation b = accepted _
  run rail limits Command.SwitchToSafety b = switched_mode (to_safety b.phase) b
  run rail limits Command.SwitchToNominal b = switched_mode (to_nominal b.phase rail limits) b
  run rail limits (Command.SetParameter id v) b = coded (byte_2 _ _ _ _)
  run rail limits (Command.ResetParameter id) b = coded (byte_2 _ _ _ _)
  run rail limits Command.ResetConfiguration b = accepted _
  run rail limits Command.LoadConfiguration b = accepted _
  run rail limits (Command.SaveConfiguration given) b = either (is_err (saved_of given b.memory)) (refused _ b) (accepted _)
  run rail limits (Command.Report layout) b = reported layout b
  run rail limits Command.SystemReset b = silent refl

  turned_down_lem : (r : Refusal) (b : Board) → Coded (turned_down code r b)
  unfolding turned_down
  turned_down_lem Refusal.FewerThanFourBytes b = silent refl
  turned_down_lem Refusal.InStartup b = silent refl
  turned_down_lem Refusal.NotThisBoard b = elsewhere b
  turned_down_lem Refusal.CodeNotListed b = refused _ b
  turned_down_lem Refusal.TooShort b = refused _ b
  turned_down_lem Refusal.WrongKey b = refused _ b
  turned_down_lem Refusal.WrongParameter b = refused _ b
  turned_down_lem Refusal.NotANumber b = refused _ b

  decoded : (rail : ℤ) (limits : Limits) (d : Decoded) (b : Board) → Coded (decoded_of rail limits code d b)
  unfolding decoded_of
  decoded rail limits (Ok c) b = run rail limits c b
  decoded rail limits (Err r) b = turned_down_lem r b

stepped : (rail : ℤ) (limits : Limits) (sent : Bool) (s : List ℕ) (b : Board) → Coded (code_of s) (commanded_of rail limits sent s b)
unfolding commanded_of stepped_of
stepped rail limits sent s b = rw (stepwise rail limits s b) (either (code_of s) (not sent) (silent refl) (decoded (code_of s) rail limits (read_by b s) b))

-- the watchdog leaves the reply, or takes it and says so
watched_code : (code : ℕ) (due : Due) (c : Commanded) → Coded code c → (watched due c).replied ≡ true → get_or (shown (watched due c).machine.board.reply) 2 0 ≡ reply_code code % 256
watched_code code due c k = go (happening c) k
  where
    by : Coded code c → c.replied ≡ true → get_or (shown c.board.reply) 2 0 ≡ reply_code code % 256
    by (silent n) e = absurd (false≢true (sym n ∙ e))
    by (coded n) e = n

    go : (x : Event) → Coded code c → (told_by (watched_as x c) due).replied ≡ true → get_or (shown (told_by (watched_as x c) due).machine.board.reply) 2 0 ≡ reply_code code % 256
    go NoEvent k e = by k e
    go PeripheralReset k e = by k e
    go WatchdogReset k e = absurd (false≢true e)

pub own_code : (m : Machine) (i : Sample) → RepliesWithItsCode m i (told m i)
unfolding told_of tick_of reply_code
own_code m i =
    cases (allowed_count (word_count m.board) (length i.words))
    (λ h. subst (RepliesWithItsCode m i) (sym (told_is m i h))
    (λ small e. watched_code (code_of i.transfer) m.due (given m i) (stepped i.rail (limits_of m.board.memory) i.sent i.transfer (after_step3 m i)) e ∙ omega arith))
    (λ h small e. absurd (false≢true (rw h at e)))

pub replies_with_its_code : AtEachTick RepliesWithItsCode document01
replies_with_its_code = at_each RepliesWithItsCode own_code

-- ---- after an accepted command the watchdog is quiet, and the board is the command step's
quiet_board : (due : Due) (c : Commanded) → (watched due c).event ≡ NoEvent → (watched due c).machine.board ≡ c.board
quiet_board due c e = go (happening c) e
  where
    go : (x : Event) → (told_by (watched_as x c) due).event ≡ NoEvent → (told_by (watched_as x c) due).machine.board ≡ c.board
    go NoEvent e = refl
    go PeripheralReset e = refl
    go WatchdogReset e = let z : ◌≡◌ {A = ℕ} 0 1 = cc in absurd (omega arith)

module _ (m : Machine) (i : Sample) (accepted-0 : tick_answer m i ≡ some 0) where
  abbrev sent_step : Commanded
  sent_step = obeyed (met_in m i)

  sent_answer : told_number sent_step.outcome ≡ some 0
  sent_answer =
      let h = happens m i 0 (omega arith) accepted-0 in
      sym (answer_is m i h (sends m i 0 h accepted-0)) ∙ accepted-0

  sent_board : (told m i).machine.board ≡ sent_step.board
  sent_board =
      let h = happens m i 0 (omega arith) accepted-0 in
      let quiet = sym (ap (λ (t : Told). t.event) (told_is m i h)) ∙ refused_tick.accepted_no_event m i accepted-0 in
      ap (λ (t : Told). t.machine.board) (told_is m i h) ∙ quiet_board m.due (given m i) quiet
      ∙ ap (λ (b : Bool). (commanded_of i.rail (limits_of m.board.memory) b i.transfer (after_step3 m i)).board) (sends m i 0 h accepted-0)

-- ---- 3. the table
-- what accepts neither of two accepts not the one and not the other
accepts_neither : (a x y : Bool) → (a && (x || y)) ≡ false → ((a && x) ≡ false) × ((a && y) ≡ false)
accepts_neither false x y e = (refl, refl)
accepts_neither true true y e = absurd (false≢true (sym e))
accepts_neither true false y e = (refl, e)

-- so a tick that tells of none of the three leaves mode and age to the table
pub moves_by_the_table : AtEachTick MovesByTheTable document01
unfolding tells_reset tells_watchdog_reset tells_command_reset is_in
moves_by_the_table =
    at_each MovesByTheTable
    (λ m i h w n.
    let a = accepts_neither (is_accepted (tick_answer m i)) (eqb (code_of i.transfer) 0xAA) (is_in (code_of i.transfer) mode_commands) n in
    (mode_change m i).by_table (record { happening = h; no_reset = rw (w, a.0); no_command = a.1 }))

-- ---- and 0x30
module _ (rail : ℤ) (limits : Limits) (s : List ℕ) (b : Board) where
  abbrev Nominal_if_0 : Commanded → Type 0
  Nominal_if_0 c = told_number c.outcome ≡ some 0 → mode_of c.board ≡ Nominal

  not_0 : (n : ℕ) → ◌≡◌ {A = Option ℕ} (some (suc n)) (some 0) → ⊥
  not_0 n e = let z : suc n ≡ 0 = cc in omega arith

  moved : (from : Mode) → mode_of b ≡ from → Nominal_if_0 (switched_mode_of 0x30 (to_nominal_from from b.phase rail limits) b)
  unfolding switched_mode_of accepted_of accepted_with refused_of
  moved Nominal h e = h
  moved Safety h e = low (rail at_least limits.safety_low) e
    where
      low : (x : Bool) → Nominal_if_0 (switched_mode_of 0x30 (cond x (Some (entered Nominal)) None) b)
      low true e = refl
      low false e = absurd (not_0 5 e)
  moved Emergency h e = absurd (not_0 5 e)
  moved Startup h e = absurd (not_0 5 e)

  nominal_step : code_of s ≡ 0x30 → Nominal_if_0 (commanded_of rail limits true s b)
  unfolding commanded_of stepped_of decoded_of decode_of is_in commands.command_table commands.find listed carried run_of reported_of to_nominal turned_down refused_of not_this_board_of
  nominal_step e =
      rw (stepwise rail limits s b, e)
      (cases (fewer_than_four s)
      (λ f. rw f (λ z. absurd (not_0 0 z)))
      (λ f. rw f (cases (is_startup (mode_of b))
      (λ g. rw g (λ z. absurd (not_0 1 z)))
      (λ g. rw g (cases (header_is (header_of b.profile.kind b.profile.bid) s)
      (λ h. rw h (cases (is_in 0x30 (board_of b.profile.kind).codes)
      (λ j. rw j (cases (ltb (length s) 4) (λ k. rw k (λ z. absurd (not_0 4 z))) (λ k. rw k (moved (mode_of b) refl))))
      (λ j. rw j (λ z. absurd (not_0 3 z)))))
      (λ h. rw h (λ z. absurd (not_0 2 z))))))))

pub comes_into_nominal : AtEachTick ComesIntoNominal document01
comes_into_nominal =
    at_each ComesIntoNominal
    (λ m i e q. ap mode_of (sent_board m i q) ∙ nominal_step i.rail (limits_of m.board.memory) i.transfer (after_step3 m i) e (sent_answer m i q))

-- ---- 4. the channels
pub switches_the_named : AtEachTick SwitchesTheNamed document01
switches_the_named =
    at_each SwitchesTheNamed
    (λ m i q c h. ap (λ (b : Board). chan b.channels c) (sent_board m i q) ∙ (groups i.rail (limits_of m.board.memory) i.transfer (after_step3 m i)).accepted (sent_answer m i q) c h)

-- ---- 6. the counts
ran : (b : Machine) (past : List Call) (before : List Sample) (last : Sample)
    → (last_told document01 (after b past) before last).machine ≡ after b (past ++ (map tick before ++ (tick last ∷ [])))
unfolding after state_after
ran b [] [] last = refl
ran b [] (i ∷ is) last = ran (told b i).machine [] is last
ran b (call ∷ past) before last = ran (after_call b call) past before last

pub counts_step_3 : CountsStep3 document01
counts_step_3 there p store accepted past before last c h =
    ap (λ (m : Machine). get_or m.board.channels.counts c 0) (ran (begun_of there p store).machine past before last)
    ∙ (counts there p store).counted accepted (past ++ (map tick before ++ (tick last ∷ []))) c h
