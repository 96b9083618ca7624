-- Why a tick tells of a reset exactly where the board starts over: step 1 makes every age at least 1, no row of the
-- table and no command but 0xAA leads into startup, and both kinds of reset do so at age 0. Assumes nothing.
use Prim.Native.Nat.{ℕ, ◌+◌, ◌<◌, min}
use mathlib.Core.Path.{◌≡◌, refl, sym, ap, ◌∙◌, subst}
use mathlib.Core.Bool.{Bool, true, false, cond, ◌&&◌, ◌||◌, and-false, false≢true}
use mathlib.Core.Logic.{⊎_elim}
use mathlib.Core.List.{List, [], ◌∷◌}
use native.Mathlib.Omega.{arith}
use lib.Dec.{eqb}
use lib.IntN.{ℤ}
use borrow.Author.Tests.{ne_eqb}
use Rattle.laws.proofs.Cases.{cases}
use Rattle.modes.specs.Table.{◌at_least◌, same, entered, Row, from◌when◌to◌, mode_table, first, step_of, older_of}
use Rattle.modes.specs.declared.Mode.{Mode}
use Rattle.modes.specs.declared.Mode.TheVariants.{Startup, Nominal, Safety, Emergency}
use Rattle.modes.specs.declared.ModeAge.{ModeAge}
use Rattle.modes.specs.declared.Limits.{Limits}
use Rattle.wire.specs.Replies.{shown, written, reply_of, room}
use Rattle.channels.proofs.Laws.{cleared_each}
use Rattle.command.specs.Decode.{code_of}
use Rattle.watchdog.specs.Watchdog as dog
use Rattle.watchdog.proofs.Laws.{quiet_at_0}
use Rattle.watchdog.specs.declared.Event.{Event}
use Rattle.watchdog.specs.declared.Event.TheVariants.{NoEvent, PeripheralReset, WatchdogReset}
use Rattle.memory.specs.Limits.{timeout_of, limits_of}
use Rattle.memory.specs.Memory.{one_more}
use Rattle.state.specs.Parts.{word_count}
use Rattle.state.specs.Start.{fresh_of, by_watchdog, by_command, watchdog_reset_of, command_reset_of}
use Rattle.state.specs.declared.parts.Cause.{Cause}
use Rattle.state.specs.declared.parts.Profile.{Profile}
use Rattle.state.specs.declared.parts.Resets.{Resets}
use Rattle.state.specs.declared.parts.Board.{Board}
use Rattle.answers.specs.Answers.{told_number}
use Rattle.answers.specs.declared.Commanded.{Commanded}
use Rattle.commands.specs.Step.{commanded_of}
use Rattle.board.specs.Tick.{risen_of, changed_of, tripped_of, watched_as, watched_in, tick_with, tick_of}
use Rattle.unit.specs.Machine.{told_of}
use Rattle.unit.specs.declared.Machine.{Machine}
use Rattle.unit.proofs.Laws.{refused_tick_leaves, tick_profile, tick_form}
use Rattle.unit.specs.Runs.{Sample, told, happens, after_step3, after_step4}
use Rattle.groups.specs.Resets.{is_by_watchdog, is_accepted, tells_watchdog_reset, tells_command_reset, tells_reset, starts_over, StartedOver, ResetIsTold}
use Rattle.groups.proofs.Done.{refusing, accepting}
use Rattle.groups.proofs.Groups.{Leaves, leaves}
use Rattle.groups.proofs.Altered.{failed}
use Rattle.groups.proofs.Counts.{not_accepted, watched_tells}

-- startup at age 0
abbrev is_over : ModeAge → Bool
is_over p = same p.mode Startup && eqb p.age 0

-- ---- steps 1 to 3
by_row : (t : Bool) (n : Mode) (rest : ModeAge) → same n Startup ≡ false → is_over rest ≡ false → is_over (cond t (entered n) rest) ≡ false
by_row true n rest e p = rw e
by_row false n rest e p = p

-- startup is left for nominal or safety
nominal_or_safety : (t : Bool) → same (cond t Nominal Safety) Startup ≡ false
nominal_or_safety true = refl
nominal_or_safety false = refl

-- an age above 0 is no new start
old_goes_on : (s : ModeAge) → 0 < s.age → is_over s ≡ false
old_goes_on s h = rw (ne_eqb s.age 0 (omega arith)) (and-false (same s.mode Startup))

-- no row of the table leads into startup
abbrev Elsewhere : List Row → Type 0
Elsewhere [] = Unit {0}
Elsewhere ((from m when b to n) ∷ rows) = (same n Startup ≡ false) × Elsewhere rows

-- so no row starts the board over
by_rows : (rows : List Row) (s : ModeAge) → Elsewhere rows → is_over s ≡ false → is_over (first rows s) ≡ false
by_rows [] s t o = o
by_rows ((from m when b to n) ∷ rows) s t o = by_row (same m s.mode && b) n (first rows s) t.0 (by_rows rows s t.1 o)

-- nor does the table
step_goes_on : (s : ModeAge) (rail : ℤ) (limits : Limits) → 0 < s.age → is_over (step_of s rail limits) ≡ false
unfolding step_of
step_goes_on s rail limits h =
    by_rows (mode_table s.age rail limits) s
    (nominal_or_safety (rail at_least limits.safety_low), (refl, (refl, (refl, (refl, tt)))))
    (old_goes_on s h)

-- step 1 makes an age at least 1
older : (s : ModeAge) → 0 < (older_of s).age
unfolding older_of
older s = omega arith

-- so no board starts over before its command
settled_goes_on : (m : Machine) (i : Sample) → is_over (after_step3 m i).phase ≡ false
unfolding tripped_of changed_of risen_of
settled_goes_on m i = step_goes_on (older_of m.board.phase) i.rail (limits_of m.board.memory) (older m.board.phase)

-- ---- step 4
is_startup : (m : Mode) → same m Startup ≡ true → m ≡ Startup
is_startup Startup e = refl
is_startup Nominal e = absurd (false≢true e)
is_startup Safety e = absurd (false≢true e)
is_startup Emergency e = absurd (false≢true e)

-- a phase that is another only where it is not startup
goes_on : (p q : ModeAge) → (q.mode ≡ Startup → q ≡ p) → is_over p ≡ false → is_over q ≡ false
goes_on p q e o = cases (same q.mode Startup) (λ s. ap is_over (e (is_startup q.mode s)) ∙ o) (λ s. rw s)

-- by a command a board starts over where that is an accepted 0xAA, and nowhere else
left_over : (rail : ℤ) (limits : Limits) (s : List ℕ) (b : Board) → is_over b.phase ≡ false → (x : Commanded) → Leaves rail limits s b (code_of s) x
    → is_over x.board.phase ≡ (is_accepted (told_number x.outcome) && eqb (code_of s) 0xAA)
unfolding command_reset_of fresh_of
left_over rail limits s b o x (refusing n t kept) = rw (t, not_accepted n, kept.phase) o
left_over rail limits s b o x (accepting t made) =
    cases (eqb (code_of s) 0xAA)
    (λ e. rw (t, e) (ap (λ (y : Board). is_over y.phase) (made.reset e)))
    (λ e. rw (t, e) (goes_on b.phase x.board.phase (made.no_reset e) o))

-- the same for a tick's command, if it has one
obeyed_over : (rail : ℤ) (limits : Limits) (sent : Bool) (s : List ℕ) (b : Board) → is_over b.phase ≡ false
    → is_over (commanded_of rail limits sent s b).board.phase ≡ (is_accepted (told_number (commanded_of rail limits sent s b).outcome) && eqb (code_of s) 0xAA)
unfolding commanded_of
obeyed_over rail limits false s b o = o
obeyed_over rail limits true s b o = left_over rail limits s b o _ (leaves rail limits s b)

-- ---- step 5
watched_over : (x : Commanded) → (is_by_watchdog (watched_in x).event || is_over x.board.phase) ≡ is_over (watched_in x).board.phase
unfolding watched_in watchdog_reset_of fresh_of
watched_over x = go (dog.watched_of x.board.timer (dog.seconds_in_ticks (timeout_of x.board.memory)))
  where
    go : (e : Event) → (is_by_watchdog (watched_as e x).event || is_over x.board.phase) ≡ is_over (watched_as e x).board.phase
    go NoEvent = refl
    go PeripheralReset = refl
    go WatchdogReset = refl

-- ---- the claim
happened : (m : Machine) (i : Sample) (x : Commanded) → x ≡ commanded_of i.rail (limits_of m.board.memory) i.sent i.transfer (after_step3 m i)
    → (is_by_watchdog (watched_in x).event || (is_accepted (told_number (watched_in x).outcome) && eqb (code_of i.transfer) 0xAA)) ≡ is_over (watched_in x).board.phase
happened m i x e =
    let o : is_over x.board.phase ≡ (is_accepted (told_number x.outcome) && eqb (code_of i.transfer) 0xAA) =
    rw e (obeyed_over i.rail (limits_of m.board.memory) i.sent i.transfer _ (settled_goes_on m i)) in
    rw (watched_tells x) (ap (λ (y : Bool). is_by_watchdog (watched_in x).event || y) (sym o) ∙ watched_over x)

-- the board of a tick that happens and whose event is a reset
watchdog_resets : (x : Commanded) → is_by_watchdog (watched_in x).event ≡ true → (watched_in x).board ≡ watchdog_reset_of x.board
unfolding watched_in
watchdog_resets x = go (dog.watched_of x.board.timer (dog.seconds_in_ticks (timeout_of x.board.memory)))
  where
    go : (e : Event) → is_by_watchdog (watched_as e x).event ≡ true → (watched_as e x).board ≡ watchdog_reset_of x.board
    go NoEvent e = failed e
    go PeripheralReset e = failed e
    go WatchdogReset e = refl

-- a reset sets the timer to 0
reset_timer : (b : Board) → (command_reset_of b).timer ≡ 0
unfolding command_reset_of fresh_of
reset_timer b = refl

-- so a reset by command is what the tick leaves
command_resets : (x : Commanded) (b : Board) → x.board ≡ command_reset_of b → (watched_in x).board ≡ command_reset_of b
unfolding watched_in
command_resets x b e =
    let w = dog.seconds_in_ticks (timeout_of x.board.memory) in
    let t : x.board.timer ≡ 0 = ap (λ (y : Board). y.timer) e ∙ reset_timer b in
    ap (λ (n : ℕ). (watched_as (dog.watched_of n w) x).board) t ∙ ap (λ (v : Event). (watched_as v x).board) (quiet_at_0 w) ∙ e

-- an accepted 0xAA leaves the board of its reset
left_reset : (rail : ℤ) (limits : Limits) (s : List ℕ) (b : Board) (x : Commanded) → Leaves rail limits s b (code_of s) x
    → (is_accepted (told_number x.outcome) && eqb (code_of s) 0xAA) ≡ true → x.board ≡ command_reset_of b
left_reset rail limits s b x (refusing n t kept) e = failed (rw (t, not_accepted n) at e)
left_reset rail limits s b x (accepting t made) e = cases (eqb (code_of s) 0xAA) (λ k. made.reset k) (λ k. failed (rw (t, k) at e))

-- the same for a tick's command, if it has one
obeyed_reset : (rail : ℤ) (limits : Limits) (sent : Bool) (s : List ℕ) (b : Board)
    → (is_accepted (told_number (commanded_of rail limits sent s b).outcome) && eqb (code_of s) 0xAA) ≡ true → (commanded_of rail limits sent s b).board ≡ command_reset_of b
unfolding commanded_of
obeyed_reset rail limits false s b e = failed e
obeyed_reset rail limits true s b e = left_reset rail limits s b _ (leaves rail limits s b) e

-- and so does the tick
commanded_reset : (m : Machine) (i : Sample) (x : Commanded) → x ≡ commanded_of i.rail (limits_of m.board.memory) i.sent i.transfer (after_step3 m i)
    → (is_accepted (told_number (watched_in x).outcome) && eqb (code_of i.transfer) 0xAA) ≡ true → (watched_in x).board ≡ command_reset_of (after_step3 m i)
commanded_reset m i x q e =
    command_resets x (after_step3 m i)
    (rw q (obeyed_reset i.rail (limits_of m.board.memory) i.sent i.transfer (after_step3 m i) (rw (watched_tells x, q) at e)))

-- a board as a reset leaves it, part by part
parts : (b : Board) (r : Resets) → StartedOver b (fresh_of b.profile b.memory.store r)
unfolding fresh_of shown written reply_of room
parts b r =
    record {
      startup = refl;
      timer = refl;
      no_reply = refl;
      settings = refl;
      channels = λ c h. cleared_each c h;
      profile = refl;
      words = refl;
      form = refl;
    }

watchdog_parts : (b : Board) → StartedOver b (watchdog_reset_of b)
unfolding watchdog_reset_of
watchdog_parts b = parts b (by_watchdog b.resets)

watchdog_counts : (b : Board) → (watchdog_reset_of b).resets ≡ record { power = b.resets.power; watchdog = min (b.resets.watchdog + 1) 65535; command = b.resets.command; cause = Cause.Watchdog }
unfolding watchdog_reset_of fresh_of by_watchdog one_more
watchdog_counts b = refl

command_parts : (b : Board) → StartedOver b (command_reset_of b)
unfolding command_reset_of
command_parts b = parts b (by_command b.resets)

command_counts : (b : Board) → (command_reset_of b).resets ≡ record { power = b.resets.power; watchdog = b.resets.watchdog; command = min (b.resets.command + 1) 65535; cause = Cause.Commanded }
unfolding command_reset_of fresh_of by_command one_more
command_counts b = refl

module _ (m : Machine) (i : Sample) where
  exactly : happens (word_count m.board) i ≡ true → tells_reset m i ≡ starts_over (told m i).machine.board
  unfolding told_of tells_reset tells_watchdog_reset tells_command_reset tick_of tick_with
  exactly e = rw e (happened m i _ refl)

  watchdog_reset : tells_watchdog_reset m i ≡ true → (told m i).machine.board ≡ watchdog_reset_of (after_step4 m i)
  unfolding told_of tells_watchdog_reset tick_of tick_with
  watchdog_reset e = cases (happens (word_count m.board) i) (λ a. rw a (watchdog_resets _ (rw a at e))) (λ a. failed (rw a at e))

  command_reset : tells_command_reset m i ≡ true → (told m i).machine.board ≡ command_reset_of (after_step3 m i)
  unfolding told_of tells_command_reset tick_of tick_with
  command_reset e = cases (happens (word_count m.board) i) (λ a. rw a (commanded_reset m i _ refl (rw a at e))) (λ a. failed (rw a at e))

  not_happened : happens (word_count m.board) i ≡ false → tells_reset m i ≡ false
  unfolding told_of tells_reset tells_watchdog_reset tells_command_reset tick_of tick_with
  not_happened e = rw e

  -- the same, part by part
  over_by_watchdog : tells_watchdog_reset m i ≡ true → StartedOver (after_step4 m i) (told m i).machine.board
  over_by_watchdog e = subst (StartedOver (after_step4 m i)) (sym (watchdog_reset e)) (watchdog_parts (after_step4 m i))

  over_by_command : tells_command_reset m i ≡ true → StartedOver (after_step3 m i) (told m i).machine.board
  over_by_command e = subst (StartedOver (after_step3 m i)) (sym (command_reset e)) (command_parts (after_step3 m i))

  -- a board that started over is in its own profile's form
  in_its_form : {before after : Board} → StartedOver before after → after.form ≡ after.profile.form
  in_its_form parts = parts.form ∙ sym (ap (λ (p : Profile). p.form) parts.profile)

  reset_form : tells_reset m i ≡ true → (told m i).machine.board.form ≡ (told m i).machine.board.profile.form
  unfolding tells_reset
  reset_form e =
      cases (tells_watchdog_reset m i)
      (λ w. in_its_form (over_by_watchdog w))
      (λ w. in_its_form (over_by_command (rw w at e)))

  unaltered : happens (word_count m.board) i ≡ false → (told m i).machine ≡ m
  unaltered = refused_tick_leaves i.rail i.named i.words i.sent i.transfer m

  profile : (told m i).machine.board.profile ≡ m.board.profile
  profile =
      cases (happens (word_count m.board) i) (tick_profile i.rail i.named i.words i.sent i.transfer m)
      (λ a. ap (λ (x : Machine). x.board.profile) (unaltered a))

  happened_form : happens (word_count m.board) i ≡ true → (told m i).machine.board.form ≡ cond (tells_reset m i) m.board.profile.form m.board.form
  happened_form a =
      cases (tells_reset m i)
      (λ t. rw t (reset_form t ∙ ap (λ (p : Profile). p.form) profile))
      (λ t. rw t (⊎_elim (λ e. e) (λ over. failed (sym t ∙ exactly a ∙ ap is_over over.0)) (tick_form i.rail i.named i.words i.sent i.transfer m a)))

  form : (told m i).machine.board.form ≡ cond (tells_reset m i) m.board.profile.form m.board.form
  form =
      cases (happens (word_count m.board) i) happened_form
      (λ a. rw (not_happened a) (ap (λ (x : Machine). x.board.form) (unaltered a)))

-- any tick: one that does not happen tells of no reset
pub reset_is_told : (m : Machine) (i : Sample) → ResetIsTold m i
reset_is_told m i =
    let w = watchdog_reset m i in
    let c = command_reset m i in
    record {
      exactly = exactly m i;
      by_watchdog = w;
      by_command = c;
      not_happened = not_happened m i;
      watchdog_parts = over_by_watchdog m i;
      watchdog_counts = λ e. ap (λ (b : Board). b.resets) (w e) ∙ watchdog_counts (after_step4 m i);
      command_parts = over_by_command m i;
      command_counts = λ e. ap (λ (b : Board). b.resets) (c e) ∙ command_counts (after_step3 m i);
      profile = profile m i;
      form = form m i;
    }
