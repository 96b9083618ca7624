-- Why the counts are what they are: step 3 raises one by 1, up to 65,535, and a reset clears them; nothing else of a
-- tick touches one. Assumes nothing.
use Prim.Native.Nat.{ℕ, suc, ◌+◌, ◌<◌, ◌≤◌, min}
use mathlib.Core.Path.{◌≡◌, refl, ap, ◌∙◌}
use mathlib.Core.Bool.{Bool, true, false, cond, ◌&&◌, ◌||◌, and-false}
use mathlib.Core.List.{List, [], ◌∷◌}
use mathlib.Core.Option.{some}
use native.Mathlib.Omega.{arith}
use lib.Dec.{eqb}
use lib.IntN.{ℤ}
use lib.ListN.{get_or}
use borrow.Author.Tests.{eqb-true}
use Rattle.memory.specs.Memory.{Store}
use Rattle.laws.proofs.Cases.{cases}
use Rattle.modes.specs.declared.Mode.{Mode}
use Rattle.modes.specs.declared.Limits.{Limits}
use Rattle.channels.specs.Sets.{has}
use Rattle.channels.specs.Chan.{Chan, chan}
use Rattle.channels.specs.Operations.{cleared, command_enabled_off_one}
use Rattle.channels.specs.declared.Channels.{Channels}
use Rattle.channels.proofs.Laws as channel
use Rattle.command.specs.Decode.{code_of}
use Rattle.watchdog.specs.Watchdog as dog
use Rattle.watchdog.specs.declared.Event.{Event}
use Rattle.watchdog.specs.declared.Event.TheVariants.{NoEvent, PeripheralReset, WatchdogReset}
use Rattle.memory.specs.Limits.{timeout_of, limits_of}
use Rattle.change.specs.Change.{is_dark, from_nominal_to_safety, entering_of}
use Rattle.state.specs.Parts.{word_count}
use Rattle.state.specs.Start.{fresh_of, watchdog_reset_of, command_reset_of, keeps_the_rules, start_of}
use Rattle.state.specs.declared.parts.Board.{Board}
use Rattle.state.specs.declared.parts.Profile.{Profile}
use Rattle.answers.specs.Answers.{told_number}
use Rattle.answers.specs.declared.Commanded.{Commanded}
use Rattle.commands.specs.Step.{commanded_of}
use Rattle.board.specs.Tick.{risen_of, changed_of, tripped_of, watched_as, watched_in, tick_with, tick_of}
use Rattle.std.specs.Prelude.{Ok, Err}
use Rattle.reading.specs.Lines.{LineAnswer, line_of}
use Rattle.reading.specs.declared.Line.TheVariants.{Command, Switch}
use Rattle.unit.specs.Machine.{begun_of, told_of, after_line, heard_of}
use Rattle.unit.specs.declared.Machine.{Machine}
use Rattle.unit.specs.Runs.{Sample, told, Call, tick, line, after, happens, after_step2}
use Rattle.groups.specs.Resets.{is_by_watchdog, is_accepted, tells_watchdog_reset, tells_command_reset, tells_reset}
use Rattle.groups.specs.Counts.{takes_off, has_reset, times_taken_off, Counts}
use Rattle.groups.proofs.Done.{refusing, accepting}
use Rattle.groups.proofs.Groups.{Leaves, leaves}
use Rattle.groups.proofs.Altered.{count_made}

-- the count of channel c
abbrev count_in : ℕ → Board → ℕ
count_in c b = get_or b.channels.counts c 0

-- ---- step 2 touches no count
either : (c n : ℕ) (t : Bool) (x y : Channels) → (chan x c).count ≡ n → (chan y c).count ≡ n → (chan (cond t x y) c).count ≡ n
either c n true x y p q = p
either c n false x y p q = q

-- a command-enabled channel that goes off keeps its count
off_count : (f g : Bool) (ch : Chan) → (command_enabled_off_one f g ch).count ≡ ch.count
off_count true true ch = refl
off_count true false ch = refl
off_count false g ch = refl

-- a change of mode, whichever it is, leaves each count
entering_counts : (before next : Mode) (p : Profile) (ch : Channels) (c : ℕ) → c < 32 → (chan (entering_of before next p ch) c).count ≡ (chan ch c).count
unfolding entering_of
entering_counts before next p ch c h =
    either c _ (is_dark next) _ _ (event channel.emergency_entered refl)
    (either c _ (is_dark before) _ _ (event channel.forced_come_on refl)
    (either c _ (from_nominal_to_safety before next) _ _ (event (channel.commanded channel.turn_command_enabled_off) (off_count (has p.fitted c) (has p.forced c) (chan ch c))) refl))
  where
    event : (e : channel.Event) → (channel.after_one p.fitted p.forced e c (chan ch c)).count ≡ (chan ch c).count → (chan (channel.after p.fitted p.forced e ch) c).count ≡ (chan ch c).count
    event e q = ap (λ (x : Chan). x.count) (channel.each p.fitted p.forced e ch c h) ∙ q

-- ---- steps 1 to 3
changed_counts : (m : Machine) (i : Sample) (c : ℕ) → c < 32 → count_in c (after_step2 m i) ≡ count_in c m.board
unfolding changed_of risen_of
changed_counts m i c h = entering_counts _ _ m.board.profile m.board.channels c h

-- step 3 counts a channel that is named and on
settled_counts : (m : Machine) (i : Sample) (c : ℕ) → c < 32
    → count_in c (tripped_of i.named (after_step2 m i)) ≡ cond (has i.named c && has (after_step2 m i).channels.on c) (min (count_in c m.board + 1) 65535) (count_in c m.board)
unfolding tripped_of
settled_counts m i c h =
    channel.overcurrent_counts 0 0 i.named (after_step2 m i).channels c h
    ∙ ap (λ (n : ℕ). cond (has i.named c && has (after_step2 m i).channels.on c) (min (n + 1) 65535) n) (changed_counts m i c h)

-- ---- step 4
reset_counts : (c : ℕ) → c < 32 → get_or cleared.counts c 0 ≡ 0
reset_counts c h = ap (λ (x : Chan). x.count) (channel.cleared_each c h)

-- a number above 0 is no acceptance
pub not_accepted : (n : ℕ) → is_accepted (some (suc n)) ≡ false
not_accepted n = cases (eqb (suc n) 0) (λ e. absurd (omega (arith, eqb-true (suc n) 0 e))) (λ e. e)

-- a command leaves each count but where it is an accepted 0xAA
left_counts : (rail : ℤ) (limits : Limits) (s : List ℕ) (b : Board) (c : ℕ) → c < 32 → (x : Commanded) → Leaves rail limits s b (code_of s) x
    → count_in c x.board ≡ cond (is_accepted (told_number x.outcome) && eqb (code_of s) 0xAA) 0 (count_in c b)
unfolding command_reset_of fresh_of
left_counts rail limits s b c h x (refusing n t kept) = rw (t, not_accepted n, kept.channels)
left_counts rail limits s b c h x (accepting t made) =
    cases (eqb (code_of s) 0xAA)
    (λ e. rw (t, e) (ap (λ (y : Board). count_in c y) (made.reset e) ∙ reset_counts c h))
    (λ e. rw (t, e) (ap (λ (y : Chan). y.count) (made.one_by_one c h) ∙ count_made rail limits s b e c (chan b.channels c)))

-- and so does a tick's command, if it has one
obeyed_counts : (rail : ℤ) (limits : Limits) (sent : Bool) (s : List ℕ) (b : Board) (c : ℕ) → c < 32
    → count_in c (commanded_of rail limits sent s b).board ≡ cond (is_accepted (told_number (commanded_of rail limits sent s b).outcome) && eqb (code_of s) 0xAA) 0 (count_in c b)
unfolding commanded_of
obeyed_counts rail limits false s b c h = refl
obeyed_counts rail limits true s b c h = left_counts rail limits s b c h _ (leaves rail limits s b)

-- ---- step 5
watched_counts : (x : Commanded) (c : ℕ) → c < 32 → count_in c (watched_in x).board ≡ cond (is_by_watchdog (watched_in x).event) 0 (count_in c x.board)
unfolding watched_in watchdog_reset_of fresh_of
watched_counts x c h = go (dog.watched_of x.board.timer (dog.seconds_in_ticks (timeout_of x.board.memory)))
  where
    go : (e : Event) → count_in c (watched_as e x).board ≡ cond (is_by_watchdog (watched_as e x).event) 0 (count_in c x.board)
    go NoEvent = refl
    go PeripheralReset = refl
    go WatchdogReset = reset_counts c h

-- step 5 leaves what the command was answered
pub watched_tells : (x : Commanded) → (watched_in x).outcome ≡ x.outcome
unfolding watched_in
watched_tells x = go (dog.watched_of x.board.timer (dog.seconds_in_ticks (timeout_of x.board.memory)))
  where
    go : (e : Event) → (watched_as e x).outcome ≡ x.outcome
    go NoEvent = refl
    go PeripheralReset = refl
    go WatchdogReset = refl

-- ---- a tick
-- 0 where it tells of a reset; else one more, up to the top, where step 3 took the channel off
abbrev count_next : Bool → Bool → ℕ → ℕ
count_next reset off n = cond reset 0 (cond off (min (n + 1) 65535) n)

-- a reset in step 5, or before it in step 4
either_reset : (x y : Bool) (n : ℕ) → cond x 0 (cond y 0 n) ≡ cond (x || y) 0 n
either_reset true y n = refl
either_reset false y n = refl

-- a tick that happens, step by step
happened_counts : (m : Machine) (i : Sample) (c : ℕ) → c < 32 → (x : Commanded)
    → x ≡ commanded_of i.rail (limits_of m.board.memory) i.sent i.transfer (tripped_of i.named (after_step2 m i))
    → count_in c (watched_in x).board
    ≡ count_next
    (is_by_watchdog (watched_in x).event || (is_accepted (told_number (watched_in x).outcome) && eqb (code_of i.transfer) 0xAA))
    (has i.named c && has (after_step2 m i).channels.on c)
    (count_in c m.board)
happened_counts m i c h x e =
    let w = is_by_watchdog (watched_in x).event in
    let a = is_accepted (told_number x.outcome) && eqb (code_of i.transfer) 0xAA in
    let obeyed : count_in c x.board ≡ cond a 0 (count_in c (tripped_of i.named (after_step2 m i))) = rw e (obeyed_counts i.rail (limits_of m.board.memory) i.sent i.transfer _ c h) in
    rw (watched_tells x)
    (watched_counts x c h ∙ ap (λ (n : ℕ). cond w 0 n) obeyed ∙ either_reset w a _ ∙ ap (λ (n : ℕ). cond (w || a) 0 n) (settled_counts m i c h))

-- any tick: one that does not happen leaves the count
ticked_counts : (m : Machine) (i : Sample) (c : ℕ) → c < 32 → count_in c (told m i).machine.board ≡ count_next (tells_reset m i) (takes_off c m i) (count_in c m.board)
unfolding told_of tells_reset tells_watchdog_reset tells_command_reset tick_of tick_with
ticked_counts m i c h = cases (happens (word_count m.board) i) (λ e. rw e (happened_counts m i c h _ refl)) (λ e. rw e)

-- ---- a read of the text line
heard_counts : (c : ℕ) (l : LineAnswer) (m : Machine) → count_in c (after_line l m).board ≡ count_in c m.board
heard_counts c (Ok (Switch form behind)) m = refl
heard_counts c (Ok (Command start end behind)) m = refl
heard_counts c (Err refusal) m = refl

-- a read leaves each count, as a switch touches the form alone
line_counts : (c : ℕ) (received : List ℕ) (room : ℕ) (m : Machine) → count_in c (heard_of received room m).machine.board ≡ count_in c m.board
unfolding heard_of
line_counts c received room m = heard_counts c (line_of m.board.form received room) m

-- ---- a run: where it has no reset, the count that it starts with and the ticks that took the channel off; else those
-- behind the last reset alone
at_most : (reset off : Bool) (n : ℕ) → n ≤ 65535 → count_next reset off n ≤ 65535
at_most true off n h = omega arith
at_most false true n h = omega arith
at_most false false n h = h

-- by the calls of the run, one after the other
run_counts : (c : ℕ) → c < 32 → (m : Machine) (calls : List Call) → count_in c m.board ≤ 65535
    → count_in c (after m calls).board ≡ min (cond (has_reset m calls) 0 (count_in c m.board) + times_taken_off c m calls) 65535
unfolding after has_reset times_taken_off
run_counts c h m [] b = omega arith
run_counts c h m (tick i ∷ calls) b =
    let e = ticked_counts m i c h in
    let next = (told m i).machine in
    let ih = rw e at (run_counts c h next calls (rw e (at_most (tells_reset m i) (takes_off c m i) (count_in c m.board) b))) in
    cases (tells_reset m i)
    (λ r. cases (has_reset next calls) (λ l. simp (r, and-false) (omega (arith, simp (r, l) at ih))) (λ l. simp (r, and-false) (omega (arith, simp (r, l) at ih))))
    (λ r.
    cases (has_reset next calls)
    (λ l. simp (r, l, and-false) (omega (arith, simp l at ih)))
    (λ l. cases (takes_off c m i) (λ o. simp (r, l, o) (omega (arith, simp (r, l, o) at ih))) (λ o. simp (r, l, o) (omega (arith, simp (r, l, o) at ih)))))
run_counts c h m (line received room ∷ calls) b =
    let e = line_counts c received room m in
    run_counts c h (heard_of received room m).machine calls (rw e b) ∙ rw e

-- ---- the claim: a start has no counts
started_counts : (there : Machine) (p : Profile) (store : Store) (c : ℕ) → c < 32 → keeps_the_rules p store ≡ true → count_in c (begun_of there p store).machine.board ≡ 0
unfolding begun_of start_of fresh_of
started_counts there p store c h e = rw e (reset_counts c h)

-- so the number is all that is left
pub counts : (there : Machine) (p : Profile) (store : Store) → Counts there p store
counts there p store =
    record {
      counted = λ accepted calls c h.
          let m = (begun_of there p store).machine in
          let z = started_counts there p store c h accepted in
          let r = run_counts c h m calls (omega arith) in
          cases (has_reset m calls) (λ l. omega (arith, rw l at r)) (λ l. omega (arith, rw l at r));
    }
