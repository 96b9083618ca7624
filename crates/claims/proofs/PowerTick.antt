-- A whole tick at one force-enabled channel: the channel stays as `Standing` says, whatever happens, and without a
-- reset and an overcurrent of that channel it is the small machine's. Assumes nothing.
use Prim.Native.Nat.{ℕ, ◌<◌}
use mathlib.Core.Path.{◌≡◌, refl, sym, ap, ◌∙◌, subst}
use mathlib.Core.Bool.{Bool, true, false, cond, not, ◌&&◌, ◌||◌, and-false, false≢true}
use mathlib.Core.List.{List}
use mathlib.Core.Logic.{⊎_elim}
use lib.IntN.{ℤ}
use lib.ListN.{length}
use Rattle.memory.specs.Memory.{Store}
use Rattle.laws.proofs.Cases.{cases}
use Rattle.modes.specs.Table.{◌aged◌, same, step_of, older_of}
use Rattle.modes.specs.Commands.{to_safety, to_nominal, leaves}
use Rattle.modes.specs.declared.Mode.{Mode}
use Rattle.modes.specs.declared.Mode.TheVariants.{Startup, Nominal, Safety, Emergency}
use Rattle.modes.specs.declared.ModeAge.{ModeAge}
use Rattle.modes.specs.declared.Limits.{Limits}
use Rattle.channels.specs.Sets.{has}
use Rattle.channels.specs.Chan.{Chan, chan}
use Rattle.channels.specs.Operations.{overcurrent_one}
use Rattle.channels.proofs.Laws as of-channels
use Rattle.watchdog.specs.declared.Event.{Event}
use Rattle.watchdog.specs.declared.Event.TheVariants.{NoEvent, PeripheralReset, WatchdogReset}
use Rattle.power.specs.Machine as small
use Rattle.power.specs.Machine.{is_lit}
use Rattle.command.specs.Decode.{Decoded, decode_of}
use Rattle.memory.specs.Limits.{limits_of}
use Rattle.state.specs.Parts.{mode_of, word_count}
use Rattle.state.specs.Start.{fresh_of, command_reset_of, watchdog_reset_of}
use Rattle.state.specs.declared.parts.Board.{Board}
use Rattle.state.specs.declared.parts.Profile.{Profile}
use Rattle.state.specs.declared.parts.Resets.{Resets}
use Rattle.answers.specs.declared.Commanded.{Commanded}
use Rattle.asking.specs.Checks.{is_startup}
use Rattle.board.specs.Tick.{risen_of, changed_of, tripped_of, watched_as, allowed_count, tick_of}
use Rattle.board.specs.declared.Ticked.{Ticked}
use Rattle.claims.specs.Power.{ForceEnabledBy}
use Rattle.claims.specs.Standing.{Stands}
use Rattle.claims.proofs.Calls.{found, obeyed, happening, tick_is, by_tick}
use Rattle.claims.proofs.CommandStep.{asked, step}
use Rattle.claims.proofs.PowerCommand.{Moved, Lit, DoesAt, idle, left, switched, made_safe, made_nominal, restarted, entered_one, entering, stays_lit, to_safety_lit, to_nominal_lit, at_channel}

-- ---- a start, and a reset of either kind: off, unlatched, in startup
pub fresh_stands : (k : ℕ) → k < 32 → (p : Profile) (store : Store) (resets : Resets) → Stands k (fresh_of p store resets)
unfolding fresh_of
fresh_stands k h p store resets = ap (λ (x : Chan). x.on) (of-channels.cleared_each k h)

-- ---- the channel alone
-- a change of mode leaves a channel as it stands in the new mode
entered_stands : (before after : Mode) (x : Chan) → x.on ≡ (is_lit before && not x.latched) → (entered_one before after x).on ≡ (is_lit after && not (entered_one before after x).latched)
entered_stands before after x e = cases (is_lit after) (λ a. cases (is_lit before) (λ b. rw (a, b) (rw b at e)) (λ b. rw (a, b))) (λ a. rw a)

-- an overcurrent latches what it turns off
tripped_stands : (named lit : Bool) (x : Chan) → x.on ≡ (lit && not x.latched) → (overcurrent_one named x).on ≡ (lit && not (overcurrent_one named x).latched)
tripped_stands named lit x e = cases (named && x.on) (λ a. rw a (sym (and-false lit))) (λ a. rw a e)

-- without one, the change of mode is all
entered_on : (before after : Mode) (x : Chan) → (overcurrent_one false (entered_one before after x)).on ≡ cond (is_lit after) (cond (is_lit before) x.on true) false
entered_on before after x = cases (is_lit after) (λ a. cases (is_lit before) (λ b. rw (a, b)) (λ b. rw (a, b))) (λ a. rw a)

-- what the small machine sees of a board
abbrev pub seen : ℕ → Board → small.State
seen k b = record { phase = b.phase; on = has b.channels.on k }

-- a channel in step is so after a change of mode
enters_in_step : (next : ModeAge) (s : small.State) → small.InStep s → small.InStep (small.enters next s)
enters_in_step next s h = cases (is_lit next.mode) (λ a. cases (is_lit s.phase.mode) (λ b. rw (a, b) (h ∙ b)) (λ b. rw (a, b))) (λ a. rw a)

-- a mode that stays lit, or dark, leaves the channel
enters_lit : (next : ModeAge) (s : small.State) → small.InStep s → is_lit next.mode ≡ is_lit s.phase.mode → small.enters next s ≡ record { phase = next; on = s.on }
enters_lit next s h e = ap (λ (o : Bool). record { phase = next; on = o }) (cases (is_lit s.phase.mode) (λ a. rw (e, a)) (λ a. rw (e, a) (sym (h ∙ a))))

-- a command on channels in nominal finds the channel on
nominal_on : (m : Mode) (o : Bool) → o ≡ is_lit m → (same m Nominal || o) ≡ o
nominal_on Startup o h = refl
nominal_on Nominal o h = sym h
nominal_on Safety o h = refl
nominal_on Emergency o h = refl

-- in startup no command moves the small machine
unmoved : (rail : ℤ) (limits : Limits) (c : small.Command) (s : small.State) → s.phase.mode ≡ Startup → small.InStep s → small.obeyed c rail limits s ≡ s
unfolding to_safety to_nominal
unmoved rail limits small.other s e h = refl
unmoved rail limits small.switch_on s e h = ap (λ (o : Bool). record { phase = s.phase; on = o }) (nominal_on s.phase.mode s.on h)
unmoved rail limits small.switch_to_safety s e h = rw e (ap (λ (o : Bool). record { phase = Startup aged s.phase.age; on = o }) (sym (h ∙ ap is_lit e)))
unmoved rail limits small.switch_to_nominal s e h = rw e (ap (λ (o : Bool). record { phase = Startup aged s.phase.age; on = o }) (sym (h ∙ ap is_lit e)))

-- startup is the one mode that is startup
startup_is : (m : Mode) → is_startup m ≡ true → m ≡ Startup
unfolding is_startup
startup_is Startup e = refl
startup_is Nominal e = absurd (false≢true e)
startup_is Safety e = absurd (false≢true e)
startup_is Emergency e = absurd (false≢true e)

-- ---- step 4
module _ (k : ℕ) (b c : Board) where
  -- a channel that stays in a mode as lit as before stands
  moved_stands : (next : ModeAge) → is_lit next.mode ≡ is_lit (mode_of b) → Moved k next b c → Stands k b → Stands k c
  moved_stands next e q w = rw (q.on, q.phase, q.latched, e) w

  -- a channel that was switched on stands
  lit_stands : Lit k b c → Stands k c
  lit_stands q = rw (q.on, q.phase, q.unlatched, q.nominal)

  -- what the small machine sees of either
  moved_seen : (next : ModeAge) → Moved k next b c → seen k c ≡ record { phase = next; on = has b.channels.on k }
  moved_seen next q = rw (q.phase, q.on)

  lit_seen : Lit k b c → seen k c ≡ record { phase = b.phase; on = true }
  lit_seen q = rw (q.phase, q.on)

module _ (k : ℕ) (rail : ℤ) (limits : Limits) (d : Decoded) (ask : small.Command) (b : Board) (c : Commanded) where
  -- it leaves the channel standing
  obeyed_stands : k < 32 → DoesAt k rail limits d ask b c → Stands k b → Stands k c.board
  unfolding command_reset_of
  obeyed_stands h (idle e q) w = moved_stands k b c.board b.phase refl q w
  obeyed_stands h (left e q) w = moved_stands k b c.board b.phase refl q w
  obeyed_stands h (switched e q) w = ⊎_elim (λ (p : Moved k b.phase b c.board). moved_stands k b c.board b.phase refl p w) (λ (p : Lit k b c.board). lit_stands k b c.board p) q
  obeyed_stands h (made_safe e q) w = moved_stands k b c.board (leaves (to_safety b.phase) b.phase) (stays_lit b.phase (to_safety b.phase) (to_safety_lit b.phase)) q w
  obeyed_stands h (made_nominal e q) w = moved_stands k b c.board (leaves (to_nominal b.phase rail limits) b.phase) (stays_lit b.phase (to_nominal b.phase rail limits) (to_nominal_lit b.phase rail limits)) q w
  obeyed_stands h (restarted e o r) w = rw r (fresh_stands k h _ _ _)

  -- without a reset it is what the small machine does
  obeyed_seen : DoesAt k rail limits d ask b c → small.InStep (seen k b) → (c.board ≡ command_reset_of b → ⊥) → seen k c.board ≡ small.obeyed ask rail limits (seen k b)
  obeyed_seen (idle e q) h n = moved_seen k b c.board b.phase q ∙ sym (unmoved rail limits ask (seen k b) (startup_is (mode_of b) e) h)
  obeyed_seen (left e q) h n = rw e (moved_seen k b c.board b.phase q)
  obeyed_seen (switched e q) h n =
      let on : Bool → small.State = λ o. record { phase = b.phase; on = o } in
      rw e
      (⊎_elim
      (λ (p : Moved k b.phase b c.board). moved_seen k b c.board b.phase p ∙ ap on (sym (nominal_on (mode_of b) (has b.channels.on k) h)))
      (λ (p : Lit k b c.board). lit_seen k b c.board p ∙ ap on (rw p.nominal))
      q)
  obeyed_seen (made_safe e q) h n =
      let next = leaves (to_safety b.phase) b.phase in
      rw e (moved_seen k b c.board next q ∙ sym (enters_lit next (seen k b) h (stays_lit b.phase (to_safety b.phase) (to_safety_lit b.phase))))
  obeyed_seen (made_nominal e q) h n =
      let next = leaves (to_nominal b.phase rail limits) b.phase in
      rw e (moved_seen k b c.board next q ∙ sym (enters_lit next (seen k b) h (stays_lit b.phase (to_nominal b.phase rail limits) (to_nominal_lit b.phase rail limits))))
  obeyed_seen (restarted e o r) h n = absurd (n r)

-- ---- step 5
unreset : (e : Event) (c : Commanded) → ((watched_as e c).event ≡ WatchdogReset → ⊥) → (watched_as e c).board ≡ c.board
unreset NoEvent c n = refl
unreset PeripheralReset c n = refl
unreset WatchdogReset c n = absurd (n refl)

-- ---- the whole tick
module _ (k : ℕ) (rail : ℤ) (named : ℕ) (words : List ℕ) (sent : Bool) (s : List ℕ) (b : Board) (fe : ForceEnabledBy b.profile k) where
  -- the board's own limits, and the phase that the table leads to
  abbrev own : Limits
  own = limits_of b.memory

  abbrev next : ModeAge
  next = step_of (older_of b.phase) rail own

  -- the board as the command finds it, and what the command leaves
  abbrev settled : Board
  settled = found rail named words sent s b

  abbrev answered : Commanded
  answered = obeyed rail named words sent s b

  -- what the transfer is, and what it is to the small machine
  abbrev reading : Decoded
  reading = decode_of b.profile.kind b.profile.bid false s

  abbrev ask : small.Command
  ask = cond sent (asked reading) small.other

  -- steps 1 to 3
  settled_channel : chan settled.channels k ≡ overcurrent_one (has named k) (entered_one (mode_of b) next.mode (chan b.channels k))
  unfolding tripped_of changed_of risen_of older_of
  settled_channel =
      of-channels.each b.profile.fitted b.profile.forced (of-channels.overcurrent named) _ k fe.a_channel
      ∙ ap (overcurrent_one (has named k)) (entering b.profile k fe b.channels (mode_of b) next.mode)

  -- the phase is the one that the table leads to
  pub settled_phase : settled.phase ≡ next
  unfolding tripped_of changed_of risen_of
  settled_phase = refl

  -- the channel stands
  settled_stands : Stands k b → Stands k settled
  settled_stands w =
      rw (ap (λ (x : Chan). x.on) settled_channel, settled_phase, ap (λ (x : Chan). x.latched) settled_channel)
      (tripped_stands (has named k) (is_lit next.mode) (entered_one (mode_of b) next.mode (chan b.channels k)) (entered_stands (mode_of b) next.mode (chan b.channels k) w))

  -- where the channel is not named, this is what the small machine does
  pub settled_seen : has named k ≡ false → seen k settled ≡ small.enters next (seen k b)
  settled_seen e =
      rw (settled_phase, ap (λ (x : Chan). x.on) settled_channel, e)
      (ap (λ (o : Bool). record { phase = next; on = o }) (entered_on (mode_of b) next.mode (chan b.channels k)))

  -- step 4
  does : DoesAt k rail own reading ask settled answered
  unfolding tripped_of changed_of risen_of
  does = at_channel k settled fe rail own reading ask answered (step rail own settled s sent)

  -- step 5
  module _ (allowed : allowed_count (word_count b) (length words) ≡ true) where
    abbrev after : Ticked
    after = tick_of rail named words sent s b

    abbrev event : Event
    event = happening rail named words sent s b

    -- the tick is what the watchdog makes of what the command leaves
    after_is : after ≡ watched_as event answered
    after_is = tick_is rail named words sent s b allowed

    -- whatever happens, the channel stands
    pub tick_stands : Stands k b → Stands k after.board
    unfolding watchdog_reset_of
    tick_stands w =
        by_tick rail named words sent s b (Stands k) allowed
        (obeyed_stands k rail own reading ask settled answered fe.a_channel does (settled_stands w)) (fresh_stands k fe.a_channel _ _ _)

    -- without a reset, and where the channel is not named, it is the small machine's
    pub tick_seen : small.InStep (seen k b) → has named k ≡ false → (after.event ≡ WatchdogReset → ⊥) → (after.board ≡ command_reset_of settled → ⊥)
        → seen k after.board ≡ small.obeyed ask rail own (small.enters next (seen k b))
    tick_seen h e n r =
        let there : seen k settled ≡ small.enters next (seen k b) = settled_seen e in
        let in_step : small.InStep (seen k settled) = subst small.InStep (sym there) (enters_in_step next (seen k b) h) in
        let as-obeyed : after.board ≡ answered.board = ap (λ (t : Ticked). t.board) after_is ∙ unreset event answered (λ w. n (rw after_is w)) in
        ap (seen k) as-obeyed
        ∙ obeyed_seen k rail own reading ask settled answered does in_step (λ q. r (as-obeyed ∙ q))
        ∙ ap (small.obeyed ask rail own) there
