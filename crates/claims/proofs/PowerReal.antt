-- The long stretch of a rail at 0 mV on a real board, by stages: a tick of it never resets, so the channels are the
-- small machine's, whose run `power` shows. Assumes nothing.
use Prim.Native.Nat.{ℕ, zero, suc, ◌+◌, ◌^◌, ◌-◌, ◌≤◌, min}
use mathlib.Core.Path.{◌≡◌, refl, sym, ap, ◌∙◌, subst}
use mathlib.Core.Bool.{Bool, true, false, false≢true}
use mathlib.Core.List.{List, [], ◌∷◌}
use native.Mathlib.Omega.{arith}
use borrow.Author.Tests.{ltb-false}
use lib.IntN.{pos}
use lib.ListN.{replicate}
use Rattle.laws.proofs.Cases.{cases}
use Rattle.modes.specs.Table.{◌reaches◌, ◌exceeds◌, entered, step_of, older_of}
use Rattle.modes.specs.declared.Mode.{Mode}
use Rattle.modes.specs.declared.Mode.TheVariants.{Startup, Nominal, Safety, Emergency}
use Rattle.modes.specs.declared.ModeAge.{ModeAge}
use Rattle.modes.specs.declared.Limits.{Limits}
use Rattle.channels.specs.Sets.{has, all_below, is_within}
use Rattle.channels.specs.Chan.{Chan}
use Rattle.channels.proofs.Sets.{has_none}
use Rattle.channels.proofs.Laws.{cleared_each}
use Rattle.watchdog.specs.Watchdog as dog
use Rattle.watchdog.specs.declared.Event.TheVariants.{NoEvent}
use Rattle.watchdog.proofs.Laws.{early}
use Rattle.power.specs.Machine as small
use Rattle.power.proofs.Simulation.{inputs}
use Rattle.power.proofs.Stages.{Low, low_ticks, low_run}
use Rattle.kinds.specs.declared.Kind.TheVariants.{Distribution}
use Rattle.memory.specs.Memory.{empty_store, with_defaults, loaded_from}
use Rattle.memory.specs.Limits.{timeout_of, limits_of}
use Rattle.memory.specs.declared.Memory.{Memory}
use Rattle.memory.proofs.Examples.{default_limits, default_timeout}
use Rattle.state.specs.Parts.{mode_of, word_count}
use Rattle.change.specs.Change.{is_dark, timer_after}
use Rattle.state.specs.declared.parts.Board.{Board}
use Rattle.state.specs.Start.{fresh_of, never_reset, bid_in_range, any_fitted, channels_in_place, keeps_the_rules, start_of}
use Rattle.answers.specs.declared.Outcome.TheVariants.{NoTransfer}
use Rattle.commands.specs.Step.{commanded_of}
use Rattle.board.specs.Tick.{risen_of, changed_of, tripped_of, watched_in, tick_with, allowed_count, tick_of}
use Rattle.board.specs.declared.Ticked.{Ticked}
use Rattle.power.specs.Runs.{channel, turns}
use Rattle.unit.specs.Machine.{no_machine, begun_of, told_by, told_of}
use Rattle.unit.specs.declared.Machine.{Machine}
use Rattle.unit.specs.declared.Told.{Told}
use Rattle.groups.specs.Resets.{tells_watchdog_reset, tells_command_reset, tells_reset}
use Rattle.unit.specs.Runs.{Sample, told, after_call, after, Reached}
use Rattle.claims.specs.Power.{ForceEnabledBy, ForceEnabled, channel_of, is_tick, Resets, Undisturbed, EachTick, NoneLatched}
use Rattle.claims.specs.PowerReal.{profile, started, dead, ticks, expected, PowerReal}
use Rattle.claims.proofs.PowerTick.{seen}
use Rattle.claims.proofs.Calls.{begun_is}
use Rattle.claims.proofs.Power.{numbers, times, input, small_of, in_touch, same_line, spares_each}

-- ---- the defaults
abbrev pub defaults : Memory
defaults = with_defaults Distribution empty_store

-- linger, the emergency period and the thresholds by default
abbrev default : Limits
default = record { linger = 6000; period = 60000; safety_low = pos 12400; safety_high = pos 14000; emergency_low = pos 12000; emergency_high = pos 12400 }

-- ---- a rail at 0 mV
-- what the timer is in each mode: it is held at 0 in startup and emergency, and in safety it is no older than the mode,
-- which linger ends; nominal is not reached
abbrev Rests : Mode → ℕ → ℕ → Type 0
Rests Startup age timer = timer ≡ 0
Rests Nominal age timer = ⊥
Rests Safety age timer = (timer ≤ age) × (age ≤ 6000)
Rests Emergency age timer = timer ≡ 0

-- the mode and the timer after steps 1 and 2
abbrev aged : ModeAge → ModeAge
aged s = step_of (older_of s) (pos 0) default

-- and the timer
abbrev timed : ModeAge → ℕ → ℕ
timed s timer = timer_after (older_of s).mode (aged s).mode (dog.risen_of timer)

rests_on : (m : Mode) (age timer : ℕ) → Rests m age timer → let s : ModeAge = record { mode = m; age = age } in Rests (aged s).mode (aged s).age (timed s timer)
unfolding step_of older_of timer_after is_dark dog.risen_of
rests_on Startup age timer h = cases (min (age + 1) (2 ^ 64 - 1) reaches 50) (λ e. rw e (omega arith)) (λ e. rw e refl)
rests_on Nominal age timer h = absurd h
rests_on Safety age timer h =
    cases (min (age + 1) (2 ^ 64 - 1) exceeds 6000)
    (λ e. rw e refl)
    (λ e. rw e (omega (arith, ltb-false 6000 (min (age + 1) (2 ^ 64 - 1)) e)))
rests_on Emergency age timer h = cases (min (age + 1) (2 ^ 64 - 1) reaches 60000) (λ e. rw e (omega arith)) (λ e. rw e refl)

-- so the timer is never above 6,000
rests_low : (m : Mode) (age timer : ℕ) → Rests m age timer → timer ≤ 6000
rests_low Startup age timer h = omega arith
rests_low Nominal age timer h = absurd h
rests_low Safety age timer h = omega arith
rests_low Emergency age timer h = omega arith

module _ (b : Board) (kept : b.memory ≡ defaults) (rests : Rests (mode_of b) b.phase.age b.timer) where
  -- the board after steps 1 to 3
  abbrev settled : Board
  settled = tripped_of 0 (changed_of (pos 0) (limits_of b.memory) (risen_of [] b))

  -- the limits are the defaults
  own : limits_of b.memory ≡ default
  own = ap limits_of kept ∙ default_limits Distribution

  -- the timer rests after the tick too
  settled_rests : Rests (mode_of settled) settled.phase.age settled.timer
  unfolding tripped_of changed_of risen_of
  settled_rests = rw own (rests_on (mode_of b) b.phase.age b.timer rests)

  -- the settings stay
  settled_memory : settled.memory ≡ defaults
  unfolding tripped_of changed_of risen_of
  settled_memory = kept

  -- the timeout is 30,000 ticks, and the timer is far from it
  nothing_happens : dog.watched_of settled.timer (dog.seconds_in_ticks (timeout_of settled.memory)) ≡ NoEvent
  nothing_happens =
      let low : settled.timer ≤ 6000 = rests_low (mode_of settled) settled.phase.age settled.timer settled_rests in
      ap (dog.watched_of settled.timer) (ap (λ (x : Memory). dog.seconds_in_ticks (timeout_of x)) settled_memory ∙ default_timeout Distribution)
      ∙ early settled.timer 30000 (omega arith) (omega arith) (omega arith)

  -- so the tick ends there
  quiet : tick_of (pos 0) 0 [] false [] b ≡ record { board = settled; outcome = NoTransfer; event = NoEvent; replied = false }
  unfolding tick_of tick_with watched_in commanded_of allowed_count
  quiet = rw nothing_happens

-- ---- the stretch
abbrev quietly : Sample
quietly = record { rail = pos 0; named = 0; words = []; sent = false; transfer = [] }

pub record Calm (m : Machine) : Type 0 where
  pub kept : m.board.memory ≡ defaults
  pub rests : Rests (mode_of m.board) m.board.phase.age m.board.timer

-- a tick without an event and without a transfer is no reset
pub uneventful : (m : Machine) (i : Sample) → (told m i).event ≡ NoEvent → (told m i).outcome ≡ NoTransfer → Resets m i → ⊥
unfolding tells_reset tells_watchdog_reset tells_command_reset
uneventful m i quiet unsent e = false≢true (rw (quiet, unsent) at e)

module _ (m : Machine) (calm : Calm m) where
  -- what the tick comes to
  abbrev told_so : Ticked
  told_so = record { board = settled m.board calm.kept calm.rests; outcome = NoTransfer; event = NoEvent; replied = false }

  -- what it tells
  telling : told_of (pos 0) 0 [] false [] m ≡ told_by told_so m.due
  unfolding told_of
  telling = ap (λ (t : Ticked). told_by t m.due) (quiet m.board calm.kept calm.rests)

  -- the machine is calm after it
  pub still_calm : Calm (after_call m dead)
  still_calm = subst Calm (sym (ap (λ (t : Told). t.machine) telling)) (record { kept = settled_memory m.board calm.kept calm.rests; rests = settled_rests m.board calm.kept calm.rests })

  -- and the tick meets every premise of the demand
  pub undisturbed : Undisturbed m quietly
  undisturbed =
      record {
        no_reset = uneventful m quietly (ap (λ (t : Told). t.event) telling) (ap (λ (t : Told). t.outcome) telling);
        no_change =
            ap (λ (t : Told). t.machine.board.memory.current) telling
            ∙ ap (λ (x : Memory). x.current) (settled_memory m.board calm.kept calm.rests ∙ sym calm.kept);
        no_overcurrent = λ k fe. has_none k;
      }

-- so does each of n such ticks
calm_ticks : (n : ℕ) (m : Machine) → Calm m → EachTick Undisturbed m (replicate n dead)
calm_ticks zero m calm = tt
calm_ticks (suc n) m calm = (λ e. undisturbed m calm, calm_ticks n (after_call m dead) (still_calm m calm))

-- to the small machine each tick is the same
abbrev low : small.Input
low =
    record { rail = pos 0; safety_low = pos 12400; safety_high = pos 14000; emergency_low = pos 12000; emergency_high = pos 12400; command = small.other }

is_low : Low low
is_low = record { below_safety_low = refl; below_safety_high = refl; below_emergency_low = refl; below_emergency_high = refl; no_command = refl }

-- n ticks are n times that input, whatever the board's number of words: none are lent
calm_inputs : (number n : ℕ) (m : Machine) → Calm m → inputs after_call (is_tick number) input m (replicate n dead) ≡ replicate n low
unfolding allowed_count
calm_inputs number zero m calm = refl
calm_inputs number (suc n) m calm =
    rw (own m.board calm.kept calm.rests) (ap (λ (is : List small.Input). low ∷ is) (calm_inputs number n (after_call m dead) (still_calm m calm)))

-- ---- the board
pub started_calm : Calm started
unfolding begun_of start_of keeps_the_rules bid_in_range channels_in_place any_fitted is_within all_below has fresh_of loaded_from empty_store
started_calm = record { kept = refl; rests = refl }

-- the profile keeps the rules
pub accepted : keeps_the_rules profile empty_store ≡ true
unfolding keeps_the_rules bid_in_range channels_in_place any_fitted is_within all_below has empty_store
accepted = refl

-- the start alone is reached
reached : Reached started
unfolding after
reached = record { there = no_machine; profile = profile; store = empty_store; accepted = accepted; past = []; is = refl }

-- a fresh board
pub started_is : started.board ≡ fresh_of profile empty_store never_reset
started_is = begun_is no_machine profile empty_store accepted

-- channel 0 is force-enabled
pub zero_of : ForceEnabledBy profile 0
unfolding has
zero_of = record { a_channel = omega arith; fitted = refl; forced = refl }

-- on the board that was started, too
pub zero_forced : ForceEnabled 0 started
unfolding fresh_of
zero_forced = subst (λ (b : Board). ForceEnabledBy b.profile 0) (sym started_is) zero_of

-- nothing is latched at the start
none_latched : NoneLatched started
unfolding fresh_of
none_latched k fe = subst (λ (b : Board). has b.channels.latched k ≡ false) (sym started_is) (ap (λ (x : Chan). x.latched) (cleared_each k fe.a_channel))

-- to the small machine it is the start
started_small : (k : ℕ) → ForceEnabled k started → small_of k started ≡ small.start
unfolding fresh_of
started_small k fe = ap (seen k) started_is ∙ ap (λ (o : Bool). record { phase = entered Startup; on = o }) (ap (λ (x : Chan). x.on) (cleared_each k fe.a_channel))

-- any number of these ticks
any_number : (k : ℕ) → ForceEnabled k started → (n : ℕ) → channel_of k started (replicate n dead) ≡ channel (small.tick times) (λ i. true) (λ x. x.on) small.start (replicate n low)
any_number k fe n =
    same_line k started (in_touch k started reached fe (λ e. none_latched k fe)) (replicate n dead) (spares_each k (replicate n dead) started fe (calm_ticks n started started_calm))
    ∙ ap (λ (is : List small.Input). channel (small.tick times) (λ i. true) (λ x. x.on) (small_of k started) is) (calm_inputs (word_count started.board) n started started_calm)
    ∙ ap (λ (s : small.State). channel (small.tick times) (λ i. true) (λ x. x.on) s (replicate n low)) (started_small k fe)

-- turns of equal lengths are the same
same_turns : {a a' b b' c c' d d' : ℕ} → a ≡ a' → b ≡ b' → c ≡ c' → d ≡ d' → turns a b c d ≡ turns a' b' c' d'
same_turns e f g h = rw (e, f, g, h)

-- the numbers are compared one by one
exactly : (k : ℕ) → ForceEnabled k started → channel_of k started (replicate ticks dead) ≡ expected
exactly k fe =
    let count : ticks ≡ low_ticks times = omega arith in
    any_number k fe ticks
    ∙ ap (λ (n : ℕ). channel (small.tick times) (λ i. true) (λ x. x.on) small.start (replicate n low)) count
    ∙ low_run times low is_low (omega arith) (omega arith)
    ∙ same_turns (omega arith) (omega arith) (omega arith) (omega arith)

-- the claim
pub power_real : PowerReal
power_real =
    record {
      numbers = numbers;
      reached = reached;
      at_least_one = record { one = 0; is = zero_forced };
      none_latched = none_latched;
      undisturbed = calm_ticks ticks started started_calm;
      exactly = exactly;
    }
