-- A run for each premise of demand 3 that is needed, which breaks the demand without it: two short ones, computed, and
-- two long ones in nominal, by a law for each tick. Assumes nothing.
use Prim.Native.Nat.{ℕ, zero, suc, ◌≤◌}
use mathlib.Core.Path.{◌≡◌, refl, sym, ap, ◌∙◌, subst}
use mathlib.Core.Bool.{Bool, true, false, false≢true, and-false}
use mathlib.Core.List.{List, [], ◌∷◌, ◌++◌, append-nil}
use native.Mathlib.Omega.{arith}
use lib.IntN.{ℤ, pos}
use lib.ListN.{replicate, length-replicate}
use Rattle.kinds.specs.Kinds.{is_in}
use Rattle.modes.specs.Table.{entered, step_of, older_of}
use Rattle.modes.specs.declared.Mode.TheVariants.{Nominal}
use Rattle.modes.specs.declared.ModeAge.{ModeAge}
use Rattle.modes.specs.declared.Limits.{Limits}
use Rattle.modes.proofs.Laws.{nominal_step, older_mode}
use Rattle.channels.specs.Sets.{has, set_of, list_of, all_below, is_within}
use Rattle.channels.specs.Chan.{Chan, whole}
use Rattle.channels.specs.Operations.{overcurrent_at, all_off, forced_on, command_enabled_off, cleared}
use Rattle.channels.proofs.Sets.{has_none}
use Rattle.channels.proofs.Laws.{cleared_each}
use Rattle.watchdog.specs.Watchdog as dog
use Rattle.watchdog.specs.declared.Event.TheVariants.{NoEvent}
use Rattle.kinds.specs.declared.Kind.TheVariants.{Distribution}
use Rattle.settings.specs.Table.{lies, row_of, find, read_write_rows, read_only_rows, parameter_of, column, default_of, clamp_of, at_least, at_most, low_of, high_of}
use Rattle.settings.specs.Values.{setting_of, defaults_of, default_n}
use Rattle.watchdog.proofs.Laws.{disabled, early}
use Rattle.power.specs.Machine as small
use Rattle.power.specs.Runs.{channel, OffAtMost}
use Rattle.power.specs.Claim.{most_off, Powered}
use Rattle.power.proofs.Tight.{all_off_lem}
use Rattle.command.specs.Table as codes
use Rattle.command.specs.Decode.{fewer_than_four, header_is, carried, listed, decode_of}
use Rattle.command.specs.Checks.{first, header_differs, id_wrong, checks}
use Rattle.memory.specs.Memory.{empty_store, loaded_from}
use Rattle.memory.specs.Limits.{safety_low, safety_high, timeout_of, limits_of}
use Rattle.memory.specs.declared.Memory.{Memory}
use Rattle.memory.proofs.Examples.{default_limits}
use Rattle.state.specs.Parts.{mode_of, word_count, with_phase}
use Rattle.state.specs.Start.{fresh_of, never_reset, bid_in_range, any_fitted, channels_in_place, keeps_the_rules, start_of, command_reset_of, by_command}
use Rattle.change.specs.Change.{is_dark, from_nominal_to_safety, leaves_emergency, entering_of, timer_after, resets_after}
use Rattle.state.specs.declared.parts.Board.{Board}
use Rattle.state.specs.declared.parts.Profile.{Profile}
use Rattle.answers.specs.Answers.{accepted_with, accepted_of}
use Rattle.answers.specs.declared.Outcome.TheVariants.{NoTransfer}
use Rattle.effects.specs.Effects.{restarted_of, reported_of, run_of}
use Rattle.asking.specs.Checks.{is_startup, channel_codes, unavailable, channel_wrong, checksum_wrong, checks_of}
use Rattle.commands.specs.Step.{returning, transferred_of, commanded_of}
use Rattle.board.specs.Tick.{brought_by, risen_of, changed_of, tripped_of, watched_as, watched_in, tick_with, allowed_count, tick_of}
use Rattle.board.specs.declared.Ticked.{Ticked}
use Rattle.unit.specs.Machine.{no_machine, begun_of, told_by, told_of}
use Rattle.framing.specs.declared.Due.TheVariants.{Nothing}
use Rattle.unit.specs.declared.Machine.{Machine}
use Rattle.unit.specs.declared.Told.{Told}
use Rattle.groups.specs.Resets.{tells_watchdog_reset, tells_command_reset, tells_reset}
use Rattle.unit.specs.Runs.{Sample, told, Call, tick, after_call, after, Reached}
use Rattle.claims.specs.Power.{is_on, is_tick, ForceEnabledBy, ForceEnabled, channel_of, Undisturbed, EachTick, AtLeastOne, NoneLatched, limits}
use Rattle.claims.specs.PowerReal.{profile, started, dead}
use Rattle.claims.specs.PowerNeeded.{Fails, ButReset, ButOvercurrent, PowerNeeded}
use Rattle.claims.proofs.Profiles.{after_profile}
use Rattle.claims.proofs.Power.{numbers}
use Rattle.claims.proofs.PowerTick.{settled_phase as settled-phase-is, settled_seen}
use Rattle.claims.proofs.PowerReal.{defaults, accepted, zero_of, zero_forced, started_is, uneventful, Calm, started_calm, still_calm, undisturbed}

-- ---- one tick before startup ends
abbrev nearly : Machine
nearly = after started (replicate 49 dead)

-- 0xAA with its key
abbrev restart : Sample
restart = record { rail = pos 0; named = 0; words = []; sent = true; transfer = 0x11 ∷ 0x07 ∷ 0xAA ∷ 0x01 ∷ 0xA6 ∷ [] }

-- an overcurrent of channel 0
abbrev tripping : Sample
tripping = record { rail = pos 0; named = 1; words = []; sent = false; transfer = [] }

-- ---- in nominal with channel 0 latched
-- a rail far above safety low, and the same with an overcurrent of channel 0
abbrev bright : ℕ → Sample
bright named = record { rail = pos 20000; named = named; words = []; sent = false; transfer = [] }

-- 50 such ticks lead to nominal, and the next takes channel 0 off
abbrev before : List Call
before = replicate 50 (tick (bright 0)) ++ (tick (bright 1) ∷ [])

-- nominal, with channel 0 off and latched
abbrev latched_off : Machine
latched_off = after started before

-- all that antt computes of these runs
record Computed : Type 0 where
  restart_line : channel_of 0 nearly (dead ∷ tick restart ∷ []) ≡ false ∷ true ∷ false ∷ []
  restart_settings : (told (after_call nearly dead) restart).machine.board.memory.current ≡ (after_call nearly dead).board.memory.current
  tripping_line : channel_of 0 nearly (dead ∷ tick tripping ∷ []) ≡ false ∷ true ∷ false ∷ []
  tripping_event : (told (after_call nearly dead) tripping).event ≡ NoEvent
  tripping_outcome : (told (after_call nearly dead) tripping).outcome ≡ NoTransfer
  tripping_settings : (told (after_call nearly dead) tripping).machine.board.memory.current ≡ (after_call nearly dead).board.memory.current
  none_latched : nearly.board.channels.latched ≡ 0
  latched_mode : mode_of latched_off.board ≡ Nominal
  latched_memory : latched_off.board.memory ≡ defaults
  latched_off : is_on 0 latched_off ≡ false

-- by computation alone
computed : Computed
unfolding after begun_of start_of keeps_the_rules bid_in_range channels_in_place any_fitted is_within all_below has set_of list_of whole overcurrent_at all_off forced_on command_enabled_off cleared fresh_of never_reset loaded_from empty_store told_of tick_of tick_with allowed_count brought_by risen_of changed_of tripped_of watched_in commanded_of is_dark from_nominal_to_safety leaves_emergency entering_of timer_after resets_after dog.risen_of dog.watched_of timeout_of limits_of safety_low safety_high setting_of parameter_of row_of find read_write_rows read_only_rows lies defaults_of default_n column default_of clamp_of at_least at_most low_of high_of step_of older_of transferred_of returning first checks_of checks header_differs id_wrong unavailable channel_codes channel_wrong checksum_wrong is_startup decode_of fewer_than_four header_is is_in listed carried codes.find codes.command_table run_of reported_of restarted_of command_reset_of by_command
computed =
    record {
      restart_line = refl;
      restart_settings = refl;
      tripping_line = refl;
      tripping_event = refl;
      tripping_outcome = refl;
      tripping_settings = refl;
      none_latched = refl;
      latched_mode = refl;
      latched_memory = refl;
      latched_off = refl;
    }

-- ---- the two short runs
forced_after : (calls : List Call) → ForceEnabled 0 (after started calls)
forced_after calls = subst (λ (p : Profile). ForceEnabledBy p 0) (sym (after_profile calls started)) zero_forced

-- what calls lead to from the start is reached
reached_by : (calls : List Call) → Reached (after started calls)
reached_by calls = record { there = no_machine; profile = profile; store = empty_store; accepted = accepted; past = calls; is = refl }

-- ticks of a rail at 0 mV leave the machine calm
calm_after : (n : ℕ) (m : Machine) → Calm m → Calm (after m (replicate n dead))
unfolding after
calm_after zero m calm = calm
calm_after (suc n) m calm = calm_after n (after_call m dead) (still_calm m calm)

-- so it is one tick before startup ends
nearly_calm : Calm nearly
nearly_calm = calm_after 49 started started_calm

-- and nothing is latched then
nearly_unlatched : NoneLatched nearly
nearly_unlatched k fe = rw computed.none_latched (has_none k)

-- on for a single tick
too_short : (m : Machine) (calls : List Call) → channel_of 0 m calls ≡ false ∷ true ∷ false ∷ [] → Powered (limits m).linger (limits m).period (channel_of 0 m calls) → ⊥
unfolding limits_of
too_short m calls e d = false≢true (d.on_for_long.shown [] (false ∷ []) e).1.0

-- on, and reset in the next tick
pub without_reset : Fails (λ m. Reached m × AtLeastOne m × NoneLatched m) ButReset
without_reset =
    record {
      from = nearly;
      start = (reached_by (replicate 49 dead), record { one = 0; is = forced_after (replicate 49 dead) }, nearly_unlatched);
      calls = dead ∷ tick restart ∷ [];
      met = (
        λ e. let u = undisturbed nearly nearly_calm in record { no_change = u.no_change; no_overcurrent = u.no_overcurrent },
        (λ e. record { no_change = computed.restart_settings; no_overcurrent = λ k fe. has_none k }, tt),
      );
      k = 0;
      force_enabled = forced_after (replicate 49 dead);
      fails = too_short nearly (dead ∷ tick restart ∷ []) computed.restart_line;
    }

-- on, and tripped in the next tick
pub without_overcurrent : Fails (λ m. Reached m × AtLeastOne m × NoneLatched m) ButOvercurrent
without_overcurrent =
    record {
      from = nearly;
      start = (reached_by (replicate 49 dead), record { one = 0; is = forced_after (replicate 49 dead) }, nearly_unlatched);
      calls = dead ∷ tick tripping ∷ [];
      met = (
        λ e. let u = undisturbed nearly nearly_calm in record { no_reset = u.no_reset; no_change = u.no_change },
        (λ e. record { no_reset = uneventful (after_call nearly dead) tripping computed.tripping_event computed.tripping_outcome; no_change = computed.tripping_settings }, tt),
      );
      k = 0;
      force_enabled = forced_after (replicate 49 dead);
      fails = too_short nearly (dead ∷ tick tripping ∷ []) computed.tripping_line;
    }

-- ---- the two long runs
-- a NOOP at each tick keeps the watchdog fed
abbrev fed : Sample
fed = record { rail = pos 20000; named = 0; words = []; sent = true; transfer = 0x11 ∷ 0x07 ∷ 0x02 ∷ 0x01 ∷ [] }

-- nominal, and channel 0 off
pub record Stuck (m : Machine) : Type 0 where
  pub nominal : mode_of m.board ≡ Nominal
  pub kept : m.board.memory ≡ defaults
  pub of : m.board.profile ≡ profile
  pub off : is_on 0 m ≡ false

-- a timer at 0 is far from every timeout
at_zero : (w : ℕ) → dog.watched_of 0 w ≡ NoEvent
at_zero zero = disabled 0 0 refl
at_zero (suc w) = early 0 (suc w) (omega arith) (omega arith) (omega arith)

-- the NOOP is accepted, and feeds the timer
accepts_noop : (rail : ℤ) (limits : Limits) (b : Board) → mode_of b ≡ Nominal → b.profile ≡ profile → commanded_of rail limits true fed.transfer b ≡ accepted_of 0x02 b
unfolding commanded_of transferred_of returning first checks_of checks header_differs id_wrong unavailable channel_codes channel_wrong checksum_wrong is_startup decode_of fewer_than_four header_is is_in listed carried codes.find codes.command_table run_of reported_of
accepts_noop rail limits b nominal of = rw (nominal, of)

-- the timer that it leaves is 0, so nothing happens
noop_watched : (b : Board) → watched_in (accepted_of 0x02 b) ≡ watched_as NoEvent (accepted_of 0x02 b)
unfolding watched_in accepted_of accepted_with
noop_watched b = rw (at_zero (dog.seconds_in_ticks (timeout_of b.memory)))

module _ (b : Board) (nominal : mode_of b ≡ Nominal) (kept : b.memory ≡ defaults) (of : b.profile ≡ profile) where
  -- the board after steps 1 to 3
  abbrev settled : Board
  settled = tripped_of 0 (changed_of (pos 20000) (limits_of b.memory) (risen_of [] b))

  -- the mode stays
  phase_is : settled.phase ≡ older_of b.phase
  unfolding tripped_of changed_of risen_of
  phase_is = nominal_step (older_of b.phase) (pos 20000) (limits_of b.memory) (older_mode b.phase ∙ nominal) ∙ rw (ap limits_of kept ∙ default_limits Distribution)

  -- so the mode is nominal
  mode_is : mode_of settled ≡ Nominal
  mode_is = ap (λ (s : ModeAge). s.mode) phase_is ∙ older_mode b.phase ∙ nominal

  -- the profile and the settings stay
  settled_profile : settled.profile ≡ profile
  unfolding tripped_of changed_of risen_of
  settled_profile = of

  settled_memory : settled.memory ≡ defaults
  unfolding tripped_of changed_of risen_of
  settled_memory = kept

  -- channel 0 is not named, and nominal that stays nominal leaves it
  settled_off : has b.channels.on 0 ≡ false → has settled.channels.on 0 ≡ false
  settled_off off =
      let fe : ForceEnabledBy b.profile 0 = subst (λ (p : Profile). ForceEnabledBy p 0) (sym of) zero_of in
      let next-is : (step_of (older_of b.phase) (pos 20000) (limits_of b.memory)).mode ≡ Nominal = ap (λ (s : ModeAge). s.mode) (sym (settled-phase-is 0 (pos 20000) 0 [] true fed.transfer b fe)) ∙ mode_is in
      ap (λ (s : small.State). s.on) (settled_seen 0 (pos 20000) 0 [] true fed.transfer b fe (has_none 0)) ∙ rw (next-is, nominal) off

  -- so the tick ends with the NOOP accepted
  ticking : tick_of (pos 20000) 0 [] true fed.transfer b ≡ watched_as NoEvent (accepted_of 0x02 settled)
  unfolding tick_of tick_with watched_in allowed_count
  ticking = ap watched_in (accepts_noop (pos 20000) (limits_of b.memory) settled mode_is settled_profile) ∙ noop_watched settled

-- ---- the stretch
module _ (m : Machine) (stuck : Stuck m) where
  -- the board that the NOOP finds
  abbrev rested : Board
  rested = settled m.board stuck.nominal stuck.kept stuck.of

  -- what the tick tells
  telling : told_of (pos 20000) 0 [] true fed.transfer m ≡ told_by (watched_as NoEvent (accepted_of 0x02 rested)) m.due
  unfolding told_of
  telling = ap (λ (t : Ticked). told_by t m.due) (ticking m.board stuck.nominal stuck.kept stuck.of)

  -- the machine is stuck as before
  still_stuck : Stuck (after_call m (tick fed))
  unfolding accepted_of accepted_with
  still_stuck =
      subst Stuck (sym (ap (λ (t : Told). t.machine) telling))
      (record {
        nominal = mode_is m.board stuck.nominal stuck.kept stuck.of;
        kept = settled_memory m.board stuck.nominal stuck.kept stuck.of;
        of = settled_profile m.board stuck.nominal stuck.kept stuck.of;
        off = settled_off m.board stuck.nominal stuck.kept stuck.of stuck.off;
      })

  -- and the tick meets every premise of the demand
  fed_undisturbed : Undisturbed m fed
  unfolding accepted_of accepted_with tells_reset tells_watchdog_reset tells_command_reset
  fed_undisturbed =
      record {
        no_reset = λ e. false≢true (rw (ap (λ (t : Told). t.event) telling, and-false) at e);
        no_change =
            ap (λ (t : Told). t.machine.board.memory.current) telling
            ∙ ap (λ (x : Memory). x.current) (settled_memory m.board stuck.nominal stuck.kept stuck.of ∙ sym stuck.kept);
        no_overcurrent = λ k fe. has_none k;
      }

-- so does each of n such ticks
stuck_ticks : (n : ℕ) (m : Machine) → Stuck m → EachTick Undisturbed m (replicate n (tick fed))
stuck_ticks zero m stuck = tt
stuck_ticks (suc n) m stuck = (λ e. fed_undisturbed m stuck, stuck_ticks n (after_call m (tick fed)) (still_stuck m stuck))

-- channel 0 is off at the end of each tick, whatever the board's number of words: none are lent
stuck_by : (number n : ℕ) (m : Machine) → Stuck m → channel after_call (is_tick number) (is_on 0) m (replicate n (tick fed)) ≡ replicate (suc n) false
unfolding allowed_count
stuck_by number zero m stuck = rw stuck.off
stuck_by number (suc n) m stuck = rw stuck.off (ap (λ (l : List Bool). false ∷ l) (stuck_by number n (after_call m (tick fed)) (still_stuck m stuck)))

stuck_line : (n : ℕ) (m : Machine) → Stuck m → channel_of 0 m (replicate n (tick fed)) ≡ replicate (suc n) false
stuck_line n m stuck = stuck_by (word_count m.board) n m stuck

-- that is n ticks and the state before them
off_for : (n most : ℕ) (m : Machine) → Stuck m → OffAtMost most (channel_of 0 m (replicate n (tick fed))) → suc n ≤ most
off_for n most m stuck h =
    omega (arith, h.shown [] (replicate (suc n) false) [] (stuck_line n m stuck ∙ sym (append-nil (replicate (suc n) false))) (all_off_lem (suc n)), length-replicate (suc n) false)

-- so after 60,000 ticks, and the state before them, the demand fails
too_long : (m : Machine) → Stuck m → Powered (limits m).linger (limits m).period (channel_of 0 m (replicate 60000 (tick fed))) → ⊥
too_long m stuck d = omega (arith, off_for 60000 (most_off (limits m).period) m stuck d.never_off_long, (numbers m).0)

-- the machine with the latch is stuck
latched_stuck : Stuck latched_off
unfolding fresh_of
latched_stuck = record { nominal = computed.latched_mode; kept = computed.latched_memory; of = after_profile before started ∙ ap (λ (b : Board). b.profile) started_is; off = computed.latched_off }

-- a latched channel stays off
pub unlatched : Fails (λ m. Reached m × AtLeastOne m) Undisturbed
unlatched =
    record {
      from = latched_off;
      start = (reached_by before, record { one = 0; is = forced_after before });
      calls = replicate 60000 (tick fed);
      met = stuck_ticks 60000 latched_off latched_stuck;
      k = 0;
      force_enabled = forced_after before;
      fails = too_long latched_off latched_stuck;
    }

-- a machine that was put into nominal by nobody: every channel is off, and none latched
abbrev made_up : Machine
made_up = record { board = with_phase (entered Nominal) (fresh_of profile empty_store never_reset); due = Nothing }

-- it is stuck as well
made_up_stuck : Stuck made_up
unfolding fresh_of loaded_from empty_store
made_up_stuck = record { nominal = refl; kept = refl; of = refl; off = ap (λ (x : Chan). x.on) (cleared_each 0 (omega arith)) }

-- its channel 0 is force-enabled
made_up_forced : ForceEnabled 0 made_up
unfolding fresh_of
made_up_forced = zero_of

-- and none of its channels is latched
made_up_unlatched : NoneLatched made_up
unfolding fresh_of
made_up_unlatched k fe = ap (λ (x : Chan). x.latched) (cleared_each k fe.a_channel)

-- a channel stays off that no run would leave so
pub reached : Fails (λ m. AtLeastOne m × NoneLatched m) Undisturbed
reached =
    record {
      from = made_up;
      start = (record { one = 0; is = made_up_forced }, made_up_unlatched);
      calls = replicate 60000 (tick fed);
      met = stuck_ticks 60000 made_up made_up_stuck;
      k = 0;
      force_enabled = made_up_forced;
      fails = too_long made_up made_up_stuck;
    }

-- the claim
pub power_needed : PowerNeeded
power_needed = record { no_reset = without_reset; no_overcurrent = without_overcurrent; none_latched = unlatched; reached = reached }
