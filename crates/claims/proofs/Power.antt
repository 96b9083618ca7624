-- Demand 3 on the board: each force-enabled channel is the small machine's, tick by tick, so both claims are inherited.
-- Assumes nothing.
use Prim.Native.Nat.{ℕ}
use lib.IntN.{ℤ, pos}
use mathlib.Core.Path.{◌≡◌, refl, sym, ap, ◌∙◌, subst}
use mathlib.Core.Bool.{Bool, true, false, cond, false≢true}
use mathlib.Core.List.{List, [], ◌∷◌}
use native.Mathlib.Omega.{arith}
use Rattle.laws.proofs.Cases.{cases}
use Rattle.kinds.specs.Kinds.{board_of}
use Rattle.watchdog.specs.Watchdog.{seconds_in_ticks}
use Rattle.watchdog.specs.declared.Event.TheVariants.{WatchdogReset}
use Rattle.power.specs.Runs.{channel}
use Rattle.power.specs.Claim.{most_off, least_on, Powered}
use Rattle.power.specs.Machine as small
use Rattle.power.specs.Machine.{is_lit}
use Rattle.power.proofs.Step.{good}
use Rattle.power.proofs.Theorem as of-small
use Rattle.power.proofs.Simulation.{Simulates, inputs, same_channel, inherits}
use Rattle.command.specs.Decode.{decode_of}
use Rattle.memory.specs.Limits.{linger, emergency_period, limits_of}
use Rattle.memory.specs.declared.Memory.{Memory}
use Rattle.state.specs.Parts.{mode_of, word_count}
use Rattle.state.specs.Start.{fresh_of, command_reset_of}
use Rattle.state.specs.declared.parts.Board.{Board}
use Rattle.state.specs.declared.parts.Profile.{Profile}
use Rattle.unit.specs.Machine.{told_of}
use Rattle.unit.specs.declared.Machine.{Machine}
use Rattle.groups.specs.Resets.{tells_watchdog_reset, tells_reset, starts_over}
use Rattle.groups.proofs.Resets.{reset_is_told}
use Rattle.unit.specs.Runs.{Sample, told, Call, tick, line, after_call, Reached, happens}
use Rattle.claims.specs.Power.{ForceEnabledBy, ForceEnabled, is_tick, channel_of, Resets, Undisturbed, AtTicks, EachTick, limits, Power}
use Rattle.claims.specs.PowerOfOne.{Spared, Unlatched, Lasts, PowerOfOne}
use Rattle.claims.proofs.Calls.{rests}
use Rattle.claims.proofs.Profiles.{call_profile}
use Rattle.claims.proofs.CommandStep.{asked}
use Rattle.claims.proofs.PowerTick.{seen, tick_seen}
use Rattle.claims.proofs.Standing.{standing}

-- ---- the small machine in the large one
-- linger and the emergency period are the same on every board
abbrev pub times : small.Times
times = record { linger = seconds_in_ticks linger; period = seconds_in_ticks emergency_period }

-- what a tick is to the small machine; what stands for a read of the text line is never looked at
abbrev brings : Memory → ℤ → small.Command → small.Input
brings memory rail command =
    let own = limits_of memory in
    record {
      rail = rail;
      safety_low = own.safety_low;
      safety_high = own.safety_high;
      emergency_low = own.emergency_low;
      emergency_high = own.emergency_high;
      command = command;
    }

-- by the call: the rail, and what the transfer asks for
abbrev pub input : Machine → Call → small.Input
input m (tick i) = brings m.board.memory i.rail (cond i.sent (asked (decode_of m.board.profile.kind m.board.profile.bid false i.transfer)) small.other)
input m (line received room) = brings m.board.memory (pos 0) small.other

-- what the small machine sees of channel k
abbrev pub small_of : ℕ → Machine → small.State
small_of k m = seen k m.board

-- channel k is force-enabled, and in step with the mode, on a board with that number of words
pub record InTouch (k number : ℕ) (m : Machine) : Type 0 where
  pub force_enabled : ForceEnabled k m
  pub has_number : word_count m.board ≡ number
  pub in_step : small.InStep (small_of k m)

-- a reset is told, by the watchdog and by a command
told_by_watchdog : (m : Machine) (i : Sample) → (told m i).event ≡ WatchdogReset → Resets m i
unfolding tells_reset tells_watchdog_reset
told_by_watchdog m i w = rw w refl

starts_over_lem : (b : Board) → starts_over (command_reset_of b) ≡ true
unfolding command_reset_of fresh_of
starts_over_lem b = refl

told_by_command : (m : Machine) (i : Sample) (b : Board) → happens (word_count m.board) i ≡ true → (told m i).machine.board ≡ command_reset_of b → Resets m i
told_by_command m i b e q = (reset_is_told m i).exactly e ∙ ap starts_over q ∙ starts_over_lem b

module _ (k number : ℕ) where
  -- a tick that spares channel k is a tick of the small machine
  ticks : (m : Machine) (call : Call) → InTouch k number m → AtTicks (Spared k) m call → is_tick number call ≡ true → small_of k (after_call m call) ≡ small.tick times (small_of k m) (input m call)
  unfolding told_of limits_of small.tick
  ticks m (tick i) h a e =
      let happening : happens (word_count m.board) i ≡ true = rw h.has_number e in
      let spared = a happening in
      tick_seen k i.rail i.named i.words i.sent i.transfer m.board h.force_enabled happening h.in_step spared.no_overcurrent
      (λ w. spared.no_reset (told_by_watchdog m i w)) (λ q. spared.no_reset (told_by_command m i _ happening q))
  ticks m (line received room) h a e = absurd (false≢true e)

  -- a call that is no tick does nothing to it
  unchanged : (m : Machine) (call : Call) → InTouch k number m → is_tick number call ≡ false → small_of k (after_call m call) ≡ small_of k m
  unchanged m call h e = ap (seen k) (rests m call (rw h.has_number e)).is

  -- so the channel stays in touch
  kept : (m : Machine) (call : Call) → InTouch k number m → AtTicks (Spared k) m call → InTouch k number (after_call m call)
  kept m call h a =
      record {
        force_enabled = subst (λ (p : Profile). ForceEnabledBy p k) (sym (call_profile m call)) h.force_enabled;
        has_number = ap (λ (p : Profile). (board_of p.kind).words) (call_profile m call) ∙ h.has_number;
        in_step =
            cases (is_tick number call)
            (λ e. subst small.InStep (sym (ticks m call h a e)) (good times (omega arith) (small_of k m) (input m call) h.in_step).in_step)
            (λ e. subst small.InStep (sym (unchanged m call h e)) h.in_step);
      }

  -- the small machine is simulated
  simulates : Simulates after_call (is_tick number) (small.tick times) (InTouch k number) (AtTicks (Spared k)) (small_of k) input
  simulates = record { kept = kept; ticks = ticks; rests = unchanged }

-- in touch by the board's own number
abbrev pub Touched : ℕ → Machine → Type 0
Touched k m = InTouch k (word_count m.board) m

module _ (k : ℕ) where
  -- a reached machine is in touch where no latch keeps the channel off
  pub in_touch : (m : Machine) → Reached m → ForceEnabled k m → Unlatched k m → Touched k m
  in_touch m r fe u =
      record { force_enabled = fe; has_number = refl; in_step = standing k m r fe ∙ cases (is_lit (mode_of m.board)) (λ e. rw (u e, e)) (λ e. rw e) }

  -- and its claim is inherited
  powered_from : (m : Machine) → Touched k m → (calls : List Call) → EachTick (Spared k) m calls → Powered times.linger times.period (channel_of k m calls)
  powered_from m h calls a =
      let number = word_count m.board in
      inherits after_call (is_tick number) (small.tick times) (InTouch k number) (AtTicks (Spared k)) (small_of k) input (simulates k number) (λ x. x.on)
      (Powered times.linger times.period) m (λ is. of-small.with_before times (omega arith) (small_of k m) h.in_step is) h calls a

  -- the channel is the small machine's
  pub same_line : (m : Machine) → Touched k m → (calls : List Call) → EachTick (Spared k) m calls
      → channel_of k m calls ≡ channel (small.tick times) (λ i. true) (λ x. x.on) (small_of k m) (inputs after_call (is_tick (word_count m.board)) input m calls)
  same_line m h calls a =
      let number = word_count m.board in
      same_channel after_call (is_tick number) (small.tick times) (InTouch k number) (AtTicks (Spared k)) (small_of k) input (simulates k number) (λ x. x.on) m h calls a

-- ---- the claims
-- two channels in step with one mode are the same to the small machine
alike : (j k : ℕ) (m : Machine) → Touched j m → Touched k m → small_of j m ≡ small_of k m
alike j k m g h = ap (λ (o : Bool). record { phase = m.board.phase; on = o }) (g.in_step ∙ sym h.in_step)

-- so they have one list
together : (j k : ℕ) (m : Machine) → Touched j m → Touched k m → (calls : List Call) → EachTick (Spared j) m calls → EachTick (Spared k) m calls → channel_of j m calls ≡ channel_of k m calls
together j k m g h calls a b =
    same_line j m g calls a
    ∙ ap (λ (s : small.State). channel (small.tick times) (λ i. true) (λ x. x.on) s (inputs after_call (is_tick (word_count m.board)) input m calls)) (alike j k m g h)
    ∙ sym (same_line k m h calls b)

-- the numbers of the claim are no better than those shown
lasts : (k : ℕ) (m : Machine) → Touched k m → (calls : List Call) → EachTick (Spared k) m calls → Lasts k m calls
unfolding limits_of
lasts k m h calls a =
    let p = powered_from k m h calls a in
    record {
      powered = of-small.looser times.linger _ times.period _ (omega arith) (omega arith) p;
      powered_by_ends = of-small.looser times.linger _ times.period _ (omega arith) (omega arith) (of-small.without_first p);
    }

-- the claim for one channel
pub power_of_one : PowerOfOne
power_of_one =
    record {
      lasts = λ k m r fe u calls a. lasts k m (in_touch k m r fe u) calls a;
      together = λ j k m r fj fk uj uk calls a b. together j k m (in_touch j m r fj uj) (in_touch k m r fk uk) calls a b;
    }

-- a stretch that disturbs no force-enabled channel spares each of them
pub spares_each : (k : ℕ) (calls : List Call) (m : Machine) → ForceEnabled k m → EachTick Undisturbed m calls → EachTick (Spared k) m calls
spares_each k [] m fe a = tt
spares_each k (call ∷ calls) m fe a = (one call a.0, spares_each k calls (after_call m call) (subst (λ (p : Profile). ForceEnabledBy p k) (sym (call_profile m call)) fe) a.1)
  where
    one : (call : Call) → AtTicks Undisturbed m call → AtTicks (Spared k) m call
    one (tick i) a = λ e. record { no_reset = (a e).no_reset; no_overcurrent = (a e).no_overcurrent k fe }
    one (line received room) a = tt

-- the demand
pub power : Power
power m r some unlatched calls a =
    record {
      powered = λ k fe. (power_of_one.lasts k m r fe (λ e. unlatched k fe) calls (spares_each k calls m fe a)).powered;
      powered_by_ends = λ k fe. (power_of_one.lasts k m r fe (λ e. unlatched k fe) calls (spares_each k calls m fe a)).powered_by_ends;
      together = λ j k fj fk. power_of_one.together j k m r fj fk (λ e. unlatched j fj) (λ e. unlatched k fk) calls (spares_each j calls m fj a) (spares_each k calls m fk a);
    }

-- the two numbers, on every board
pub numbers : (m : Machine) → (most_off (limits m).period ≡ 60000) × (least_on (limits m).linger ≡ 6001)
unfolding limits_of
numbers m = (refl, refl)
