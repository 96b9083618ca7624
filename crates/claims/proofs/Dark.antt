-- On a machine that can be reached no channel is on in startup or emergency. Assumes nothing.
use Prim.Native.Nat.{ℕ, ◌<◌}
use mathlib.Core.Path.{◌≡◌, refl, ap, ◌∙◌}
use mathlib.Core.Bool.{Bool, true, false, cond, and-false, false≢true}
use mathlib.Core.List.{List}
use Rattle.memory.specs.Memory.{Store}
use Rattle.std.specs.Prelude.{Option, Some, None}
use lib.IntN.{ℤ}
use Rattle.modes.specs.declared.ModeAge.{ModeAge}
use Rattle.modes.specs.Table.{step_of, older_of}
use Rattle.modes.specs.Commands.{to_safety, to_nominal}
use Rattle.modes.specs.declared.Mode.{Mode}
use Rattle.modes.specs.declared.Mode.TheVariants.{Nominal}
use Rattle.modes.specs.declared.Limits.{Limits}
use Rattle.command.specs.Decode.{Decoded}
use Rattle.channels.specs.Sets.{has}
use Rattle.channels.specs.Chan.{Chan, chan}
use Rattle.channels.specs.Operations.{off_and_latch_kept, overcurrent_one, command_enabled}
use Rattle.channels.specs.declared.Channels.{Channels}
use Rattle.channels.proofs.Laws as of-channels
use Rattle.power.specs.Machine as small
use Rattle.memory.specs.Limits.{limits_of}
use Rattle.state.specs.Parts.{mode_of, word_count}
use Rattle.state.specs.Start.{fresh_of, never_reset, command_reset_of, watchdog_reset_of}
use Rattle.change.specs.Change.{is_dark, entering_of}
use Rattle.state.specs.declared.parts.Board.{Board}
use Rattle.state.specs.declared.parts.Profile.{Profile}
use Rattle.state.specs.declared.parts.Resets.{Resets}
use Rattle.answers.specs.declared.Commanded.{Commanded}
use Rattle.commands.specs.Step.{commanded_of}
use Rattle.board.specs.Tick.{risen_of, changed_of, tripped_of}
use Rattle.unit.specs.Machine.{told_of}
use Rattle.unit.specs.declared.Machine.{Machine}
use Rattle.unit.specs.Runs.{Sample, told, tick, Reached}
use Rattle.claims.specs.Power.{is_tick}
use Rattle.claims.specs.Dark.{OffInTheDark, Dark}
use Rattle.claims.proofs.CommandStep.{Becomes, Stays, Changes, obeying, Does, idles, leaves_both, refuses, switches, cancels, to_safety_lem, to_nominal_lem, restarts, step}
use Rattle.claims.proofs.Calls.{by_tick, by_reach}

module _ (k : ℕ) (h : k < 32) where
  -- a start and a reset
  fresh_off : (p : Profile) (store : Store) (resets : Resets) → OffInTheDark k (fresh_of p store resets)
  unfolding fresh_of
  fresh_off p store resets e = ap (λ (x : Chan). x.on) (of-channels.cleared_each k h)

  -- a mode that is dark turns every channel off
  entering_off : (before next : Mode) (p : Profile) (s : Channels) → is_dark next ≡ true → has (entering_of before next p s).on k ≡ false
  unfolding entering_of
  entering_off before next p s dark = rw dark (ap (λ (x : Chan). x.on) (of-channels.each p.fitted p.forced of-channels.emergency_entered s k h))

  -- ---- step 4
  -- where mode and channels stay, so does this
  stays : (b c : Board) → Stays b c → OffInTheDark k b → OffInTheDark k c
  stays b c q w = rw (q.phase, q.channels) w

  -- a change of mode that leads into the dark turns every channel off
  changed : (x : Option ModeAge) (b c : Board) → Changes x b c → OffInTheDark k b → OffInTheDark k c
  changed (Some next) b c q w = rw (q.phase, q.channels) (λ d. entering_off (mode_of b) next.mode b.profile b.channels d)
  changed None b c q w = stays b c q w

  -- 0x04 turns no channel on
  still_off : (enabled : Bool) (x : Chan) → x.on ≡ false → (cond enabled (off_and_latch_kept x) x).on ≡ false
  still_off true x e = refl
  still_off false x e = e

  -- so a channel that is off stays off by it
  cancelled : (b c : Board) → Becomes b.phase (obeying of-channels.turn_command_enabled_off b) c → OffInTheDark k b → OffInTheDark k c
  cancelled b c q w =
      rw (q.phase, q.channels)
      (λ d.
      ap (λ (x : Chan). x.on) (of-channels.each b.profile.fitted b.profile.forced (of-channels.commanded of-channels.turn_command_enabled_off) b.channels k h)
      ∙ still_off (command_enabled (has b.profile.fitted k) (has b.profile.forced k)) (chan b.channels k) (w d))

  -- nominal is not dark
  lit : (b c : Board) (s : Channels) → mode_of b ≡ Nominal → Becomes b.phase s c → OffInTheDark k c
  unfolding is_dark
  lit b c s n q = rw (q.phase, n) (λ d. absurd (false≢true d))

  -- whatever the step does
  done : (rail : ℤ) (limits : Limits) (d : Decoded) (ask : small.Command) (b : Board) (c : Commanded) → Does rail limits d ask b c → OffInTheDark k b → OffInTheDark k c.board
  unfolding command_reset_of
  done rail limits d ask b c (idles e q) w = stays b c.board q w
  done rail limits d ask b c (leaves_both e q) w = stays b c.board q w
  done rail limits d ask b c (refuses e q) w = stays b c.board q w
  done rail limits d ask b c (switches e n o q) w = lit b c.board _ n q
  done rail limits d ask b c (cancels e q) w = cancelled b c.board q w
  done rail limits d ask b c (to_safety_lem e q) w = changed (to_safety b.phase) b c.board q w
  done rail limits d ask b c (to_nominal_lem e q) w = changed (to_nominal b.phase rail limits) b c.board q w
  done rail limits d ask b c (restarts e o r) w = rw r (fresh_off _ _ _)

  -- the whole step
  commanded : (rail : ℤ) (limits : Limits) (sent : Bool) (s : List ℕ) (b : Board) → OffInTheDark k b → OffInTheDark k (commanded_of rail limits sent s b).board
  commanded rail limits sent s b = done rail limits _ _ b _ (step rail limits b s sent)

  -- ---- steps 1 to 3, whatever the board was, and the tick
  untripped : (named : Bool) (x : Chan) → x.on ≡ false → (overcurrent_one named x).on ≡ false
  untripped named x e = rw (e, and-false named)

  -- the mode that the table leads to decides
  settled_off : (limits : Limits) (rail : ℤ) (named : ℕ) (words : List ℕ) (b : Board) → OffInTheDark k (tripped_of named (changed_of rail limits (risen_of words b)))
  unfolding tripped_of changed_of risen_of
  settled_off limits rail named words b d =
      let entered = entering_of (older_of b.phase).mode (step_of (older_of b.phase) rail limits).mode b.profile b.channels in
      ap (λ (x : Chan). x.on) (of-channels.each b.profile.fitted b.profile.forced (of-channels.overcurrent named) entered k h)
      ∙ untripped (has named k) (chan entered k) (entering_off (older_of b.phase).mode (step_of (older_of b.phase) rail limits).mode b.profile b.channels d)

  -- the whole tick
  pub after_a_tick : (m : Machine) (i : Sample) → is_tick (word_count m.board) (tick i) ≡ true → OffInTheDark k (told m i).machine.board
  unfolding told_of watchdog_reset_of
  after_a_tick m i happens =
      by_tick i.rail i.named i.words i.sent i.transfer m.board (OffInTheDark k) happens
      (commanded i.rail (limits_of m.board.memory) i.sent i.transfer _ (settled_off (limits_of m.board.memory) i.rail i.named i.words m.board))
      (fresh_off _ _ _)

  -- every machine that can be reached
  reached : (m : Machine) → Reached m → OffInTheDark k m.board
  reached m r = by_reach (OffInTheDark k) (λ profile store. fresh_off profile store never_reset) (λ form b w. w) (λ x i happens w. after_a_tick x i happens) m r

-- the claim
pub dark : Dark
dark = record { after_a_tick = after_a_tick; reached = reached }
