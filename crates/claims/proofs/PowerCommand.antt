-- What the command step can do to the mode and to one force-enabled channel: it never turns the channel off, but by a
-- reset. Assumes nothing.
use Prim.Native.Nat.{ℕ}
use mathlib.Core.Path.{◌≡◌, refl, sym, ap, ◌∙◌}
use mathlib.Core.Bool.{true, false, cond, false≢true}
use mathlib.Core.Logic.{◌⊎◌, inl, inr, ⊎_elim}
use Rattle.std.specs.Prelude.{Option, Some, None}
use lib.IntN.{ℤ}
use Rattle.std.specs.Prelude.{Ok}
use Rattle.laws.proofs.Cases.{cases}
use Rattle.modes.specs.Table.{◌at_least◌}
use Rattle.modes.specs.Commands.{to_safety_from, to_safety, to_nominal_from, to_nominal, leaves}
use Rattle.modes.specs.declared.Mode.{Mode}
use Rattle.modes.specs.declared.Mode.TheVariants.{Startup, Nominal, Safety, Emergency}
use Rattle.modes.specs.declared.ModeAge.{ModeAge}
use Rattle.modes.specs.declared.Limits.{Limits}
use Rattle.channels.specs.Sets.{has}
use Rattle.channels.specs.Chan.{Chan, chan}
use Rattle.channels.specs.Operations.{on_and_cleared, off_and_latch_kept, all_off, forced_on, command_enabled_off}
use Rattle.channels.specs.declared.Channels.{Channels}
use Rattle.channels.proofs.Laws as of-channels
use Rattle.power.specs.Machine as small
use Rattle.command.specs.Decode.{Decoded}
use Rattle.command.specs.declared.Command.TheVariants.{SystemReset}
use Rattle.state.specs.Parts.{mode_of}
use Rattle.state.specs.Start.{command_reset_of}
use Rattle.change.specs.Change.{is_dark, from_nominal_to_safety, entering_of}
use Rattle.state.specs.declared.parts.Board.{Board}
use Rattle.state.specs.declared.parts.Profile.{Profile}
use Rattle.answers.specs.declared.Answer.TheVariants.{Accepted}
use Rattle.answers.specs.declared.Outcome.TheVariants.{Answered}
use Rattle.answers.specs.declared.Commanded.{Commanded}
use Rattle.asking.specs.Checks.{is_startup}
use Rattle.claims.specs.Power.{ForceEnabledBy}
use Rattle.claims.proofs.CommandStep.{Becomes, Stays, Changes, Does, idles, leaves_both, refuses, switches, cancels, to_safety_lem, to_nominal_lem, restarts}

-- ---- what can become of the mode and of channel k
-- the mode is as `next` says, and the channel stays
pub record Moved (k : ℕ) (next : ModeAge) (b c : Board) : Type 0 where
  pub phase : c.phase ≡ next
  pub on : has c.channels.on k ≡ has b.channels.on k
  pub latched : has c.channels.latched k ≡ has b.channels.latched k

-- in nominal the channel is switched on and its latch cleared
pub record Lit (k : ℕ) (b c : Board) : Type 0 where
  pub nominal : mode_of b ≡ Nominal
  pub phase : c.phase ≡ b.phase
  pub on : has c.channels.on k ≡ true
  pub unlatched : has c.channels.latched k ≡ false

-- in startup nothing happens, and else it goes by what is asked; or it is a reset
pub data DoesAt (k : ℕ) (rail : ℤ) (limits : Limits) (d : Decoded) (ask : small.Command) (b : Board) (c : Commanded) : Type 0 where
  idle : is_startup (mode_of b) ≡ true → Moved k b.phase b c.board → DoesAt k rail limits d ask b c
  left : ask ≡ small.other → Moved k b.phase b c.board → DoesAt k rail limits d ask b c
  switched : ask ≡ small.switch_on → Moved k b.phase b c.board ⊎ Lit k b c.board → DoesAt k rail limits d ask b c
  made_safe : ask ≡ small.switch_to_safety → Moved k (leaves (to_safety b.phase) b.phase) b c.board → DoesAt k rail limits d ask b c
  made_nominal : ask ≡ small.switch_to_nominal → Moved k (leaves (to_nominal b.phase rail limits) b.phase) b c.board → DoesAt k rail limits d ask b c
  restarted : d ≡ Ok SystemReset → c.outcome ≡ Answered Accepted → c.board ≡ command_reset_of b → DoesAt k rail limits d ask b c

-- what a change of mode does to one force-enabled channel
abbrev pub entered_one : Mode → Mode → Chan → Chan
entered_one before after ch = cond (small.is_lit after) (cond (small.is_lit before) ch (on_and_cleared ch)) (off_and_latch_kept ch)

module _ (p : Profile) (k : ℕ) (fe : ForceEnabledBy p k) (s : Channels) where
  -- when a dark mode is left it comes on, with no latch
  forced_on_lem : chan (forced_on p.fitted p.forced s) k ≡ on_and_cleared (chan s k)
  forced_on_lem = of-channels.each p.fitted p.forced of-channels.forced_come_on s k fe.a_channel ∙ rw (fe.fitted, fe.forced)

  -- in a dark mode it is off, its latch kept
  all_off_lem : chan (all_off s) k ≡ off_and_latch_kept (chan s k)
  all_off_lem = of-channels.each p.fitted p.forced of-channels.emergency_entered s k fe.a_channel

  -- from nominal to safety, and by 0x04, only the others go off
  others_off : chan (command_enabled_off p.fitted p.forced s) k ≡ chan s k
  others_off = of-channels.command_untouched p.fitted p.forced of-channels.turn_command_enabled_off s k fe.a_channel (rw (fe.fitted, fe.forced))

  -- by the mode before and the mode after
  pub entering : (before after : Mode) → chan (entering_of before after p s) k ≡ entered_one before after (chan s k)
  unfolding entering_of is_dark from_nominal_to_safety
  entering before Startup = all_off_lem
  entering before Emergency = all_off_lem
  entering Startup Nominal = forced_on_lem
  entering Startup Safety = forced_on_lem
  entering Emergency Nominal = forced_on_lem
  entering Emergency Safety = forced_on_lem
  entering Nominal Nominal = refl
  entering Nominal Safety = others_off
  entering Safety Nominal = refl
  entering Safety Safety = refl

  -- a command on the channels leaves it, or switches it on and clears its latch
  commanding : (o : of-channels.Command) → (chan (of-channels.obeyed p.fitted p.forced o s) k ≡ chan s k) ⊎ (chan (of-channels.obeyed p.fitted p.forced o s) k ≡ on_and_cleared (chan s k))
  commanding o = cases (of-channels.meant_for p.fitted p.forced o k) (λ e. inr (one ∙ meant o e)) (λ e. inl (of-channels.command_untouched p.fitted p.forced o s k fe.a_channel e))
    where
      one : chan (of-channels.obeyed p.fitted p.forced o s) k ≡ of-channels.obeyed_one p.fitted p.forced o k (chan s k)
      one = of-channels.each p.fitted p.forced (of-channels.commanded o) s k fe.a_channel

      meant : (o : of-channels.Command) → of-channels.meant_for p.fitted p.forced o k ≡ true → of-channels.obeyed_one p.fitted p.forced o k (chan s k) ≡ on_and_cleared (chan s k)
      meant (of-channels.turn_group_on spoken mask) e = rw e
      meant (of-channels.turn_group_off spoken mask) e = absurd (false≢true (rw (fe.fitted, fe.forced) at e))
      meant (of-channels.set_group_state spoken mask) e = rw (fe.fitted, fe.forced, rw (fe.fitted, fe.forced) at e)
      meant (of-channels.turn_on one) e = rw (fe.fitted, rw fe.fitted at e)
      meant (of-channels.turn_off one) e = absurd (false≢true (rw (fe.fitted, fe.forced) at e))
      meant of-channels.turn_command_enabled_off e = absurd (false≢true (rw (fe.fitted, fe.forced) at e))

-- ---- 0x30 and 0x32 lead from a lit mode to a lit one, if anywhere
module _ (s : ModeAge) where
  -- where a change is accepted, the mode was lit and is lit
  abbrev pub BothLit : Option ModeAge → Type 0
  BothLit (Some next) = (small.is_lit s.mode ≡ true) × (small.is_lit next.mode ≡ true)
  BothLit None = Unit {0}

  -- 0x32 is accepted in nominal and safety alone
  safety_lit : (m : Mode) → s.mode ≡ m → BothLit (to_safety_from m s)
  safety_lit Startup e = tt
  safety_lit Nominal e = (rw e, refl)
  safety_lit Safety e = (rw e, rw e)
  safety_lit Emergency e = tt

  -- of any phase
  pub to_safety_lit : BothLit (to_safety s)
  unfolding to_safety
  to_safety_lit = safety_lit s.mode refl

  -- 0x30 is accepted in nominal, and in safety by the rail
  nominal_lit : (m : Mode) (rail : ℤ) (limits : Limits) → s.mode ≡ m → BothLit (to_nominal_from m s rail limits)
  nominal_lit Startup rail limits e = tt
  nominal_lit Nominal rail limits e = (rw e, rw e)
  nominal_lit Safety rail limits e = cases (rail at_least limits.safety_low) (λ d. rw d (rw e, refl)) (λ d. rw d tt)
  nominal_lit Emergency rail limits e = tt

  -- of any phase
  pub to_nominal_lit : (rail : ℤ) (limits : Limits) → BothLit (to_nominal s rail limits)
  unfolding to_nominal
  to_nominal_lit rail limits = nominal_lit s.mode rail limits refl

  -- so neither command leads into the dark or out of it
  pub stays_lit : (x : Option ModeAge) → BothLit x → small.is_lit (leaves x s).mode ≡ small.is_lit s.mode
  stays_lit (Some next) lit = lit.1 ∙ sym lit.0
  stays_lit None lit = refl

-- ---- the step at channel k
module _ (k : ℕ) (b : Board) (fe : ForceEnabledBy b.profile k) where
  -- channels in which channel k is as it was
  moved : (next : ModeAge) (s : Channels) (c : Board) → Becomes next s c → chan s k ≡ chan b.channels k → Moved k next b c
  moved next s c q e =
      record {
        phase = q.phase;
        on = ap (λ (x : Channels). has x.on k) q.channels ∙ ap (λ (x : Chan). x.on) e;
        latched = ap (λ (x : Channels). has x.latched k) q.channels ∙ ap (λ (x : Chan). x.latched) e;
      }

  -- channels in which channel k was switched on
  lighted : (s : Channels) (c : Board) → mode_of b ≡ Nominal → Becomes b.phase s c → chan s k ≡ on_and_cleared (chan b.channels k) → Lit k b c
  lighted s c n q e =
      record {
        nominal = n;
        phase = q.phase;
        on = ap (λ (x : Channels). has x.on k) q.channels ∙ ap (λ (x : Chan). x.on) e;
        unlatched = ap (λ (x : Channels). has x.latched k) q.channels ∙ ap (λ (x : Chan). x.latched) e;
      }

  -- nothing moved at all
  stays : (c : Board) → Stays b c → Moved k b.phase b c
  stays c q = moved b.phase b.channels c q refl

  -- a change between lit modes leaves the channel
  changed : (x : Option ModeAge) (c : Board) → BothLit b.phase x → Changes x b c → Moved k (leaves x b.phase) b c
  changed (Some next) c lit q = moved next _ c q (entering b.profile k fe b.channels (mode_of b) next.mode ∙ rw (lit.0, lit.1))
  changed None c lit q = stays c q

  -- the law of the command step, at channel k
  pub at_channel : (rail : ℤ) (limits : Limits) (d : Decoded) (ask : small.Command) (c : Commanded) → Does rail limits d ask b c → DoesAt k rail limits d ask b c
  at_channel rail limits d ask c (idles e q) = idle e (stays c.board q)
  at_channel rail limits d ask c (leaves_both e q) = left e (stays c.board q)
  at_channel rail limits d ask c (refuses e q) = switched e (inl (stays c.board q))
  at_channel rail limits d ask c (switches e n o q) =
      switched e
      (⊎_elim
      (λ (w : chan (of-channels.obeyed b.profile.fitted b.profile.forced o b.channels) k ≡ chan b.channels k). inl (moved b.phase _ c.board q w))
      (λ (w : chan (of-channels.obeyed b.profile.fitted b.profile.forced o b.channels) k ≡ on_and_cleared (chan b.channels k)). inr (lighted _ c.board n q w))
      (commanding b.profile k fe b.channels o))
  at_channel rail limits d ask c (cancels e q) = left e (moved b.phase _ c.board q (others_off b.profile k fe b.channels))
  at_channel rail limits d ask c (to_safety_lem e q) = made_safe e (changed (to_safety b.phase) c.board (to_safety_lit b.phase) q)
  at_channel rail limits d ask c (to_nominal_lem e q) = made_nominal e (changed (to_nominal b.phase rail limits) c.board (to_nominal_lit b.phase rail limits) q)
  at_channel rail limits d ask c (restarts e o r) = restarted e o r
