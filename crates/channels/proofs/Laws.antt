-- What follows for a caller: each operation at one channel, which channels it leaves alone, that it turns off no forced
-- channel, that only overcurrent counts, and that a channel which is not fitted stays dark. Each law is stated once,
-- over all that can happen to the channels short of a reset. Assumes nothing.
use mathlib.Core.Path.{◌≡◌, refl, sym, ap, ◌∙◌}
use mathlib.Core.Bool.{Bool, true, false, cond, not, ◌&&◌, ◌||◌, and-true, and-false, false≢true}
use Prim.Native.Nat.{ℕ, ◌+◌, ◌^◌, ◌<◌, min}
use native.Mathlib.Omega.{arith}
use borrow.Author.Tests.{eqb-true, le-ltb}
use lib.Dec.{eqb, ltb}
use lib.ListN.{get_or}
use Rattle.laws.proofs.Cases.{cases}
use Rattle.channels.specs.Sets.{has, is_within}
use Rattle.channels.specs.Chan.{Chan, chan, whole}
use Rattle.channels.specs.Operations.{command_enabled, force_enabled, on_and_cleared, off_and_cleared, off_and_latch_kept, overcurrent_one, group_on_one, group_off_one, group_state_one, command_enabled_off_one, forced_on_one, overcurrent_at, group_on, group_off, group_state, switch_on, switch_off, command_enabled_off, all_off, forced_on, clear_one, cleared, wrong_to_switch_on, wrong_to_switch_off}
use Rattle.channels.specs.declared.Channels.{Channels}
use Rattle.channels.proofs.Sets.{ext, has_none, within_each, is_list_of}
use Rattle.channels.proofs.Whole.{Held, whole_held, chan_whole, same_channels}

-- a command's work on the channels: 0x10, 0x12, 0x14 with the channels spoken of and the mask, 0x16 and 0x18 with the
-- channel, and 0x04
pub data Command : Type 0 where
  turn_group_on : ℕ → ℕ → Command
  turn_group_off : ℕ → ℕ → Command
  set_group_state : ℕ → ℕ → Command
  turn_on : ℕ → Command
  turn_off : ℕ → Command
  turn_command_enabled_off : Command

-- a command, the entry of emergency, startup or emergency left by the table, or an overcurrent of the channels named
pub data Event : Type 0 where
  commanded : Command → Event
  emergency_entered : Event
  forced_come_on : Event
  overcurrent : ℕ → Event

-- a channel that 0x14 does not speak of, that is not fitted, or that is forced and not in the mask
state_untouched : (f g s m : Bool) (ch : Chan) → (f && s && (not g || m)) ≡ false → group_state_one f g s m ch ≡ ch
state_untouched false g s m ch e = refl
state_untouched true g false m ch e = simp and-false
state_untouched true true true false ch e = refl
state_untouched true true true true ch e = absurd (false≢true (sym e))
state_untouched true false true m ch e = absurd (false≢true (sym e))

-- none of the 32 channels is the one that refusal 7 is about: it is above 31, or p does not hold of it
none_is : (p : ℕ → Bool) (one c : ℕ) → c < 32 → (ltb 31 one || not (p one)) ≡ true → (p c && eqb c one) ≡ false
none_is p one c h w =
    cases (eqb c one)
    (λ a.
    let q : c ≡ one = eqb-true c one a in
    let l : ltb 31 one ≡ false = le-ltb 31 one (omega arith) in
    let n : not (p one) ≡ true = rw l at w in
    cases (p one) (λ b. absurd (false≢true (rw b at n))) (λ b. rw (q, b) refl))
    (λ a. rw a (and-false (p c)))

-- not fitted or forced is not command-enabled
not_enabled : (above f g : Bool) → (above || not f || g) ≡ true → (above || not (f && not g)) ≡ true
not_enabled true f g e = refl
not_enabled false true true e = refl
not_enabled false true false e = e
not_enabled false false g e = refl

-- off and not latched
pub record Dark (ch : Chan) : Type 0 where
  pub off : ch.on ≡ false
  pub unlatched : ch.latched ≡ false

-- a choice between two channels with one count has that count
either : (b : Bool) (x y : Chan) → x.count ≡ y.count → (cond b x y).count ≡ y.count
either true x y e = e
either false x y e = refl

module _ (fitted forced : ℕ) where
  abbrev pub obeyed : Command → Channels → Channels
  obeyed (turn_group_on spoken mask) s = group_on fitted spoken mask s
  obeyed (turn_group_off spoken mask) s = group_off fitted forced spoken mask s
  obeyed (set_group_state spoken mask) s = group_state fitted forced spoken mask s
  obeyed (turn_on one) s = switch_on fitted one s
  obeyed (turn_off one) s = switch_off fitted forced one s
  obeyed turn_command_enabled_off s = command_enabled_off fitted forced s

  abbrev pub after : Event → Channels → Channels
  after (commanded o) s = obeyed o s
  after emergency_entered s = all_off s
  after forced_come_on s = forced_on fitted forced s
  after (overcurrent named) s = overcurrent_at named s

  -- the same, for channel c alone
  abbrev pub obeyed_one : Command → ℕ → Chan → Chan
  obeyed_one (turn_group_on spoken mask) c ch = group_on_one (has fitted c) (has spoken c) (has mask c) ch
  obeyed_one (turn_group_off spoken mask) c ch = group_off_one (has fitted c) (has forced c) (has spoken c) (has mask c) ch
  obeyed_one (set_group_state spoken mask) c ch = group_state_one (has fitted c) (has forced c) (has spoken c) (has mask c) ch
  obeyed_one (turn_on one) c ch = group_on_one (has fitted c) true (eqb c one) ch
  obeyed_one (turn_off one) c ch = group_off_one (has fitted c) (has forced c) true (eqb c one) ch
  obeyed_one turn_command_enabled_off c ch = command_enabled_off_one (has fitted c) (has forced c) ch

  abbrev pub after_one : Event → ℕ → Chan → Chan
  after_one (commanded o) c ch = obeyed_one o c ch
  after_one emergency_entered c ch = off_and_latch_kept ch
  after_one forced_come_on c ch = forced_on_one (has fitted c) (has forced c) ch
  after_one (overcurrent named) c ch = overcurrent_one (has named c) ch

  obeyed_whole : (o : Command) (s : Channels) → obeyed o s ≡ whole (λ c. obeyed_one o c (chan s c))
  unfolding group_on group_off group_state switch_on switch_off command_enabled_off
  obeyed_whole (turn_group_on spoken mask) s = refl
  obeyed_whole (turn_group_off spoken mask) s = refl
  obeyed_whole (set_group_state spoken mask) s = refl
  obeyed_whole (turn_on one) s = refl
  obeyed_whole (turn_off one) s = refl
  obeyed_whole turn_command_enabled_off s = refl

  pub after_whole : (e : Event) (s : Channels) → after e s ≡ whole (λ c. after_one e c (chan s c))
  unfolding all_off forced_on overcurrent_at
  after_whole (commanded o) s = obeyed_whole o s
  after_whole emergency_entered s = refl
  after_whole forced_come_on s = refl
  after_whole (overcurrent named) s = refl

  -- ---- every event leaves 32 channels, and is known at each of them
  pub after_held : (e : Event) (s : Channels) → Held (after e s)
  after_held e s = rw (after_whole e s) (whole_held _)

  pub each : (e : Event) (s : Channels) (c : ℕ) → c < 32 → chan (after e s) c ≡ after_one e c (chan s c)
  each e s c h = ap (λ (x : Channels). chan x c) (after_whole e s) ∙ chan_whole (λ k. after_one e k (chan s k)) c h

  -- ---- no event alters a channel that it is not meant for
  abbrev pub meant_for : Command → ℕ → Bool
  meant_for (turn_group_on spoken mask) c = has fitted c && has spoken c && has mask c
  meant_for (turn_group_off spoken mask) c = command_enabled (has fitted c) (has forced c) && has spoken c && has mask c
  meant_for (set_group_state spoken mask) c = has fitted c && has spoken c && (not (has forced c) || has mask c)
  meant_for (turn_on one) c = has fitted c && eqb c one
  meant_for (turn_off one) c = command_enabled (has fitted c) (has forced c) && eqb c one
  meant_for turn_command_enabled_off c = command_enabled (has fitted c) (has forced c)

  pub command_untouched : (o : Command) (s : Channels) (c : ℕ) → c < 32 → meant_for o c ≡ false → chan (obeyed o s) c ≡ chan s c
  command_untouched o s c h e = each (commanded o) s c h ∙ rule o e
    where
      rule : (o : Command) → meant_for o c ≡ false → obeyed_one o c (chan s c) ≡ chan s c
      rule (turn_group_on spoken mask) e = simp e
      rule (turn_group_off spoken mask) e = simp e
      rule (set_group_state spoken mask) e = state_untouched (has fitted c) (has forced c) (has spoken c) (has mask c) (chan s c) e
      rule (turn_on one) e = simp (and-true, e)
      rule (turn_off one) e = simp (and-true, e)
      rule turn_command_enabled_off e = simp e

  -- where refusal 7 applies the single commands alter nothing at all
  pub switch_on_refused : (one : ℕ) (s : Channels) → Held s → wrong_to_switch_on fitted one ≡ true → switch_on fitted one s ≡ s
  switch_on_refused one s k w =
      same_channels (switch_on fitted one s) s (after_held (commanded (turn_on one)) s) k
      (λ c h. command_untouched (turn_on one) s c h (none_is (has fitted) one c h w))

  pub switch_off_refused : (one : ℕ) (s : Channels) → Held s → wrong_to_switch_off fitted forced one ≡ true → switch_off fitted forced one s ≡ s
  switch_off_refused one s k w =
      same_channels (switch_off fitted forced one s) s (after_held (commanded (turn_off one)) s) k
      (λ c h. command_untouched (turn_off one) s c h (none_is (λ x. command_enabled (has fitted x) (has forced x)) one c h (not_enabled (ltb 31 one) (has fitted one) (has forced one) w)))

  pub overcurrent_untouched : (named : ℕ) (s : Channels) (c : ℕ) → c < 32 → (has named c && has s.on c) ≡ false → chan (overcurrent_at named s) c ≡ chan s c
  overcurrent_untouched named s c h e = each (overcurrent named) s c h ∙ simp e

  -- emergency finds a channel off, or turns it off and alters nothing else
  pub emergency_untouched : (s : Channels) (c : ℕ) → c < 32 → has s.on c ≡ false → chan (all_off s) c ≡ chan s c
  emergency_untouched s c h e = each emergency_entered s c h ∙ simp e

  -- ---- a forced channel that is on is never turned off by a command
  pub forced_stays_on : (o : Command) (s : Channels) (c : ℕ) → c < 32 → has forced c ≡ true → has s.on c ≡ true → has (obeyed o s).on c ≡ true
  forced_stays_on o s c h g e = ap (λ (x : Chan). x.on) (each (commanded o) s c h) ∙ rule o
    where
      rule : (o : Command) → (obeyed_one o c (chan s c)).on ≡ true
      rule (turn_group_on spoken mask) = cases (has fitted c && has spoken c && has mask c) (λ a. simp a) (λ a. simp (a, e))
      rule (turn_group_off spoken mask) = simp (g, and-false, e)
      rule (set_group_state spoken mask) = cases (has fitted c && has spoken c && has mask c) (λ a. simp (g, and-false, and-true, a)) (λ a. simp (g, and-false, and-true, a, e))
      rule (turn_on one) = cases (has fitted c && eqb c one) (λ a. simp (and-true, a)) (λ a. simp (and-true, a, e))
      rule (turn_off one) = simp (g, and-false, e)
      rule turn_command_enabled_off = simp (g, and-false, e)

  -- ---- a channel that is not fitted, off and not latched stays so under every command, and under overcurrent
  pub unfitted_stays_dark : (o : Command) (s : Channels) (c : ℕ) → c < 32 → has fitted c ≡ false → Dark (chan s c) → Dark (chan (obeyed o s) c)
  unfitted_stays_dark o s c h f d = rw (command_untouched o s c h (rule o)) d
    where
      rule : (o : Command) → meant_for o c ≡ false
      rule (turn_group_on spoken mask) = simp f
      rule (turn_group_off spoken mask) = simp f
      rule (set_group_state spoken mask) = simp f
      rule (turn_on one) = simp f
      rule (turn_off one) = simp f
      rule turn_command_enabled_off = simp f

  pub overcurrent_stays_dark : (named : ℕ) (s : Channels) (c : ℕ) → c < 32 → Dark (chan s c) → Dark (chan (overcurrent_at named s) c)
  overcurrent_stays_dark named s c h d = rw (overcurrent_untouched named s c h (simp (d.off, and-false))) d

  -- and under every other event, whatever the sets are
  pub stays_dark : (e : Event) (s : Channels) (c : ℕ) → c < 32 → has fitted c ≡ false → Dark (chan s c) → Dark (chan (after e s) c)
  stays_dark (commanded o) s c h f d = unfitted_stays_dark o s c h f d
  stays_dark emergency_entered s c h f d = rw (each emergency_entered s c h) (record { off = refl; unlatched = d.unlatched })
  stays_dark forced_come_on s c h f d = rw (each forced_come_on s c h) (record { off = simp f; unlatched = refl })
  stays_dark (overcurrent named) s c h f d = overcurrent_stays_dark named s c h d

  -- ---- the counts change by overcurrent alone
  same_counts : (f : ℕ → Chan → Chan) (s : Channels) → Held s → ((c : ℕ) (ch : Chan) → (f c ch).count ≡ ch.count) → (whole (λ c. f c (chan s c))).counts ≡ s.counts
  unfolding whole
  same_counts f s k e = sym (is_list_of 32 _ s.counts k.counts (λ c h. sym (e c (chan s c))))

  pub command_counts : (o : Command) (s : Channels) → Held s → (obeyed o s).counts ≡ s.counts
  command_counts o s k = ap (λ (x : Channels). x.counts) (obeyed_whole o s) ∙ same_counts (obeyed_one o) s k (rule o)
    where
      rule : (o : Command) (c : ℕ) (ch : Chan) → (obeyed_one o c ch).count ≡ ch.count
      rule (turn_group_on spoken mask) c ch = either (meant_for (turn_group_on spoken mask) c) (on_and_cleared ch) ch refl
      rule (turn_group_off spoken mask) c ch = either (meant_for (turn_group_off spoken mask) c) (off_and_cleared ch) ch refl
      rule (set_group_state spoken mask) c ch =
          cases (command_enabled (has fitted c) (has forced c) && has spoken c)
          (λ a. simp a (either (has mask c) (on_and_cleared ch) (off_and_cleared ch) refl))
          (λ a. simp a (either (force_enabled (has fitted c) (has forced c) && has spoken c && has mask c) (on_and_cleared ch) ch refl))
      rule (turn_on one) c ch = either (has fitted c && true && eqb c one) (on_and_cleared ch) ch refl
      rule (turn_off one) c ch = either (command_enabled (has fitted c) (has forced c) && true && eqb c one) (off_and_cleared ch) ch refl
      rule turn_command_enabled_off c ch = either (meant_for turn_command_enabled_off c) (off_and_latch_kept ch) ch refl

  pub emergency_counts : (s : Channels) → Held s → (all_off s).counts ≡ s.counts
  emergency_counts s k = ap (λ (x : Channels). x.counts) (after_whole emergency_entered s) ∙ same_counts (λ c. off_and_latch_kept) s k (λ c ch. refl)

  pub forced_on_counts : (s : Channels) → Held s → (forced_on fitted forced s).counts ≡ s.counts
  forced_on_counts s k = ap (λ (x : Channels). x.counts) (after_whole forced_come_on s) ∙ same_counts (λ c. forced_on_one (has fitted c) (has forced c)) s k (λ c ch. refl)

  -- and by exactly 1, up to 65,535, for a channel that is named and on
  pub overcurrent_counts : (named : ℕ) (s : Channels) (c : ℕ) → c < 32
      → get_or (overcurrent_at named s).counts c 0 ≡ cond (has named c && has s.on c) (min (get_or s.counts c 0 + 1) 65535) (get_or s.counts c 0)
  overcurrent_counts named s c h = ap (λ (x : Chan). x.count) (each (overcurrent named) s c h) ∙ cases (has named c && has s.on c) (λ a. simp a) (λ a. simp a)

  -- a count stays below 65,536
  pub counts_below : (e : Event) (s : Channels) → Held s → (c : ℕ) → c < 32 → get_or s.counts c 0 < 65536 → get_or (after e s).counts c 0 < 65536
  counts_below (commanded o) s k c h b = rw (command_counts o s k) b
  counts_below emergency_entered s k c h b = rw (emergency_counts s k) b
  counts_below forced_come_on s k c h b = rw (forced_on_counts s k) b
  counts_below (overcurrent named) s k c h b =
      rw (overcurrent_counts named s c h) (cases (has named c && has s.on c) (λ a. rw a (omega arith)) (λ a. rw a b))

  -- ---- the sets where the mode decides them
  pub emergency_on : (s : Channels) → (all_off s).on ≡ 0
  emergency_on s = ext 32 (all_off s).on 0 (after_held emergency_entered s).on (omega arith) (λ c h. ap (λ (x : Chan). x.on) (each emergency_entered s c h) ∙ sym (has_none c))

  pub forced_on_on : (s : Channels) (c : ℕ) → c < 32 → has (forced_on fitted forced s).on c ≡ force_enabled (has fitted c) (has forced c)
  forced_on_on s c h = ap (λ (x : Chan). x.on) (each forced_come_on s c h)

  -- where the forced channels are all fitted, as a profile has them, they are the whole set
  pub forced_on_exactly : (s : Channels) → forced < 2 ^ 32 → is_within forced fitted ≡ true → (forced_on fitted forced s).on ≡ forced
  forced_on_exactly s b w =
      ext 32 (forced_on fitted forced s).on forced (after_held forced_come_on s).on b
      (λ c h. forced_on_on s c h ∙ cases (has forced c) (λ a. simp (a, within_each forced fitted w c h a)) (λ a. simp (a, and-false)))

  pub forced_on_latched : (s : Channels) → (forced_on fitted forced s).latched ≡ 0
  forced_on_latched s = ext 32 (forced_on fitted forced s).latched 0 (after_held forced_come_on s).latched (omega arith) (λ c h. ap (λ (x : Chan). x.latched) (each forced_come_on s c h) ∙ sym (has_none c))

-- after a reset
pub cleared_held : Held cleared
unfolding cleared
cleared_held = whole_held _

pub cleared_each : (c : ℕ) → c < 32 → chan cleared c ≡ clear_one
unfolding cleared
cleared_each c h = chan_whole (λ k. clear_one) c h
