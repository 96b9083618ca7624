-- Why steps 2 and 3 do that to a channel: each is one of the operations on all 32 channels, or none, and each operation
-- is known at one channel. Assumes nothing.
use Prim.Native.Nat.{ℕ, ◌<◌}
use mathlib.Core.Path.{◌≡◌, refl, ap, ◌∙◌}
use mathlib.Core.Bool.{true, false, ◌&&◌}
use Rattle.modes.specs.Table.{same, older_of}
use Rattle.modes.specs.declared.Mode.{Mode}
use Rattle.modes.specs.declared.Mode.TheVariants.{Startup, Nominal, Safety, Emergency}
use Rattle.channels.specs.Sets.{has}
use Rattle.channels.specs.Chan.{Chan, chan}
use Rattle.channels.specs.Operations.{command_enabled_off_one, overcurrent_one}
use Rattle.channels.specs.declared.Channels.{Channels}
use Rattle.channels.proofs.Laws as channel
use Rattle.change.specs.Change.{is_dark, from_nominal_to_safety, entering_of}
use Rattle.state.specs.declared.parts.Profile.{Profile}
use Rattle.board.specs.Tick.{risen_of, changed_of, tripped_of}
use Rattle.unit.specs.declared.Machine.{Machine}
use Rattle.unit.specs.Runs.{Sample, after_step2}
use Rattle.changes.specs.StepsOfChannels.{is_startup_or_emergency, mode_before, mode_after, was, after2, after3, StepsOfChannels}

-- the modes in which channels are off are startup and emergency
dark_is : (mode : Mode) → is_dark mode ≡ is_startup_or_emergency mode
unfolding is_dark
dark_is Startup = refl
dark_is Nominal = refl
dark_is Safety = refl
dark_is Emergency = refl

-- ---- what a change of mode does to one channel
module _ (before next : Mode) (p : Profile) (s : Channels) (c : ℕ) (h : c < 32) where
  -- the channel afterwards
  abbrev left : Chan
  left = chan (entering_of before next p s) c

  -- startup or emergency afterwards
  into_dark : is_startup_or_emergency next ≡ true → left ≡ record { on = false; latched = (chan s c).latched; count = (chan s c).count }
  unfolding entering_of
  into_dark a = let d = dark_is next ∙ a in rw d (channel.each p.fitted p.forced channel.emergency_entered s c h)

  -- startup or emergency left
  out_of_dark : is_startup_or_emergency before ≡ true → is_startup_or_emergency next ≡ false
      → left ≡ record { on = has p.fitted c && has p.forced c; latched = false; count = (chan s c).count }
  unfolding entering_of
  out_of_dark b a =
      let d = dark_is next ∙ a in
      let e = dark_is before ∙ b in
      rw (d, e) (channel.each p.fitted p.forced channel.forced_come_on s c h)

  -- from nominal to safety
  to_safety : before ≡ Nominal → next ≡ Safety → left ≡ command_enabled_off_one (has p.fitted c) (has p.forced c) (chan s c)
  unfolding entering_of is_dark from_nominal_to_safety
  to_safety b a = rw (b, a) (channel.each p.fitted p.forced (channel.commanded channel.turn_command_enabled_off) s c h)

  -- any other change, and none
  no_entry : is_startup_or_emergency before ≡ false → is_startup_or_emergency next ≡ false → (same before Nominal && same next Safety) ≡ false → left ≡ chan s c
  unfolding entering_of from_nominal_to_safety
  no_entry b a n =
      let d = dark_is next ∙ a in
      let e = dark_is before ∙ b in
      rw (d, e, n)

-- ---- the two steps
module _ (m : Machine) (i : Sample) where
  -- step 2 does what the change of mode does
  entering : (after_step2 m i).channels ≡ entering_of (mode_before m) (mode_after m i) m.board.profile m.board.channels
  unfolding changed_of risen_of older_of
  entering = refl

  -- at one channel
  at : (c : ℕ) → after2 m i c ≡ chan (entering_of (mode_before m) (mode_after m i) m.board.profile m.board.channels) c
  at c = ap (λ (s : Channels). chan s c) entering

  -- from nominal to safety
  safety_entered : mode_before m ≡ Nominal → mode_after m i ≡ Safety → (c : ℕ) → c < 32
      → after2 m i c ≡ command_enabled_off_one (has m.board.profile.fitted c) (has m.board.profile.forced c) (was m c)
  safety_entered b a c h = at c ∙ to_safety (mode_before m) (mode_after m i) m.board.profile m.board.channels c h b a

  -- step 3
  overcurrent : (c : ℕ) → c < 32 → after3 m i c ≡ overcurrent_one (has i.named c) (after2 m i c)
  unfolding tripped_of
  overcurrent c h = channel.each m.board.profile.fitted m.board.profile.forced (channel.overcurrent i.named) (after_step2 m i).channels c h

  -- the claim
  pub steps_of_channels : StepsOfChannels m i
  steps_of_channels =
      record {
        in_startup_or_emergency = λ a c h. at c ∙ into_dark (mode_before m) (mode_after m i) m.board.profile m.board.channels c h a;
        leaving_either = λ b a c h. at c ∙ out_of_dark (mode_before m) (mode_after m i) m.board.profile m.board.channels c h b a;
        nominal_to_safety = λ b a c h e. safety_entered b a c h ∙ rw e;
        nominal_to_safety_others = λ b a c h e. safety_entered b a c h ∙ rw e;
        otherwise = λ b a n c h. at c ∙ no_entry (mode_before m) (mode_after m i) m.board.profile m.board.channels c h b a n;
        named_and_on = λ c h n o. overcurrent c h ∙ rw (n, o);
        not_named_or_off = λ c h n. overcurrent c h ∙ rw n;
      }
