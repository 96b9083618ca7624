-- Demand 2, what steps 2 and 3 do to each channel. Step 2, by the mode before and after it: in startup and emergency a
-- channel is off and keeps its latch; where one of the two is left, no latch is left and exactly the force-enabled are
-- on; from nominal to safety the command-enabled go off with their latches kept; and nothing else happens to a channel.
-- Step 3: a channel that is named and on is then off, latched and counted once more, and any other stays. Of every
-- machine and every tick that happens. `m` is the machine before the tick. Assumes nothing: these are definitions.
use Rattle.std.specs.Prelude.{ℕ, ◌+◌, ◌<◌, min}
use mathlib.Core.{Path.◌≡◌, Bool.Bool, Bool.true, Bool.false, Bool.not, Bool.◌&&◌, Bool.◌||◌}
use Rattle.modes.specs.{Table.same, declared.Mode.Mode}
use Rattle.modes.specs.declared.Mode.TheVariants.{Startup, Nominal, Safety, Emergency}
use Rattle.channels.specs.{Sets.has, Chan.Chan, Chan.chan}
use Rattle.state.specs.Parts.{mode_of}
use Rattle.unit.specs.{declared.Machine.Machine, Runs.Sample, Runs.after_step2, Runs.after_step3}

-- startup or emergency: the modes in which channels are off
abbrev pub is_startup_or_emergency : Mode → Bool
is_startup_or_emergency mode = same mode Startup || same mode Emergency

-- the mode before step 2 and after it
abbrev pub mode_before : Machine → Mode
mode_before m = mode_of m.board

abbrev pub mode_after : Machine → Sample → Mode
mode_after m i = mode_of (after_step2 m i)

-- a channel as it was before the tick, and as steps 2 and 3 left it
abbrev pub was : Machine → ℕ → Chan
was m c = chan m.board.channels c

abbrev pub after2 : Machine → Sample → ℕ → Chan
after2 m i c = chan (after_step2 m i).channels c

abbrev pub after3 : Machine → Sample → ℕ → Chan
after3 m i c = chan (after_step3 m i).channels c

-- fitted, and forced by the profile or not
abbrev pub is_force_enabled : Machine → ℕ → Bool
is_force_enabled m c = has m.board.profile.fitted c && has m.board.profile.forced c

abbrev pub is_command_enabled : Machine → ℕ → Bool
is_command_enabled m c = has m.board.profile.fitted c && not (has m.board.profile.forced c)

pub record StepsOfChannels (m : Machine) (i : Sample) : Type 0 where
  -- step 2
  pub in_startup_or_emergency : is_startup_or_emergency (mode_after m i) ≡ true
      → (c : ℕ) → c < 32 → after2 m i c ≡ record { on = false; latched = (was m c).latched; count = (was m c).count }
  pub leaving_either : is_startup_or_emergency (mode_before m) ≡ true → is_startup_or_emergency (mode_after m i) ≡ false
      → (c : ℕ) → c < 32 → after2 m i c ≡ record { on = is_force_enabled m c; latched = false; count = (was m c).count }
  pub nominal_to_safety : mode_before m ≡ Nominal → mode_after m i ≡ Safety → (c : ℕ) → c < 32
      → is_command_enabled m c ≡ true → after2 m i c ≡ record { on = false; latched = (was m c).latched; count = (was m c).count }
  pub nominal_to_safety_others : mode_before m ≡ Nominal → mode_after m i ≡ Safety → (c : ℕ) → c < 32
      → is_command_enabled m c ≡ false → after2 m i c ≡ was m c
  pub otherwise : is_startup_or_emergency (mode_before m) ≡ false → is_startup_or_emergency (mode_after m i) ≡ false
      → (same (mode_before m) Nominal && same (mode_after m i) Safety) ≡ false → (c : ℕ) → c < 32 → after2 m i c ≡ was m c
  -- step 3
  pub named_and_on : (c : ℕ) → c < 32 → has i.named c ≡ true → (after2 m i c).on ≡ true
      → after3 m i c ≡ record { on = false; latched = true; count = min ((after2 m i c).count + 1) 65535 }
  pub not_named_or_off : (c : ℕ) → c < 32 → (has i.named c && (after2 m i c).on) ≡ false → after3 m i c ≡ after2 m i c
