-- What a save stores and a load brings back, what the other commands on settings leave, what is shown, and that
-- settings in range stay in range. Assumes nothing.
use mathlib.Core.Path.{◌≡◌, refl, sym, ap, ◌∙◌, subst}
use mathlib.Core.Bool.{Bool, true, false, ◌||◌}
use Rattle.std.specs.Prelude.{Some, None, Result, Ok, Err, IfSome, IsSomeAnd}
use mathlib.Core.Logic.{◌⊎◌, inl, inr}
use Prim.Native.Nat.{ℕ, ◌+◌, ◌≤◌, ◌<◌}
use native.Mathlib.Omega.{arith}
use borrow.Author.Tests.{eq-eqb, ne_eqb, eqb-true}
use lib.Dec.{eqb}
use lib.IntN.{ℤ, pos, nat_abs}
use lib.ListN.{get_or}
use mir.Syntax.{w32}
use mir.Val.{to_z}
use mir.ValLaws.{to_z_pos}
use Rattle.kinds.specs.declared.Kind.{Kind}
use Rattle.value.specs.declared.ParamValue.{ParamValue}
use Rattle.settings.specs.declared.Settings.{Settings}
use Rattle.settings.specs.Values.{setting_of, defaults_of, in_range_of}
use Rattle.settings.proofs.Places.{uint16_number}
use Rattle.settings.proofs.Stores.{Sized}
use Rattle.settings.proofs.Laws as of-settings
use Rattle.image.specs.Image.{settings_checksum}
use Rattle.modes.specs.declared.Limits.{Limits}
use Rattle.watchdog.specs.Watchdog.{seconds_in_ticks}
use Rattle.memory.specs.declared.Stored.{Stored}
use Rattle.memory.specs.declared.Memory.{Memory}
use Rattle.memory.specs.declared.SaveRefusal.{SaveRefusal}
use Rattle.memory.specs.declared.SaveRefusal.TheVariants.{WrongChecksum}
use Rattle.memory.specs.Limits.{safety_low, safety_high, emergency_low, emergency_high, emergency_period, linger, limits_of}
use Rattle.memory.specs.Memory.{Store, one_more, empty_store, showing, showing_nothing, with_defaults, with_stored, loaded_from, load_of, defaulted_of, set_in, reset_in, is_right, stored_count, storing, saved_of, after_save}

-- ---- what the mode table and the watchdog read
-- the value of a 16-bit id
pub uint16_value : (s : Settings) (i : ℕ) → i < 68 → nat_abs (setting_of s (0x4000 + i)) ≡ get_or s.u16s i 0
uint16_value s i h = rw (uint16_number s i h)

-- an unsigned number of 16 bits is the same number in a signed type of 32
pub widened : (n k : ℕ) → n ≡ k → n < 65536 → to_z w32 n ≡ pos k
widened n k e h = to_z_pos w32 n (omega arith) ∙ ap pos e

-- the limits, field by field
pub limits_are :
    (m : Memory) (wait period : ℕ) (low high : ℤ)
    → wait ≡ seconds_in_ticks linger
    → period ≡ seconds_in_ticks emergency_period
    → low ≡ pos (safety_low m)
    → high ≡ pos (safety_high m)
    → ◌≡◌ {A = Limits} record { linger = wait; period = period; safety_low = low; safety_high = high; emergency_low = pos emergency_low; emergency_high = pos emergency_high } (limits_of m)
unfolding limits_of
limits_are m wait period low high a b c d = rw (a, b, c, d)

-- ---- the save count never wraps
pub count_at_most : (count : ℕ) → one_more count ≤ 65535
unfolding one_more
count_at_most count = omega arith

pub count_rises : (count : ℕ) → count < 65535 → one_more count ≡ count + 1
unfolding one_more
count_rises count h = omega arith

pub count_stops : one_more 65535 ≡ 65535
unfolding one_more
count_stops = refl

-- the first save of an empty store has count 1
pub count_starts : one_more (stored_count empty_store) ≡ 1
unfolding one_more stored_count empty_store
count_starts = refl

-- ---- a load
pub load_of_nothing : (kind : Kind) → loaded_from kind None ≡ with_defaults kind None
unfolding loaded_from
load_of_nothing kind = refl

pub load_of_stored : (kind : Kind) (s : Stored) → loaded_from kind (Some s) ≡ with_stored s
unfolding loaded_from
load_of_stored kind s = refl

pub load_leaves_store : (kind : Kind) (store : Store) → (loaded_from kind store).store ≡ store
unfolding loaded_from
load_leaves_store kind None = refl
load_leaves_store kind (Some s) = refl

-- a second load changes nothing more
pub load_twice : (kind : Kind) (m : Memory) → load_of kind (load_of kind m) ≡ load_of kind m
unfolding load_of
load_twice kind m = ap (loaded_from kind) (load_leaves_store kind m.store)

-- ---- set, reset of one and defaults leave the store; set and reset of one leave what is shown
module _ (m : Memory) (id : ℕ) (v : ParamValue) where
  pub set_leaves_store : (set_in id v m).store ≡ m.store
  unfolding set_in
  set_leaves_store = refl

  pub set_leaves_shown : (set_in id v m).shown ≡ m.shown
  unfolding set_in
  set_leaves_shown = refl

module _ (m : Memory) (id : ℕ) where
  pub reset_leaves_store : (kind : Kind) → (reset_in kind id m).store ≡ m.store
  unfolding reset_in
  reset_leaves_store kind = refl

  pub reset_leaves_shown : (kind : Kind) → (reset_in kind id m).shown ≡ m.shown
  unfolding reset_in
  reset_leaves_shown kind = refl

module _ (m : Memory) where
  pub defaults_leave_store : (kind : Kind) → (defaulted_of kind m).store ≡ m.store
  unfolding defaulted_of
  defaults_leave_store kind = refl

  pub defaults_show_nothing : (kind : Kind) → (defaulted_of kind m).shown ≡ showing_nothing
  unfolding defaulted_of
  defaults_show_nothing kind = refl

-- ---- the checksums that are right: 0 and the settings' own, and no other
module _ (given : ℕ) (m : Memory) where
  pub zero_right : given ≡ 0 → is_right given m ≡ true
  unfolding is_right
  zero_right e = rw (eq-eqb given 0 e)

  pub own_right : given ≡ settings_checksum m.current → is_right given m ≡ true
  unfolding is_right
  own_right e = rw (eq-eqb given (settings_checksum m.current) e) (or_true (eqb given 0))
    where
      or_true : (b : Bool) → (b || true) ≡ true
      or_true true = refl
      or_true false = refl

  pub other_wrong : (given ≡ 0 → ⊥) → (given ≡ settings_checksum m.current → ⊥) → is_right given m ≡ false
  unfolding is_right
  other_wrong z o = rw (ne_eqb given 0 z, ne_eqb given (settings_checksum m.current) o)

  pub only_right : is_right given m ≡ true → (given ≡ 0) ⊎ (given ≡ settings_checksum m.current)
  unfolding is_right
  only_right h = go (eqb given 0) refl h
    where
      go : (b : Bool) → eqb given 0 ≡ b → (b || eqb given (settings_checksum m.current)) ≡ true → (given ≡ 0) ⊎ (given ≡ settings_checksum m.current)
      go true e h = inl (eqb-true given 0 e)
      go false e h = inr (eqb-true given (settings_checksum m.current) h)

  -- ---- a save
  -- a right checksum stores the settings in force, with a count one above the stored one
  pub right_stores : is_right given m ≡ true → saved_of given m ≡ Ok (storing (one_more (stored_count m.store)) m.current)
  unfolding saved_of
  right_stores h = rw h

  -- a wrong one is refused, and leaves the memory as it was
  pub wrong_refused : is_right given m ≡ false → saved_of given m ≡ Err WrongChecksum
  unfolding saved_of
  wrong_refused h = rw h

  pub wrong_leaves : is_right given m ≡ false → (saved_of given m ≡ Err WrongChecksum) × (after_save (saved_of given m) m ≡ m)
  wrong_leaves h = (wrong_refused h, rw (wrong_refused h))

  -- what holds of the memory and of one that stores its settings holds after a save
  saved_by : (P : Memory → Type 0) → P (storing (one_more (stored_count m.store)) m.current) → P m → P (after_save (saved_of given m) m)
  saved_by P s k = go (is_right given m) refl
    where
      go : (b : Bool) → is_right given m ≡ b → P (after_save (saved_of given m) m)
      go true e = subst (λ (r : Result Memory SaveRefusal). P (after_save r m)) (sym (right_stores e)) s
      go false e = subst (λ (r : Result Memory SaveRefusal). P (after_save r m)) (sym (wrong_refused e)) k

  -- the settings in force stay, whatever the checksum
  pub save_leaves_current : (after_save (saved_of given m) m).current ≡ m.current
  save_leaves_current = saved_by (λ k. k.current ≡ m.current) refl refl

  -- what a save stores, a load brings back: the settings, the store and what is shown
  pub save_comes_back : (kind : Kind) → is_right given m ≡ true → load_of kind (after_save (saved_of given m) m) ≡ after_save (saved_of given m) m
  unfolding load_of loaded_from
  save_comes_back kind h = rw (right_stores h)

-- ---- what is shown is 0 and 0, or the count and the checksum of what is stored
abbrev pub Shows : Memory → Type 0
Shows m = (m.shown ≡ showing_nothing) ⊎ IsSomeAnd m.store (λ s. m.shown ≡ showing s.save_count s.settings)

pub loaded_shows : (kind : Kind) (store : Store) → Shows (loaded_from kind store)
unfolding loaded_from
loaded_shows kind None = inl refl
loaded_shows kind (Some s) = inr refl

pub load_shows : (kind : Kind) (m : Memory) → Shows (load_of kind m)
unfolding load_of
load_shows kind m = loaded_shows kind m.store

pub defaults_show : (kind : Kind) (m : Memory) → Shows (defaulted_of kind m)
defaults_show kind m = inl (defaults_show_nothing m kind)

pub set_shows : (m : Memory) (id : ℕ) (v : ParamValue) → Shows m → Shows (set_in id v m)
unfolding set_in
set_shows m id v h = h

pub reset_shows : (kind : Kind) (m : Memory) (id : ℕ) → Shows m → Shows (reset_in kind id m)
unfolding reset_in
reset_shows kind m id h = h

pub save_shows : (given : ℕ) (m : Memory) → Shows m → Shows (after_save (saved_of given m) m)
save_shows given m h = saved_by given m Shows (inr refl) h

-- ---- settings in range stay in range
-- every array has its length and every value lies in its range
pub record Ranged (s : Settings) : Type 0 where
  pub sized : Sized s
  pub in_range : in_range_of s ≡ true

pub defaults_ranged : (kind : Kind) → Ranged (defaults_of kind)
defaults_ranged kind = record { sized = of-settings.defaults_sized kind; in_range = of-settings.defaults_in_range kind }

-- of a store that holds something, and of a memory
abbrev pub StoreRanged : Store → Type 0
StoreRanged store = IfSome store (λ s. Ranged s.settings)

pub record MemoryRanged (m : Memory) : Type 0 where
  pub of_current : Ranged m.current
  pub of_store : StoreRanged m.store

pub empty_ranged : StoreRanged empty_store
unfolding empty_store
empty_ranged = tt

pub loaded_ranged : (kind : Kind) (store : Store) → StoreRanged store → MemoryRanged (loaded_from kind store)
unfolding loaded_from
loaded_ranged kind None h = record { of_current = defaults_ranged kind; of_store = h }
loaded_ranged kind (Some s) h = record { of_current = h; of_store = h }

module _ (m : Memory) (h : MemoryRanged m) where
  pub load_ranged : (kind : Kind) → MemoryRanged (load_of kind m)
  unfolding load_of
  load_ranged kind = loaded_ranged kind m.store h.of_store

  pub defaulted_ranged : (kind : Kind) → MemoryRanged (defaulted_of kind m)
  unfolding defaulted_of
  defaulted_ranged kind = record { of_current = defaults_ranged kind; of_store = h.of_store }

  pub set_ranged : (id : ℕ) (v : ParamValue) → MemoryRanged (set_in id v m)
  unfolding set_in
  set_ranged id v =
      let k = h.of_current in
      record {
        of_current =
            record { sized = of-settings.set_sized m.current id v k.sized; in_range = of-settings.set_in_range m.current id v k.sized k.in_range };
        of_store = h.of_store;
      }

  pub reset_ranged : (kind : Kind) (id : ℕ) → MemoryRanged (reset_in kind id m)
  unfolding reset_in
  reset_ranged kind id =
      let k = h.of_current in
      record {
        of_current =
            record { sized = of-settings.reset_sized kind m.current id k.sized; in_range = of-settings.reset_in_range kind m.current id k.sized k.in_range };
        of_store = h.of_store;
      }

  pub save_ranged : (given : ℕ) → MemoryRanged (after_save (saved_of given m) m)
  save_ranged given = saved_by given m MemoryRanged (record { of_current = h.of_current; of_store = h.of_current }) h
