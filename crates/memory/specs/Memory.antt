-- What a board keeps of its settings: those in force, what it shows of the last save or load, and its store.
-- `cond b x y` is x where b holds, else y; a record with each field given is a whole value. Assumes nothing: these are
-- definitions.
use Rattle.std.specs.Prelude.{ℕ, ◌+◌, min, Bool, cond, ◌||◌, eqb, Option, Some, None, Result, Ok, Err}
use Rattle.kinds.specs.declared.Kind.{Kind}
use Rattle.value.specs.declared.ParamValue.{ParamValue}
use Rattle.settings.specs.{declared.Settings.Settings, Values.defaults_of, Values.set_of, Values.reset_of}
use Rattle.image.specs.Image.{settings_checksum}
use Rattle.memory.specs.{declared.Shown.Shown, declared.Stored.Stored, declared.Memory.Memory, declared.SaveRefusal.SaveRefusal}
use Rattle.memory.specs.declared.SaveRefusal.TheVariants.{WrongChecksum}

-- a count of 16 bits, one higher; it stays at its top
unfoldable pub one_more : ℕ → ℕ
one_more count = min (count + 1) 65535

-- a store: nothing, or settings with their save count
abbrev pub Store : Type 0
Store = Option Stored

-- nothing is stored
unfoldable pub empty_store : Store
empty_store = None

-- ---- the settings of the store, or the defaults of the kind of board

-- the two read-only values once some settings were saved or loaded: their save count and their checksum
abbrev pub showing : ℕ → Settings → Shown
showing count s = record { save_count = count; checksum = settings_checksum s }

-- both are 0 once the defaults were taken
abbrev pub showing_nothing : Shown
showing_nothing = record { save_count = 0; checksum = 0 }

abbrev pub with_defaults : Kind → Store → Memory
with_defaults kind store = record { current = defaults_of kind; store = store; shown = showing_nothing }

abbrev pub with_stored : Stored → Memory
with_stored s = record { current = s.settings; store = Some s; shown = showing s.save_count s.settings }

-- what is stored; where nothing is, the defaults
unfoldable pub loaded_from : Kind → Store → Memory
loaded_from kind (Some s) = with_stored s
loaded_from kind None = with_defaults kind None

-- ---- the commands on settings

-- 0x92 load
unfoldable pub load_of : Kind → Memory → Memory
load_of kind m = loaded_from kind m.store

-- 0x90 defaults; the store stays
unfoldable pub defaulted_of : Kind → Memory → Memory
defaulted_of kind m = with_defaults kind m.store

-- other settings in force; what is shown and what is stored stay
abbrev pub in_force : Settings → Memory → Memory
in_force s m = record { current = s; store = m.store; shown = m.shown }

-- 0x84 set, 0x86 reset of one
unfoldable pub set_in : ℕ → ParamValue → Memory → Memory
set_in id v m = in_force (set_of m.current id v) m

unfoldable pub reset_in : Kind → ℕ → Memory → Memory
reset_in kind id m = in_force (reset_of kind m.current id) m

-- 0x94 save: the checksum that came with it is 0, or that of the settings in force
unfoldable pub is_right : ℕ → Memory → Bool
is_right given m = eqb given 0 || eqb given (settings_checksum m.current)

-- the save count of the store, and 0 where there is none
unfoldable pub stored_count : Store → ℕ
stored_count (Some s) = s.save_count
stored_count None = 0

-- some settings in force, in the store and shown, with one save count
abbrev pub storing : ℕ → Settings → Memory
storing count s = record { current = s; store = Some (record { settings = s; save_count = count }); shown = showing count s }

-- a right checksum stores the settings in force, their count one above the store's; a wrong one is refused
unfoldable pub saved_of : ℕ → Memory → Result Memory SaveRefusal
saved_of given m = cond (is_right given m) (Ok (storing (one_more (stored_count m.store)) m.current)) (Err WrongChecksum)

-- document 01's number of what a save answers: a wrong checksum is 7, and 0 is none
abbrev pub save_number : Result Memory SaveRefusal → ℕ
save_number (Ok saved) = 0
save_number (Err WrongChecksum) = 7

-- the memory after a save: a refused one leaves all as it was
abbrev pub after_save : Result Memory SaveRefusal → Memory → Memory
after_save (Ok saved) m = saved
after_save (Err r) m = m
