-- Document 01's number for each answer of this crate; 0 is no refusal. Assumes nothing: these are definitions.
use Rattle.std.specs.Prelude.{ℕ}
use mathlib.Core.{Bool.Bool, Bool.false, Bool.cond, Bool.◌||◌, List.List, List.[], List.◌∷◌}
use Rattle.settings.specs.Table.{Row, ◌to◌are◌with◌default◌, ◌to◌are_read◌, read_write_rows, read_only_rows, lies}
use Rattle.settings.specs.{declared.Parameter.Parameter, declared.Got.Got}

-- 0x84 and 0x86: an id that is read-only or unknown is 7
abbrev pub set_number : Parameter → ℕ
set_number (Parameter.ReadWrite t) = 0
set_number (Parameter.ReadOnly t) = 7
set_number Parameter.Unknown = 7

-- 0x82: an id that is unknown is 7; one that is only read is read
abbrev pub get_number : Got → ℕ
get_number (Got.Value v) = 0
get_number (Got.ReadOnly t) = 0
get_number Got.Unknown = 7

-- ---- when each number is given

-- one of a table's rows has the id
unfoldable pub lists_id : List Row → ℕ → Bool
lists_id [] id = false
lists_id (a to b are t with r default d ∷ rows) id = lies a b id || lists_id rows id
lists_id (a to b are_read t ∷ rows) id = lies a b id || lists_id rows id

-- 7 where Table 3-25, of the read/write parameters, does not have the id
unfoldable pub settable_number : ℕ → ℕ
settable_number id = cond (lists_id read_write_rows id) 0 7

-- 7 where neither that table nor Table 3-26, of those that are only read, has the id
unfoldable pub known_number : ℕ → ℕ
known_number id = cond (lists_id read_write_rows id || lists_id read_only_rows id) 0 7
