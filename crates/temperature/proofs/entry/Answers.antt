-- One computed test over the whole table: its first wrong entry would stand at place 4096, where it ends.
use Rattle.std.proofs.Common.{rules, ◌≡◌, ◌<◌, List, length, slice_index_or, ℤ, pos, ℕ}
use mir.Syntax.{w16}
use mir.ValLaws.{to_z-of_z}
use Rattle.laws.proofs.Signed.{read}
use Rattle.rounding.specs.Rounding.{nearest, held}
use Rattle.rounding.proofs.Rounding.{held_fits}
use Rattle.temperature.specs.Temperature.{coefficients, polynomial, line_at, entry_of}
use Rattle.temperature.proofs.Entries.{each_entry, first_wrong}
use Rattle.temperature.proofs.entry.Goals as goal

-- an entry that is the rule's is read as it stands
as_read : (x : ℤ) (i : ℕ) → x ≡ entry_of i → read w16 x ≡ entry_of i
unfolding entry_of
as_read x i e = rw e (to_z-of_z w16 _ (held_fits (nearest (line_at i) _)))

table_entry : (xs : List ℤ) (i : ℕ) → length xs ≡ 4096 → first_wrong entry_of 0 xs ≡ 4096 → i < 4096 → read w16 (slice_index_or xs i (pos 0)) ≡ entry_of i
table_entry xs i l t h = as_read _ i (each_entry entry_of xs 4096 i (pos 0) l t h)

pub returns : goal.returns
unfolding entry_of line_at polynomial coefficients nearest held
returns c = search (rules, table_entry)
