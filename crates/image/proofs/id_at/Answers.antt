-- The constant table is the list of the rows' ids: one computed test. Assumes nothing.
use mathlib.Core.Path.{refl}
use Rattle.settings.specs.Table.{ids, ids_of, from, column, read_write_rows}
use Rattle.image.proofs.id_at.Goals as goal

pub returns : goal.returns
unfolding ids ids_of from column read_write_rows
returns c = refl
