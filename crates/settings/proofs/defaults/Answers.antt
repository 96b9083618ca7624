-- The constant arrays are what the rows compute to at each id.
use Rattle.settings.specs.Table.{default_of, clamp_of, at_most, at_least, low_of, high_of, row_of, find, lies, read_write_rows, read_only_rows, column}
use Rattle.settings.specs.Values.{defaults_of, default_n}
use Rattle.settings.proofs.defaults.Goals as goal

pub returns : goal.returns
unfolding defaults_of default_n default_of clamp_of at_most at_least low_of high_of row_of find lies read_write_rows read_only_rows column
returns c = rw c.uint32_defaults-u32s.ensures
