-- The constant arrays are what the rows compute to at each id, by the kind of board.
use Rattle.settings.specs.Table.{default_of, clamp_of, at_most, at_least, low_of, high_of, row_of, find, lies, read_write_rows, read_only_rows, column}
use Rattle.settings.specs.Values.{defaults_of, default_n}
use Rattle.settings.proofs.uint32_defaults.Goals as goal

pub returns-in-Distribution : goal.returns-in-Distribution
unfolding defaults_of default_n default_of clamp_of at_most at_least low_of high_of row_of find lies read_write_rows read_only_rows column
returns-in-Distribution c = rw c.in-Distribution.is

pub returns-in-Battery : goal.returns-in-Battery
unfolding defaults_of default_n default_of clamp_of at_most at_least low_of high_of row_of find lies read_write_rows read_only_rows column
returns-in-Battery c = rw c.in-Battery.is

pub returns-in-Integrated : goal.returns-in-Integrated
unfolding defaults_of default_n default_of clamp_of at_most at_least low_of high_of row_of find lies read_write_rows read_only_rows column
returns-in-Integrated c = rw c.in-Integrated.is
