-- Each arm has the id in rows of one range.
use mathlib.Core.Path.{refl, sym}
use native.Mathlib.Omega.{arith}
use lib.IntN.{pos, negsuc}
use Rattle.settings.specs.Table.{low_of, high_of, row_of, find, lies, read_write_rows, read_only_rows, column}
use Rattle.settings.proofs.Rows.{same_on}
use Rattle.settings.proofs.ends_of.Goals as goal

pub returns-in-12288-to-12290-clause-low : goal.returns-in-12288-to-12290-clause-low
unfolding low_of row_of find lies read_write_rows read_only_rows column
returns-in-12288-to-12290-clause-low c = sym (same_on low_of 0x3000 3 (negsuc 1999) refl c.args.id (omega arith) (omega arith))

pub returns-in-12288-to-12290-clause-high : goal.returns-in-12288-to-12290-clause-high
unfolding high_of row_of find lies read_write_rows read_only_rows column
returns-in-12288-to-12290-clause-high c = sym (same_on high_of 0x3000 3 (pos 3000) refl c.args.id (omega arith) (omega arith))

pub returns-in-12291-to-12293-clause-low : goal.returns-in-12291-to-12293-clause-low
unfolding low_of row_of find lies read_write_rows read_only_rows column
returns-in-12291-to-12293-clause-low c = sym (same_on low_of 0x3003 3 (negsuc 1999) refl c.args.id (omega arith) (omega arith))

pub returns-in-12291-to-12293-clause-high : goal.returns-in-12291-to-12293-clause-high
unfolding high_of row_of find lies read_write_rows read_only_rows column
returns-in-12291-to-12293-clause-high c = sym (same_on high_of 0x3003 3 (pos 3400) refl c.args.id (omega arith) (omega arith))

pub returns-in-12294-to-12299-clause-low : goal.returns-in-12294-to-12299-clause-low
unfolding low_of row_of find lies read_write_rows read_only_rows column
returns-in-12294-to-12299-clause-low c = sym (same_on low_of 0x3006 6 (pos 30) refl c.args.id (omega arith) (omega arith))

pub returns-in-12294-to-12299-clause-high : goal.returns-in-12294-to-12299-clause-high
unfolding high_of row_of find lies read_write_rows read_only_rows column
returns-in-12294-to-12299-clause-high c = sym (same_on high_of 0x3006 6 (pos 32767) refl c.args.id (omega arith) (omega arith))

pub returns-in-12300-to-12329-clause-low : goal.returns-in-12300-to-12329-clause-low
unfolding low_of row_of find lies read_write_rows read_only_rows column
returns-in-12300-to-12329-clause-low c = sym (same_on low_of 0x300C 30 (negsuc 32767) refl c.args.id (omega arith) (omega arith))

pub returns-in-12300-to-12329-clause-high : goal.returns-in-12300-to-12329-clause-high
unfolding high_of row_of find lies read_write_rows read_only_rows column
returns-in-12300-to-12329-clause-high c = sym (same_on high_of 0x300C 30 (pos 32767) refl c.args.id (omega arith) (omega arith))

pub returns-in-16386-to-16417-clause-low : goal.returns-in-16386-to-16417-clause-low
unfolding low_of row_of find lies read_write_rows read_only_rows column
returns-in-16386-to-16417-clause-low c = sym (same_on low_of 0x4002 32 (pos 0) refl c.args.id (omega arith) (omega arith))

pub returns-in-16386-to-16417-clause-high : goal.returns-in-16386-to-16417-clause-high
unfolding high_of row_of find lies read_write_rows read_only_rows column
returns-in-16386-to-16417-clause-high c = sym (same_on high_of 0x4002 32 (pos 20000) refl c.args.id (omega arith) (omega arith))

pub returns-in-16418-to-16449-clause-low : goal.returns-in-16418-to-16449-clause-low
unfolding low_of row_of find lies read_write_rows read_only_rows column
returns-in-16418-to-16449-clause-low c = sym (same_on low_of 0x4022 32 (pos 50) refl c.args.id (omega arith) (omega arith))

pub returns-in-16418-to-16449-clause-high : goal.returns-in-16418-to-16449-clause-high
unfolding high_of row_of find lies read_write_rows read_only_rows column
returns-in-16418-to-16449-clause-high c = sym (same_on high_of 0x4022 32 (pos 20000) refl c.args.id (omega arith) (omega arith))

pub returns-in_default-2-clause-low : goal.returns-in_default-2-clause-low
unfolding low_of row_of find lies read_write_rows read_only_rows column
returns-in_default-2-clause-low c = sym (same_on low_of 0x4000 2 (pos 0) refl c.args.id (omega arith) (omega arith))

pub returns-in_default-2-clause-high : goal.returns-in_default-2-clause-high
unfolding high_of row_of find lies read_write_rows read_only_rows column
returns-in_default-2-clause-high c = sym (same_on high_of 0x4000 2 (pos 65535) refl c.args.id (omega arith) (omega arith))

pub returns-in_default-3-clause-low : goal.returns-in_default-3-clause-low
unfolding low_of row_of find lies read_write_rows read_only_rows column
returns-in_default-3-clause-low c = sym (same_on low_of 0x4042 2 (pos 0) refl c.args.id (omega arith) (omega arith))

pub returns-in_default-3-clause-high : goal.returns-in_default-3-clause-high
unfolding high_of row_of find lies read_write_rows read_only_rows column
returns-in_default-3-clause-high c = sym (same_on high_of 0x4042 2 (pos 65535) refl c.args.id (omega arith) (omega arith))
