-- A value's bytes in a room of eight. Only private functions' contracts cite this. Assumes nothing: these are
-- definitions.
use Rattle.std.specs.Prelude.{ℕ, ◌-◌, List, ◌++◌, length, replicate}
use Rattle.value.specs.declared.ValueBytes.{ValueBytes}

-- the bytes, and zeros behind them
unfoldable pub roomed : List ℕ → ValueBytes
roomed bytes = record { len = length bytes; bytes = bytes ++ replicate (8 - length bytes) 0 }
