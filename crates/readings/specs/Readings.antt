-- Two kinds of reading: a raw one is a word as it was measured, an engineering one a whole number of its field's unit.
-- From raw to engineering lead Table 3-12 and, for the temperature of a pack, Table 3-13; a status word goes out as it
-- is. Here are the words that either has on the wire, and the raw readings that words are from the moment they come in.
-- `record { 0 = x }` is a reading of x, and `r.0` what r is a reading of. Assumes nothing: these are definitions.
use Rattle.std.specs.Prelude.{ℕ, List, ◌++◌, map, length, take, drop, replicate}
use Rattle.wire.specs.Numbers.{pattern}
use Rattle.kinds.specs.Kinds.{word_room}
use Rattle.readings.specs.declared.apart.Raw.{Raw}
use Rattle.readings.specs.declared.apart.Engineering.{Engineering}

-- ---- raw readings
-- a word that was measured
abbrev pub raw_of : ℕ → Raw
raw_of word = record { 0 = word }

-- before any words they are 0
abbrev pub none_measured : List Raw
none_measured = replicate word_room (raw_of 0)

-- words that came, as many as there is room for, and behind them 0: the room is that of the board with the most words
unfoldable pub measured_as : List ℕ → List Raw
measured_as words = take word_room (map raw_of words) ++ drop (length words) none_measured

-- the words on the wire are those that were measured
unfoldable pub raw_words : List Raw → List ℕ
raw_words raws = map (λ (r : Raw). r.0) raws

-- ---- engineering readings
-- the words on the wire are int16, in two's complement
unfoldable pub engineering_words : List Engineering → List ℕ
engineering_words readings = map (λ (r : Engineering). pattern 2 r.0) readings
