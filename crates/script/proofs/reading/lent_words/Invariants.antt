-- The words that are left, stored behind those so far. Assumes nothing.
use Rattle.std.proofs.Common.{◌≡◌, ◌-◌, ◌*◌, drop}
use lib.Seq.{sets}
use Rattle.script.specs.Reading.{words_of}
use Rattle.script.proofs.reading.lent_words.Given as goal

abbrev pub invariant-loop-i : goal.invariant-loop-i
invariant-loop-i l = sets l.ws l.i (words_of (512 - l.i) (drop (2 * l.i) l.bytes)) ≡ words_of 512 l.bytes
