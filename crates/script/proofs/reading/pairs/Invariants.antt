-- The pairs that are left, counted behind those so far and stored behind what they stored. Assumes nothing.
use Rattle.std.proofs.Common.{◌≡◌, ◌*◌, length, drop}
use lib.Seq.{sets}
use Rattle.script.specs.Reading.{count_of, sound}
use Rattle.script.proofs.reading.pairs.Given as goal

abbrev pub invariant-loop-k : goal.invariant-loop-k
invariant-loop-k l = record {
  counted : count_of l.k (length l.initial.out) (drop (2 * l.k) l.text) ≡ count_of 0 (length l.initial.out) l.text;
  held : sets l.out l.k (sound (drop (2 * l.k) l.text)) ≡ sets l.initial.out 0 (sound l.text);
}
