-- Demand 2, the overcurrent counts: start a machine from an accepted profile and run it as you like. The count of a
-- channel then says how often step 3 turned it off since the machine was last reset, as far as 65,535 reaches. A tick
-- refused with 9 did not happen and counts nothing, nor does a read of the text line. `m` is the machine before the
-- call, `bit` of true is 1 and of false 0. Assumes nothing: these are definitions.
use Rattle.memory.specs.Memory.{Store}
use Rattle.std.specs.Prelude.{ℕ, ◌+◌, ◌<◌, min, List, [], ◌∷◌, get_or}
use mathlib.Core.{Path.◌≡◌, Bool.Bool, Bool.true, Bool.false, Bool.not, Bool.◌&&◌, Bool.◌||◌}
use Rattle.channels.specs.Sets.{has, bit}
use Rattle.state.specs.{Parts.word_count, Start.keeps_the_rules, declared.parts.Profile.Profile}
use Rattle.unit.specs.{Machine.begun_of, declared.Machine.Machine}
use Rattle.unit.specs.Runs.{Sample, Call, tick, line, after_call, after, happens, after_step2}
use Rattle.groups.specs.Resets.{tells_reset}

-- ---- one tick
-- step 3 takes channel c off: it is named, and it is on
abbrev pub takes_off : ℕ → Machine → Sample → Bool
takes_off c m i = happens (word_count m.board) i && (has i.named c && has (after_step2 m i).channels.on c)

-- ---- a run
-- a tick of the run tells of a reset, by the watchdog or by an accepted 0xAA
unfoldable pub has_reset : Machine → List Call → Bool
has_reset m [] = false
has_reset m (tick i ∷ calls) = tells_reset m i || has_reset (after_call m (tick i)) calls
has_reset m (line received room ∷ calls) = has_reset (after_call m (line received room)) calls

-- the ticks in which step 3 took channel c off, and which no reset came after, nor in the same tick
unfoldable pub times_taken_off : ℕ → Machine → List Call → ℕ
times_taken_off c m [] = 0
times_taken_off c m (tick i ∷ calls) = bit (takes_off c m i && not (has_reset m (tick i ∷ calls))) + times_taken_off c (after_call m (tick i)) calls
times_taken_off c m (line received room ∷ calls) = times_taken_off c (after_call m (line received room)) calls

-- ---- the claim
pub record Counts (there : Machine) (profile : Profile) (store : Store) : Type 0 where
  pub counted : keeps_the_rules profile store ≡ true → (calls : List Call) (c : ℕ) → c < 32
      → get_or (after (begun_of there profile store).machine calls).board.channels.counts c 0 ≡ min (times_taken_off c (begun_of there profile store).machine calls) 65535
