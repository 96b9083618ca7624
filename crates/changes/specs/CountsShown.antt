-- Demand 2, the counts that 0x42 shows: start a machine from an accepted profile, run it as you like, and then have a
-- tick accept 0x42. In the reply that then waits, the two bytes at 14 + 2 * c, the lower first, are the number of times
-- that step 3 turned channel c off since the machine was last reset, this tick included, as far as 65,535 reaches.
-- Assumes nothing: these are definitions.
use Rattle.memory.specs.Memory.{Store}
use Rattle.std.specs.Prelude.{ℕ, ◌+◌, ◌*◌, ◌<◌, min, drop}
use mathlib.Core.{Path.◌≡◌, Bool.true, List.List, List.[], List.◌∷◌, List.◌++◌}
use Rattle.wire.specs.{Numbers.number, Replies.shown}
use Rattle.state.specs.{Start.keeps_the_rules, declared.parts.Profile.Profile}
use Rattle.unit.specs.{Machine.begun_of, declared.Machine.Machine, Runs.Sample, Runs.told, Runs.Call, Runs.tick, Runs.after}
use Rattle.groups.specs.Counts.{times_taken_off}
use Rattle.changes.specs.Accepted.{accepts_one_of}

module _ (there : Machine) (profile : Profile) (store : Store) where
  -- the machine as the start leaves it, and after some calls
  abbrev pub started : Machine
  started = (begun_of there profile store).machine

  abbrev pub reached : List Call → Machine
  reached calls = after started calls

  pub record CountsShown : Type 0 where
    pub count : keeps_the_rules profile store ≡ true → (calls : List Call) (i : Sample) → accepts_one_of (0x42 ∷ []) (reached calls) i ≡ true → (c : ℕ) → c < 32
        → number 2 (drop (14 + 2 * c) (shown (told (reached calls) i).machine.board.reply)) ≡ min (times_taken_off c started (calls ++ tick i ∷ [])) 65535
