-- What a bench does with a machine, one call after another, and the machines that can be reached so. `rail` is in
-- millivolts with its sign, `named` the set of channels that reported overcurrent, `words` the words lent, `sent`
-- whether there is a transfer and `transfer` its bytes. Assumes nothing: these are definitions.
use mathlib.Core.{Path.◌≡◌, Bool.Bool, Bool.true, List.List, List.[], List.◌∷◌}
use Rattle.std.specs.Prelude.{ℕ}
use lib.{IntN.ℤ, ListN.length}
use Rattle.memory.specs.{Limits.limits_of, Memory.Store}
use Rattle.state.specs.{Start.keeps_the_rules, declared.parts.Board.Board, declared.parts.Profile.Profile}
use Rattle.commands.specs.Step.{commanded_of}
use Rattle.board.specs.Tick.{risen_of, changed_of, tripped_of, allowed_count}
use Rattle.unit.specs.{Machine.begun_of, Machine.told_of, Machine.heard_of, declared.Machine.Machine, declared.Told.Told}

-- what one tick brings
pub record Sample : Type 0 where
  pub rail : ℤ
  pub named : ℕ
  pub words : List ℕ
  pub sent : Bool
  pub transfer : List ℕ

-- what the tick tells, and the machine after it: the definition that the contract of `unit::tick` cites
abbrev pub told : Machine → Sample → Told
told m i = told_of i.rail i.named i.words i.sent i.transfer m

-- it happens on a board with that number of words: those lent are none or all
abbrev pub happens : ℕ → Sample → Bool
happens number i = allowed_count number (length i.words)

-- the board as steps 2, 3 and 4 of such a tick leave it
abbrev pub after_step2 : Machine → Sample → Board
after_step2 m i = changed_of i.rail (limits_of m.board.memory) (risen_of i.words m.board)

abbrev pub after_step3 : Machine → Sample → Board
after_step3 m i = tripped_of i.named (after_step2 m i)

abbrev pub after_step4 : Machine → Sample → Board
after_step4 m i = (commanded_of i.rail (limits_of m.board.memory) i.sent i.transfer (after_step3 m i)).board

-- a tick, which may be one that refusal 9 turns away, or a read of the text line with a scratch buffer of some room,
-- which may switch the form
pub data Call : Type 0 where
  tick : Sample → Call
  line : List ℕ → ℕ → Call

abbrev pub after_call : Machine → Call → Machine
after_call m (tick i) = (told m i).machine
after_call m (line received room) = (heard_of received room m).machine

-- the machine after some calls
unfoldable pub after : Machine → List Call → Machine
after m [] = m
after m (call ∷ calls) = after (after_call m call) calls

-- a machine that can be reached: a start from an accepted profile, whatever stood there before, and then any calls
pub record Reached (m : Machine) : Type 0 where
  pub there : Machine
  pub profile : Profile
  pub store : Store
  pub accepted : keeps_the_rules profile store ≡ true
  pub past : List Call
  pub is : m ≡ after (begun_of there profile store).machine past
