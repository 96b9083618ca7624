-- Demand 1, what a tick leaves whose command is refused. 1 and 2: machine and event are what they would be had nothing
-- been sent. 3: so are they, apart from the reply, which now waits and is due; a reset by the watchdog takes it away. 4
-- to 7: the reply and a timer of 0 are put on what step 3 left, and the watchdog stays quiet; quiet it stays after an
-- accepted command too. This holds of all machines and all ticks. Assumes nothing: these are definitions and the
-- statement of the claim.
use Rattle.std.specs.Prelude.{ℕ, ◌≤◌}
use mathlib.Core.{Path.◌≡◌, Bool.false, List.[], Option.some}
use Rattle.watchdog.specs.declared.Event.TheVariants.{NoEvent, WatchdogReset}
use Rattle.state.specs.{Parts.with_reply, Parts.with_timer, declared.parts.Board.Board}
use Rattle.framing.specs.declared.Due.TheVariants.{Reply}
use Rattle.unit.specs.{declared.Machine.Machine, Runs.Sample, Runs.told, Runs.after_step3}
use Rattle.refusals.specs.{Conditions.met_in, Conditions.tick_answer, Refused.refusal}

-- the same tick without its transfer
abbrev pub quiet : Sample → Sample
quiet i = record { rail = i.rail; named = i.named; words = i.words; sent = false; transfer = [] }

-- what is left where the reply is made and waits: it is also what the text line has to say
abbrev pub replying : Board → Machine
replying b = record { board = b; due = Reply }

pub record RefusedTick : Type 0 where
  -- 1 and 2
  pub as_without : (m : Machine) (i : Sample) (n : ℕ) → 1 ≤ n → n ≤ 2 → tick_answer m i ≡ some n
      → ((told m i).machine ≡ (told m (quiet i)).machine) × ((told m i).event ≡ (told m (quiet i)).event)
  -- 3: the event; and the machine, where the watchdog does not reset it and where it does
  pub three_event : (m : Machine) (i : Sample) → tick_answer m i ≡ some 3 → (told m i).event ≡ (told m (quiet i)).event
  pub three_replies : (m : Machine) (i : Sample) → tick_answer m i ≡ some 3 → ((told m i).event ≡ WatchdogReset → ⊥)
      → (told m i).machine ≡ replying (with_reply (refusal 3 (met_in m i)) (told m (quiet i)).machine.board)
  pub three_resets : (m : Machine) (i : Sample) → tick_answer m i ≡ some 3 → (told m i).event ≡ WatchdogReset → (told m i).machine ≡ (told m (quiet i)).machine
  -- 0, and 4 to 7
  pub accepted_no_event : (m : Machine) (i : Sample) → tick_answer m i ≡ some 0 → (told m i).event ≡ NoEvent
  pub refused_no_event : (m : Machine) (i : Sample) (n : ℕ) → 4 ≤ n → n ≤ 7 → tick_answer m i ≡ some n → (told m i).event ≡ NoEvent
  -- 4 to 7: steps 1 to 3, and then only the reply and the timer
  pub as_after_step_3 : (m : Machine) (i : Sample) (n : ℕ) → 4 ≤ n → n ≤ 7 → tick_answer m i ≡ some n
      → (told m i).machine ≡ replying (with_reply (refusal n (met_in m i)) (with_timer 0 (after_step3 m i)))
