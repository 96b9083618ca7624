-- What a tick leaves, by the result of its command step. Assumes nothing.
use Prim.Native.Nat.{ℕ, ◌≤◌, ◌<◌}
use mathlib.Core.Path.{◌≡◌, refl, sym, ap, ◌∙◌}
use mathlib.Core.Bool.{Bool}
use mathlib.Core.Logic.{⊎_elim}
use mathlib.Core.Option.{some}
use native.Mathlib.Omega.{arith}
use Rattle.laws.proofs.Lists.{lt_or_le}
use Rattle.watchdog.specs.Watchdog as dog
use Rattle.watchdog.specs.declared.Event.{Event}
use Rattle.watchdog.specs.declared.Event.TheVariants.{NoEvent, PeripheralReset, WatchdogReset}
use Rattle.watchdog.proofs.Laws.{disabled, early}
use Rattle.memory.specs.Limits.{timeout_of, limits_of}
use Rattle.state.specs.Parts.{with_reply}
use Rattle.state.specs.Start.{watchdog_reset_of}
use Rattle.answers.specs.Answers.{answer_number, silent_of, refused_of, not_this_board_of}
use Rattle.answers.specs.declared.Answer.{Answer}
use Rattle.answers.specs.declared.Outcome.TheVariants.{NoTransfer, Answered}
use Rattle.answers.specs.declared.Commanded.{Commanded}
use Rattle.commands.specs.Step.{commanded_of}
use Rattle.board.specs.Tick.{watched_as}
use Rattle.framing.specs.declared.Due.{Due}
use Rattle.unit.specs.Machine.{told_by}
use Rattle.unit.specs.declared.Machine.{Machine}
use Rattle.unit.specs.Runs.{Sample, told, after_step3}
use Rattle.refusals.specs.Conditions.{Sent, code, obeyed, answer, met_in, tick_answer}
use Rattle.refusals.specs.Refused.{stat_in, refusal, answered_and_fed}
use Rattle.refusals.specs.RefusedTicks.{quiet, replying, RefusedTick}
use Rattle.refusals.proofs.Results.{step, accepted_is, silent_is, elsewhere_is, refused_is}
use Rattle.refusals.proofs.Refused.{refusal_of_lem}
use Rattle.refusals.proofs.Answered.{happening, watched, told_is, answer_is, happens, sends}

-- ---- what a tick leaves, by what its command step made
-- a timer of 0 brings no event, whatever the timeout
quiet_at_0 : (w : ℕ) → dog.watched_of 0 w ≡ NoEvent
quiet_at_0 w =
    ⊎_elim
    (λ (on : 0 < w). early 0 w on on (omega arith))
    (λ (l : w ≤ 0). disabled 0 w (omega arith))
    (lt_or_le 0 w)

-- so none comes after a step that set it to 0
fed_quiet : (due : Due) (c : Commanded) → c.board.timer ≡ 0 → (watched due c).event ≡ NoEvent
fed_quiet due c z = rw (z, quiet_at_0 (dog.seconds_in_ticks (timeout_of c.board.memory)))

module _ (t : Sent) (due : Due) where
  -- the step of the same tick without its transfer
  abbrev unsent : Commanded
  unsent = silent_of NoTransfer t.board

  -- a step that makes no reply and leaves the board: the tick is as without the transfer
  silent_alike : (a : Answer)
      → ((watched due (silent_of (Answered a) t.board)).machine ≡ (watched due unsent).machine) × ((watched due (silent_of (Answered a) t.board)).event ≡ (watched due unsent).event)
  silent_alike a = go (happening unsent)
    where
      go : (e : Event)
          → ((told_by (watched_as e (silent_of (Answered a) t.board)) due).machine ≡ (told_by (watched_as e unsent) due).machine)
          × ((told_by (watched_as e (silent_of (Answered a) t.board)) due).event ≡ (told_by (watched_as e unsent) due).event)
      go NoEvent = (refl, refl)
      go PeripheralReset = (refl, refl)
      go WatchdogReset = (refl, refl)

  -- a step that answers another board's transfer: it leaves timer and settings, so the watchdog does what it would have
  -- done
  abbrev elsewhere : Commanded
  elsewhere = not_this_board_of (code t) t.board

  elsewhere_event : (watched due elsewhere).event ≡ (watched due unsent).event
  unfolding not_this_board_of
  elsewhere_event = go (happening unsent)
    where
      go : (e : Event) → (told_by (watched_as e elsewhere) due).event ≡ (told_by (watched_as e unsent) due).event
      go NoEvent = refl
      go PeripheralReset = refl
      go WatchdogReset = refl

  elsewhere_replies : ((watched due elsewhere).event ≡ WatchdogReset → ⊥) → (watched due elsewhere).machine ≡ replying (with_reply (refusal 3 t) (watched due unsent).machine.board)
  unfolding not_this_board_of stat_in
  elsewhere_replies n = go (happening unsent) n
    where
      go : (e : Event) → ((told_by (watched_as e elsewhere) due).event ≡ WatchdogReset → ⊥)
          → (told_by (watched_as e elsewhere) due).machine ≡ replying (with_reply (refusal 3 t) (told_by (watched_as e unsent) due).machine.board)
      go NoEvent n = refl
      go PeripheralReset n = refl
      go WatchdogReset n = absurd (n refl)

  -- a reset takes the reply
  elsewhere_resets : (watched due elsewhere).event ≡ WatchdogReset → (watched due elsewhere).machine ≡ (watched due unsent).machine
  unfolding not_this_board_of watchdog_reset_of
  elsewhere_resets r = go (happening unsent) r
    where
      go : (e : Event) → (told_by (watched_as e elsewhere) due).event ≡ WatchdogReset → (told_by (watched_as e elsewhere) due).machine ≡ (told_by (watched_as e unsent) due).machine
      go NoEvent r = let z : ◌≡◌ {A = ℕ} 0 1 = cc in absurd (omega arith)
      go PeripheralReset r = let z : ◌≡◌ {A = ℕ} 0 1 = cc in absurd (omega arith)
      go WatchdogReset r = refl

  -- a step that refuses a transfer of the board's own
  refused_alone : (a : Answer) (n : ℕ) → 4 ≤ n → answer_number a ≡ n
      → ((watched due (refused_of a (code t) t.board)).event ≡ NoEvent) × ((watched due (refused_of a (code t) t.board)).machine ≡ replying (answered_and_fed n t))
  unfolding refused_of
  refused_alone a n l e = rw (quiet_at_0 (dog.seconds_in_ticks (timeout_of t.board.memory))) (refl, rw (refusal_of_lem t a n l e))

-- ---- the whole tick
module _ (m : Machine) (i : Sample) where
  abbrev t : Sent
  t = met_in m i

  module _ (n : ℕ) (h : n ≤ 7) (q : tick_answer m i ≡ some n) where
    with_transfer : told m i ≡ watched m.due (obeyed t)
    with_transfer =
        let allowed = happens m i n h q in
        told_is m i allowed ∙ ap (λ (sent : Bool). watched m.due (commanded_of i.rail (limits_of m.board.memory) sent i.transfer (after_step3 m i))) (sends m i n allowed q)

    without_transfer : told m (quiet i) ≡ watched m.due (unsent t m.due)
    unfolding commanded_of
    without_transfer = told_is m (quiet i) (happens m i n h q)

    step_answer : answer t ≡ some n
    step_answer = let allowed = happens m i n h q in sym (answer_is m i allowed (sends m i n allowed q)) ∙ q

  as_without : (n : ℕ) → 1 ≤ n → n ≤ 2 → tick_answer m i ≡ some n → ((told m i).machine ≡ (told m (quiet i)).machine) × ((told m i).event ≡ (told m (quiet i)).event)
  as_without n l h q =
      let w = silent_is (obeyed t) (step t) n l h (step_answer n (omega arith) q) in
      rw (with_transfer n (omega arith) q, without_transfer n (omega arith) q, w.1) (silent_alike t m.due w.0)

  three : tick_answer m i ≡ some 3 → told m i ≡ watched m.due (elsewhere t m.due)
  three q = with_transfer 3 (omega arith) q ∙ ap (watched m.due) (elsewhere_is (obeyed t) (step t) (step_answer 3 (omega arith) q))

  accepted_no_event : tick_answer m i ≡ some 0 → (told m i).event ≡ NoEvent
  accepted_no_event q = rw (with_transfer 0 (omega arith) q) (fed_quiet m.due (obeyed t) (accepted_is (obeyed t) (step t) (step_answer 0 (omega arith) q)))

  refused_own : (n : ℕ) → 4 ≤ n → n ≤ 7 → tick_answer m i ≡ some n → ((told m i).event ≡ NoEvent) × ((told m i).machine ≡ replying (answered_and_fed n t))
  refused_own n l h q =
      let w = refused_is (obeyed t) (step t) n l (step_answer n h q) in
      rw (with_transfer n h q, w.2) (refused_alone t m.due w.0 n l w.1)

pub refused_tick : RefusedTick
refused_tick =
    record {
      as_without = λ m i n l h q. as_without m i n (omega arith) (omega arith) q;
      three_event = λ m i q. rw (three m i q, without_transfer m i 3 (omega arith) q) (elsewhere_event (met_in m i) m.due);
      three_replies = λ m i q r. rw (three m i q, without_transfer m i 3 (omega arith) q) (elsewhere_replies (met_in m i) m.due (rw (three m i q) at r));
      three_resets = λ m i q r. rw (three m i q, without_transfer m i 3 (omega arith) q) (elsewhere_resets (met_in m i) m.due (rw (three m i q) at r));
      accepted_no_event = accepted_no_event;
      refused_no_event = λ m i n l h q. (refused_own m i n (omega arith) (omega arith) q).0;
      as_after_step_3 = λ m i n l h q. (refused_own m i n (omega arith) (omega arith) q).1;
    }
