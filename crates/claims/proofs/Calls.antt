-- How a property of boards is carried through a tick, through a call that is no tick, through any calls, and to every
-- machine that can be reached. Assumes nothing.
use Prim.Native.Nat.{ℕ}
use mathlib.Core.Path.{◌≡◌, refl, sym, ap, subst}
use mathlib.Core.Bool.{Bool, true, false, false≢true}
use mathlib.Core.List.{List, [], ◌∷◌}
use lib.IntN.{ℤ}
use lib.ListN.{length}
use Rattle.memory.specs.Memory.{Store}
use Rattle.laws.proofs.Cases.{cases}
use Rattle.wire.specs.declared.forms.Form.{Form}
use Rattle.watchdog.specs.Watchdog as dog
use Rattle.watchdog.specs.declared.Event.{Event}
use Rattle.watchdog.specs.declared.Event.TheVariants.{NoEvent, PeripheralReset, WatchdogReset}
use Rattle.memory.specs.Limits.{timeout_of, limits_of}
use Rattle.state.specs.Parts.{word_count, with_form}
use Rattle.state.specs.Start.{fresh_of, never_reset, keeps_the_rules, start_of, watchdog_reset_of}
use Rattle.state.specs.declared.parts.Board.{Board}
use Rattle.state.specs.declared.parts.Profile.{Profile}
use Rattle.answers.specs.declared.Commanded.{Commanded}
use Rattle.commands.specs.Step.{commanded_of}
use Rattle.board.specs.Tick.{risen_of, changed_of, tripped_of, watched_as, watched_in, tick_with, allowed_count, tick_of}
use Rattle.board.specs.declared.Ticked.{Ticked}
use Rattle.std.specs.Prelude.{Ok, Err}
use Rattle.reading.specs.Lines.{LineAnswer, line_of}
use Rattle.reading.specs.declared.Line.TheVariants.{Command, Switch}
use Rattle.unit.specs.Machine.{begun_of, after_line, heard_of}
use Rattle.unit.specs.declared.Machine.{Machine}
use Rattle.unit.proofs.Laws.{refused_tick_leaves}
use Rattle.unit.specs.Runs.{Sample, told, Call, tick, line, after_call, after, Reached}
use Rattle.claims.specs.Power.{is_tick}

-- ---- a tick that happens
module _ (rail : ℤ) (named : ℕ) (words : List ℕ) (sent : Bool) (s : List ℕ) (b : Board) where
  -- the board as the command finds it, what the command leaves, and what the watchdog makes of it
  abbrev pub found : Board
  found = tripped_of named (changed_of rail (limits_of b.memory) (risen_of words b))

  abbrev pub obeyed : Commanded
  obeyed = commanded_of rail (limits_of b.memory) sent s found

  abbrev pub happening : Event
  happening = dog.watched_of obeyed.board.timer (dog.seconds_in_ticks (timeout_of obeyed.board.memory))

  -- the tick is what the watchdog makes of what the command leaves
  pub tick_is : allowed_count (word_count b) (length words) ≡ true → tick_of rail named words sent s b ≡ watched_as happening obeyed
  unfolding tick_of tick_with watched_in
  tick_is allowed = rw allowed

  -- what holds of the board that the command leaves, and of its reset, holds after the tick
  pub by_tick : (P : Board → Type 0) → allowed_count (word_count b) (length words) ≡ true → P obeyed.board → P (watchdog_reset_of obeyed.board) → P (tick_of rail named words sent s b).board
  by_tick P allowed p r = subst (λ (t : Ticked). P t.board) (sym (tick_is allowed)) (watched happening)
    where
      watched : (e : Event) → P (watched_as e obeyed).board
      watched NoEvent = p
      watched PeripheralReset = p
      watched WatchdogReset = r

-- ---- a call that is no tick leaves the board, but for the form of the text line
pub record AllButForm (b c : Board) : Type 0 where
  pub form : Form
  pub is : c ≡ with_form form b

-- a read of the text line switches the form, at most
line_rests : (l : LineAnswer) (m : Machine) → AllButForm m.board (after_line l m).board
line_rests (Ok (Switch form behind)) m = record { form = form; is = refl }
line_rests (Ok (Command start end behind)) m = record { form = m.board.form; is = refl }
line_rests (Err refusal) m = record { form = m.board.form; is = refl }

-- a tick that does not happen alters nothing
pub rests : (m : Machine) (call : Call) → is_tick (word_count m.board) call ≡ false → AllButForm m.board (after_call m call).board
unfolding heard_of
rests m (tick i) e = record { form = m.board.form; is = ap (λ (x : Machine). x.board) (refused_tick_leaves i.rail i.named i.words i.sent i.transfer m e) }
rests m (line received room) e = line_rests (line_of m.board.form received room) m

-- ---- any calls, and what can be reached
module _ (P : Board → Type 0) (of-form : (form : Form) (b : Board) → P b → P (with_form form b)) (of-tick : (m : Machine) (i : Sample) → is_tick (word_count m.board) (tick i) ≡ true → P m.board → P (told m i).machine.board) where
  -- one call
  pub by_call : (m : Machine) (call : Call) → P m.board → P (after_call m call).board
  by_call m call p = cases (is_tick (word_count m.board) call) (ticks call) (λ e. let r = rests m call e in subst P (sym r.is) (of-form r.form m.board p))
    where
      ticks : (call : Call) → is_tick (word_count m.board) call ≡ true → P (after_call m call).board
      ticks (tick i) e = of-tick m i e p
      ticks (line received room) e = absurd (false≢true e)

  -- any calls
  pub by_calls : (calls : List Call) (m : Machine) → P m.board → P (after m calls).board
  unfolding after
  by_calls [] m p = p
  by_calls (call ∷ calls) m p = by_calls calls (after_call m call) (by_call m call p)

-- a start from an accepted profile is a fresh board
pub begun_is : (there : Machine) (profile : Profile) (store : Store) → keeps_the_rules profile store ≡ true → (begun_of there profile store).machine.board ≡ fresh_of profile store never_reset
unfolding begun_of start_of
begun_is there profile store accepted = rw accepted

module _ (P : Board → Type 0) (of-start : (profile : Profile) (store : Store) → P (fresh_of profile store never_reset))
    (of-form : (form : Form) (b : Board) → P b → P (with_form form b)) (of-tick : (m : Machine) (i : Sample) → is_tick (word_count m.board) (tick i) ≡ true → P m.board → P (told m i).machine.board) where
  pub by_reach : (m : Machine) → Reached m → P m.board
  by_reach m r =
      let begun = (begun_of r.there r.profile r.store).machine in
      let start : P begun.board = subst P (sym (begun_is r.there r.profile r.store r.accepted)) (of-start r.profile r.store) in
      subst (λ (x : Machine). P x.board) (sym r.is) (by_calls P of-form of-tick r.past begun start)
