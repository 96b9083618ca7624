-- A board that is changed part by part comes to the board that the five steps speak of. Assumes nothing.
use Prim.Native.Nat.{ℕ}
use mathlib.Core.Bool.{Bool, true, false, cond, ◌&&◌, false≢true}
use mathlib.Core.List.{List, []}
use mathlib.Core.Path.{◌≡◌, refl, sym, ◌∙◌}
use lib.Dec.{eqb}
use lib.IntN.{ℤ}
use lib.ListN.{length}
use Rattle.laws.proofs.Cases.{neither}
use Rattle.modes.specs.declared.Limits.{Limits}
use Rattle.watchdog.specs.Watchdog as dog
use Rattle.watchdog.specs.declared.Event.{Event}
use Rattle.watchdog.specs.declared.Event.TheVariants.{NoEvent, PeripheralReset, WatchdogReset}
use Rattle.memory.specs.Limits.{timeout_of, limits_of}
use Rattle.state.specs.Start.{watchdog_reset_of}
use Rattle.state.specs.Parts.{word_count}
use Rattle.state.specs.declared.parts.Board.{Board}
use Rattle.state.specs.declared.parts.Measured.{Measured}
use Rattle.answers.specs.declared.Commanded.{Commanded}
use Rattle.answers.specs.declared.Outcome.{Outcome}
use Rattle.answers.specs.declared.Outcome.TheVariants.{WrongWordCount, NoTransfer}
use Rattle.commands.specs.Step.{commanded_of}
use Rattle.board.specs.declared.Settled.{Settled}
use Rattle.board.specs.declared.Ticked.{Ticked}
use Rattle.board.specs.Parts.{settled_in, is_reset}
use Rattle.board.specs.Tick.{brought_by, risen_of, changed_of, tripped_of, watched_as, watched_in, tick_with, allowed_count, tick_of}

-- ---- before the command
-- a board with these parts put in, and its other parts as they were
abbrev pub placed : Settled → Measured → Board → Board
placed s m b =
    record {
      phase = s.phase;
      timer = s.timer;
      reply = b.reply;
      memory = b.memory;
      channels = s.channels;
      profile = b.profile;
      measured = m;
      resets = s.resets;
      form = b.form;
    }

module _ (rail : ℤ) (limits : Limits) (named : ℕ) (words : List ℕ) (b : Board) where
  -- the board as the command finds it
  abbrev pub found : Board
  found = tripped_of named (changed_of rail limits (risen_of words b))

  -- where the tick does not happen, the words that are held stay, and so does each part
  pub found_apart : (happens : Bool) → allowed_count (word_count b) (length words) ≡ happens → {rail' : ℤ} {limits' : Limits} (s : Settled) (m : Measured)
      → rail' ≡ rail
      → limits' ≡ limits
      → s ≡ settled_in (cond happens (tripped_of named (changed_of rail' limits' (risen_of [] b))) b)
      → m ≡ brought_by (word_count b) words b.measured
      → placed s m b ≡ cond happens found b
  unfolding risen_of changed_of tripped_of allowed_count brought_by
  found_apart true allowed s m re le se me = rw (se, me, re, le)
  found_apart false refused s m re le se me = rw (se, me, (neither (eqb (length words) 0) _ refused).1)

-- ---- the command
-- where none was sent, nothing changes and nothing is made
pub none_sent : (rail : ℤ) (limits : Limits) (sent : Bool) (s : List ℕ) (b : Board) → sent ≡ false
    → ◌≡◌ {A = Commanded} (record { board = b; outcome = NoTransfer; replied = false }) (commanded_of rail limits sent s b)
unfolding commanded_of
none_sent rail limits sent s b e = rw e

-- where one was sent, what the command made is put together again
pub one_sent : {rail rail' : ℤ} {limits limits' : Limits} (sent : Bool) (s : List ℕ) {b b' : Board} (c : Commanded) (board : Board) (outcome : Outcome) (replied : Bool)
    → rail' ≡ rail
    → limits' ≡ limits
    → b' ≡ b
    → c ≡ commanded_of rail' limits' sent s b'
    → board ≡ c.board
    → outcome ≡ c.outcome
    → replied ≡ c.replied
    → ◌≡◌ {A = Commanded} (record { board = board; outcome = outcome; replied = replied }) (commanded_of rail limits sent s b)
one_sent sent s c board outcome replied re le be made e f g = rw (e, f, g, ← re, ← le, ← be) made

-- a transfer is looked at only in a tick that happens; where none is, the tick tells that there was none, or that it
-- did not happen
abbrev pub not_heard : Board → Commanded
not_heard b = record { board = b; outcome = WrongWordCount; replied = false }

module _ (rail : ℤ) (limits : Limits) (sent : Bool) (s : List ℕ) (b found : Board) where
  abbrev pub obeyed_where : Bool → Commanded
  obeyed_where happens = cond happens (commanded_of rail limits sent s found) (not_heard b)

  pub heard : (happens : Bool) → (happens && sent) ≡ true → (made : Commanded) → made ≡ commanded_of rail limits sent s (cond happens found b) → made ≡ obeyed_where happens
  heard true both made e = e
  heard false none made e = absurd (false≢true none)

  pub unheard : (happens : Bool) → (happens && sent) ≡ false → {board : Board} {outcome : Outcome} {replied : Bool}
      → board ≡ cond happens found b
      → outcome ≡ cond happens NoTransfer WrongWordCount
      → replied ≡ false
      → ◌≡◌ {A = Commanded} (record { board = board; outcome = outcome; replied = replied }) (obeyed_where happens)
  unheard true none e f g = rw (e, f, g) (none_sent rail limits sent s found none)
  unheard false none e f g = rw (e, f, g)

-- ---- behind the command
-- with no reset everything stays, with one the board starts over and the reply is lost
keeps : (e : Event) (c : Commanded) → is_reset e ≡ false → ◌≡◌ {A = Ticked} (record { board = c.board; outcome = c.outcome; event = e; replied = c.replied }) (watched_as e c)
unfolding is_reset
keeps NoEvent c q = refl
keeps PeripheralReset c q = refl
keeps WatchdogReset c q = absurd (false≢true (sym q))

loses : (e : Event) (c : Commanded) → is_reset e ≡ true → ◌≡◌ {A = Ticked} (record { board = watchdog_reset_of c.board; outcome = c.outcome; event = e; replied = false }) (watched_as e c)
unfolding is_reset
loses NoEvent c q = absurd (false≢true q)
loses PeripheralReset c q = absurd (false≢true q)
loses WatchdogReset c q = refl

-- ---- the whole tick, from what the command made of the board and what the watchdog does
module _ (rail : ℤ) (named : ℕ) (words : List ℕ) (sent : Bool) (s : List ℕ) (b : Board) where
  abbrev obeyed_in : Bool → Commanded
  obeyed_in = obeyed_where rail (limits_of b.memory) sent s b (found rail (limits_of b.memory) named words b)

  abbrev watched_where : Bool → Commanded → Event
  watched_where happens c = cond happens (dog.watched_of c.board.timer (dog.seconds_in_ticks (timeout_of c.board.memory))) NoEvent

  -- a tick that happens ends with the watchdog, and one that does not leaves the board
  ends : (happens : Bool) → allowed_count (word_count b) (length words) ≡ happens → watched_as (watched_where happens (obeyed_in happens)) (obeyed_in happens) ≡ tick_of rail named words sent s b
  unfolding tick_of tick_with watched_in
  ends true allowed = rw allowed
  ends false refused = rw refused

  module _ (happens : Bool) (is : allowed_count (word_count b) (length words) ≡ happens) (c : Commanded) (obeyed : c ≡ obeyed_in happens) (e : Event) (watched : e ≡ watched_where happens c) where
    reached : watched_as e c ≡ tick_of rail named words sent s b
    reached = rw (watched, obeyed) (ends happens is)

    pub kept : is_reset e ≡ false → ◌≡◌ {A = Ticked} (record { board = c.board; outcome = c.outcome; event = e; replied = c.replied }) (tick_of rail named words sent s b)
    kept q = keeps e c q ∙ reached

    pub lost : is_reset e ≡ true → ◌≡◌ {A = Ticked} (record { board = watchdog_reset_of c.board; outcome = c.outcome; event = e; replied = false }) (tick_of rail named words sent s b)
    lost q = loses e c q ∙ reached
