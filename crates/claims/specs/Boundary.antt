-- Document 01's boundary table, row by row, as one claim over a list: each row gives a board, what one tick brings to
-- it and what is then seen, and the tick is `tick_with`, to which the contract of `board::tick` leads. Times are ticks
-- and thresholds millivolts, with the numbers of the rows: linger 100, emergency period 300, safety low 6500. Rows 5
-- and 6 name no rail and stand twice, with one at safety low and one below; the other rows that name none have one at
-- safety low; row 15 stands twice for its two values. `a ∷ b ∷ []` is a list of two. Assumes nothing: these are
-- definitions and the statement of the claim.
use Rattle.std.specs.Prelude.{ℕ, ◌+◌, ◌-◌, ◌/◌, ◌^◌}
use mathlib.Core.{Path.◌≡◌, Bool.true, Bool.false, Bool.cond, List.List, List.[], List.◌∷◌, List.◌++◌, List.map}
use Rattle.std.proofs.Math.Option.{Option, none, some}
use lib.{IntN.ℤ, IntN.pos, IntN.neg_ℤ, ListN.replicate}
use Rattle.wire.specs.Replies as replies
use Rattle.wire.specs.Numbers.{bytes_of}
use Rattle.value.specs.declared.ParamValue.TheVariants.{Uint16}
use Rattle.modes.specs.{Table.◌aged◌, Table.entered, declared.Mode.Mode, declared.ModeAge.ModeAge, declared.Limits.Limits}
use Rattle.modes.specs.declared.Mode.TheVariants.{Startup, Nominal, Safety, Emergency}
use Rattle.watchdog.specs.declared.Event.{Event}
use Rattle.watchdog.specs.declared.Event.TheVariants.{PeripheralReset, WatchdogReset}
use Rattle.memory.specs.Memory.{empty_store, set_in}
use Rattle.state.specs.{Parts.distribution_board, Parts.with_phase, Parts.with_timer, Parts.with_memory, Parts.with_channels, Start.fresh_of, Start.never_reset}
use Rattle.state.specs.declared.parts.Board.{Board}
use Rattle.answers.specs.Answers.{told_number}
use Rattle.board.specs.{Tick.tick_with, declared.Ticked.Ticked}

infix 90 +◌ −◌
abbrev pub +◌ : ℕ → ℤ
+ millivolts = pos millivolts

abbrev pub −◌ : ℕ → ℤ
− millivolts = neg_ℤ (pos millivolts)

-- ---- the rows
-- after a tick the mode stays, with the age that it then has, or it has changed and is at age 0
pub data Then : Type 0 where
  stays : Then
  leaves_for◌ : Mode → Then

infix 30 leaves_for◌
infix 20 row◌transfer◌number◌reply◌
infix 20 row◌transfer◌number◌no_reply
infix 20 row◌mode◌at_age◌rail◌then◌
infix 20 row◌fitted◌forced◌on◌command◌gives◌
infix 20 row◌timeout◌timer◌tells◌then◌
pub data Row : Type 0 where
  -- in nominal a transfer is answered with a number of the command table, and the tick makes this reply, or none
  row◌transfer◌number◌reply◌ : ℕ → List ℕ → ℕ → List ℕ → Row
  row◌transfer◌number◌no_reply : ℕ → List ℕ → ℕ → Row
  -- a mode, at an age after the rise, under a rail
  row◌mode◌at_age◌rail◌then◌ : ℕ → Mode → ℕ → ℤ → Then → Row
  -- in nominal, with these channels fitted, forced and on, a command leaves these on
  row◌fitted◌forced◌on◌command◌gives◌ : ℕ → List ℕ → List ℕ → List ℕ → List ℕ → List ℕ → Row
  -- in nominal, with this timeout and the timer at this value after the rise, step 5 tells this
  row◌timeout◌timer◌tells◌then◌ : ℕ → ℕ → ℕ → Event → Then → Row

-- the set of some channels, and the transfers that carry one as their mask
unfoldable pub set : List ℕ → ℕ
set [] = 0
set (c ∷ cs) = 2 ^ c + set cs

abbrev pub state : List ℕ → List ℕ
state cs = (0x11 ∷ 0x07 ∷ 0x14 ∷ 0x01 ∷ []) ++ bytes_of 2 (set cs)

abbrev pub off : List ℕ → List ℕ
off cs = (0x11 ∷ 0x07 ∷ 0x12 ∷ 0x01 ∷ []) ++ bytes_of 2 (set cs)

unfoldable pub rows : List Row
rows =
    (row 1 transfer (0x11 ∷ 0x07 ∷ 0x02 ∷ 0x01 ∷ []) number 0 reply (0x11 ∷ 0x07 ∷ 0x03 ∷ 0x01 ∷ 0x80 ∷ []))
    ∷ (row 2 transfer (0x11 ∷ 0x07 ∷ 0x02 ∷ 0x01 ∷ 0x00 ∷ []) number 0 reply (0x11 ∷ 0x07 ∷ 0x03 ∷ 0x01 ∷ 0x80 ∷ []))
    ∷ (row 3 transfer (0x11 ∷ 0x07 ∷ 0x02 ∷ []) number 1 no_reply)
    ∷ (row 4 transfer (0x11 ∷ 0x07 ∷ 0x03 ∷ 0x01 ∷ []) number 4 reply (0x11 ∷ 0x07 ∷ 0x03 ∷ 0x01 ∷ 0x02 ∷ []))
    ∷ (row 5 mode Startup at_age 49 rail (+ 6500) then stays)
    ∷ (row 5 mode Startup at_age 49 rail (+ 6499) then stays)
    ∷ (row 6 mode Startup at_age 50 rail (+ 6500) then leaves_for Nominal)
    ∷ (row 6 mode Startup at_age 50 rail (+ 6499) then leaves_for Safety)
    ∷ (row 7 mode Safety at_age 100 rail (+ 7001) then stays)
    ∷ (row 8 mode Safety at_age 101 rail (+ 7001) then leaves_for Nominal)
    ∷ (row 9 mode Emergency at_age 299 rail (− 20) then stays)
    ∷ (row 10 mode Emergency at_age 300 rail (− 20) then leaves_for Safety)
    ∷ (row 11 mode Nominal at_age 1 rail (− 20) then leaves_for Safety)
    ∷ (row 12 mode Nominal at_age 1 rail (+ 6500) then stays)
    ∷ (row 13 fitted (0 ∷ 1 ∷ 2 ∷ 3 ∷ []) forced (0 ∷ []) on (0 ∷ 1 ∷ []) command state (2 ∷ 3 ∷ []) gives (0 ∷ 2 ∷ 3 ∷ []))
    ∷ (row 14 fitted (0 ∷ 1 ∷ 2 ∷ 3 ∷ []) forced (0 ∷ []) on (0 ∷ 1 ∷ []) command off (0 ∷ 1 ∷ []) gives (0 ∷ []))
    ∷ (row 15 timeout 1000 timer 650 tells PeripheralReset then stays)
    ∷ (row 15 timeout 1000 timer 1000 tells WatchdogReset then leaves_for Startup)
    ∷ []

-- ---- what is seen after a tick: what it tells of its transfer and the reply that it made; mode and age; the channels
-- on; the watchdog's event, with mode and age
pub data Seen : Type 0 where
  the_answer◌and_reply◌ : Option ℕ → Option (List ℕ) → Seen
  the_mode◌ : ModeAge → Seen
  the_channels_on◌ : ℕ → Seen
  the_event◌and_mode◌ : Event → ModeAge → Seen

infix 10 the_answer◌and_reply◌
infix 10 the_mode◌
infix 10 the_channels_on◌
infix 10 the_event◌and_mode◌
-- ---- the tick of a row
-- linger, emergency period and safety low are the rows'. Of the thresholds that no row gives a number, safety high is
-- 7000, so that 7001 is above it, and the emergency thresholds are 6000 and 6400, so that -20 is a low rail.
abbrev pub limits : Limits
limits =
    record {
      linger = 100;
      period = 300;
      safety_low = + 6500;
      safety_high = + 7000;
      emergency_low = + 6000;
      emergency_high = + 6400;
    }

-- distribution board 1, started with nothing stored and then brought into a mode, at an age that the rise of the tick
-- makes one higher
abbrev pub board_in : Mode → ℕ → List ℕ → List ℕ → Board
board_in m age fs gs = with_phase (m aged (age - 1)) (fresh_of (distribution_board 1 (set fs) (set gs)) empty_store never_reset)

abbrev pub some_board : Mode → ℕ → Board
some_board m age = board_in m age (0 ∷ []) (0 ∷ [])

-- with these channels on, none of them latched
abbrev pub with_on : List ℕ → Board → Board
with_on cs b = with_channels (record { on = set cs; latched = 0; counts = replicate 32 0 }) b

-- with a timeout in ticks, which a board holds in seconds (0x4000), and the timer one below what the rise of the tick
-- makes of it
abbrev pub with_timeout : ℕ → ℕ → Board → Board
with_timeout w t b = with_timer (t - 1) (with_memory (set_in 0x4000 (Uint16 (w / 100)) b.memory) b)

-- a tick with a transfer, and one without; no overcurrent and no words
abbrev pub sending : List ℕ → Board → Ticked
sending s b = tick_with limits (+ 6500) 0 [] true s b

abbrev pub resting : ℤ → Board → Ticked
resting mv b = tick_with limits mv 0 [] false [] b

abbrev pub reply_made : Ticked → Option (List ℕ)
reply_made t = cond t.replied (some (replies.shown t.board.reply)) none

abbrev pub then_in : Mode → ℕ → Then → ModeAge
then_in m age stays = m aged age
then_in m age (leaves_for n) = entered n

-- ---- what is seen after the tick of a row, and what the row expects
abbrev pub seen : Row → Seen
seen (row n transfer s number k reply r) = the_answer told_number (sending s (some_board Nominal 1)).outcome and_reply reply_made (sending s (some_board Nominal 1))
seen (row n transfer s number k no_reply) = the_answer told_number (sending s (some_board Nominal 1)).outcome and_reply reply_made (sending s (some_board Nominal 1))
seen (row n mode m at_age age rail mv then what) = the_mode (resting mv (some_board m age)).board.phase
seen (row n fitted fs forced gs on cs command s gives ds) = the_channels_on (sending s (with_on cs (board_in Nominal 1 fs gs))).board.channels.on
seen (row n timeout w timer t tells e then what) =
    the_event (resting (+ 6500) (with_timeout w t (some_board Nominal 1))).event and_mode (resting (+ 6500) (with_timeout w t (some_board Nominal 1))).board.phase

abbrev pub expected : Row → Seen
expected (row n transfer s number k reply r) = the_answer some k and_reply some r
expected (row n transfer s number k no_reply) = the_answer some k and_reply none
expected (row n mode m at_age age rail mv then what) = the_mode then_in m age what
expected (row n fitted fs forced gs on cs command s gives ds) = the_channels_on set ds
expected (row n timeout w timer t tells e then what) = the_event e and_mode then_in Nominal 1 what

-- ---- the claim
abbrev pub BoundaryTable : Type 0
BoundaryTable = map seen rows ≡ map expected rows
