-- The six programs that document 01 wants caught, where it says how tight the contracts are. Each differs from the
-- machine no more than what is said of it asks. Each is caught on a run of a tick or two on a board that was started
-- and came into nominal: document 01's machine then shows one thing and the program another. And each breaks a claim,
-- which document 01's machine keeps, of the kind that document 01 names for it; for the tick that changes nothing it
-- names none, and the claim is one of demand 2. Assumes nothing: these are definitions.
use Rattle.std.specs.Prelude.{ℕ, ◌<◌, min}
use mathlib.Core.{Path.◌≡◌, Bool.Bool, Bool.true, Bool.false, Bool.cond, Bool.not, Bool.◌&&◌}
use mathlib.Core.{List.List, List.[], List.◌∷◌, List.◌++◌, List.map, Option.Option, Option.some}
use lib.{IntN.ℤ, IntN.pos, ListN.length, ListN.get_or, ListN.replicate}
use Rattle.wire.specs.Replies.{shown, reply_code}
use Rattle.modes.specs.{Table.same, Table.step_of, Table.older_of, declared.Mode.Mode, declared.Limits.Limits}
use Rattle.modes.specs.declared.Mode.TheVariants.{Nominal, Safety}
use Rattle.channels.specs.{Chan.chan, Operations.overcurrent_at, Counting.count_all, declared.Channels.Channels}
use Rattle.kinds.specs.Kinds.{is_in}
use Rattle.command.specs.Decode.{code_of}
use Rattle.memory.specs.{Limits.limits_of, Memory.empty_store, Memory.Store}
use Rattle.state.specs.Parts.{distribution_board, word_count, mode_of, with_phase, with_channels, with_reply}
use Rattle.state.specs.{Start.keeps_the_rules, declared.parts.Board.Board, declared.parts.Profile.Profile}
use Rattle.answers.specs.Answers.{answer_number, told_number, short_to, silent_of, not_this_board_of, refused_of}
use Rattle.answers.specs.{declared.Answer.Answer, declared.Commanded.Commanded}
use Rattle.answers.specs.declared.Answer.TheVariants.{Accepted, FewerThanFourBytes, InStartup, NotThisBoard, CodeNotListed, TooShort, NotAvailable, Wrong}
use Rattle.answers.specs.declared.Outcome.TheVariants.{Answered}
use Rattle.commands.specs.Step.{commanded_of}
use Rattle.board.specs.Tick.{risen_of, changed_of, tripped_of, watched_in, allowed_count, not_happened}
use Rattle.board.specs.declared.Ticked.{Ticked}
use Rattle.unit.specs.{Machine.no_machine, Machine.begun_of, Machine.told_by, declared.Machine.Machine, declared.Told.Told}
use Rattle.unit.specs.Runs.{Sample, told, happens, after_step3, Call, tick, after}
use Rattle.refusals.specs.Conditions.{Given, met_in}
use Rattle.groups.specs.{Groups.sentences, Groups.made_by, Resets.is_by_watchdog, Resets.is_accepted, Counts.times_taken_off}

-- ---- programs
-- a program has a state of its own, which it makes of the machine in whose place it is put; by each tick it tells
-- something, the machine that it shows included
pub record Program : Type 1 where
  pub State : Type 0
  pub start : Machine → State
  pub tells : State → Sample → Told
  pub next : State → Sample → State

-- a program whose state is the machine that it shows
abbrev pub showing : (Machine → Sample → Told) → Program
showing tells = record { State = Machine; start = λ m. m; tells = tells; next = λ m i. (tells m i).machine }

-- document 01's machine
abbrev pub document01 : Program
document01 = showing told

-- what a program in the place of m tells at the last tick of a run
unfoldable pub state_after : (p : Program) → p.State → List Sample → p.State
state_after p s [] = s
state_after p s (i ∷ is) = state_after p (p.next s i) is

abbrev pub last_told : Program → Machine → List Sample → Sample → Told
last_told p m before last = p.tells (state_after p (p.start m) before) last

-- ---- the tick of document 01 with another step 3 or step 4 in it
module _ (three : ℕ → Board → Board) (four : ℤ → Limits → Bool → List ℕ → Board → Commanded) where
  unfoldable pub ticked_with : Sample → Board → Ticked
  ticked_with i b =
      let limits = limits_of b.memory in
      let changed = changed_of i.rail limits (risen_of i.words b) in
      cond (not (allowed_count (word_count b) (length i.words))) (not_happened b)
      (watched_in (four i.rail limits i.sent i.transfer (three i.named changed)))

  abbrev pub told_with : Machine → Sample → Told
  told_with m i = told_by (ticked_with i m.board) m.due

-- ---- the six
-- 1. refuses all: what the machine accepts is refused with a, whichever answer but 0 that is, and leaves what a leaves;
-- all else is the machine's
abbrev pub refused_as : Answer → ℕ → Board → Commanded
refused_as Accepted code b = refused_of Wrong code b
refused_as FewerThanFourBytes code b = silent_of (Answered FewerThanFourBytes) b
refused_as InStartup code b = silent_of (Answered InStartup) b
refused_as NotThisBoard code b = not_this_board_of code b
refused_as CodeNotListed code b = refused_of CodeNotListed code b
refused_as TooShort code b = refused_of TooShort code b
refused_as NotAvailable code b = refused_of NotAvailable code b
refused_as Wrong code b = refused_of Wrong code b

unfoldable pub refusing : Answer → ℤ → Limits → Bool → List ℕ → Board → Commanded
refusing a rail limits sent s b =
    cond (is_accepted (told_number (commanded_of rail limits sent s b).outcome)) (refused_as a (code_of s) b) (commanded_of rail limits sent s b)

abbrev pub refuses_all : Answer → Program
refuses_all a = showing (told_with tripped_of (refusing a))

-- 2. has the NOOP reply for every command: each command does what it should, and where it makes a reply, that is the
-- reply of an accepted 0x02
abbrev pub noop_for : Commanded → Board → Commanded
noop_for c b = record { board = with_reply (short_to 0x02 Accepted b) c.board; outcome = c.outcome; replied = true }

unfoldable pub replying_noop : ℤ → Limits → Bool → List ℕ → Board → Commanded
replying_noop rail limits sent s b = cond (commanded_of rail limits sent s b).replied (noop_for (commanded_of rail limits sent s b) b) (commanded_of rail limits sent s b)

abbrev pub answers_noop : Program
answers_noop = showing (told_with tripped_of replying_noop)

-- 3. stays in safety: once there, each tick that happens shows safety, one tick older, whatever it did besides
abbrev pub in_phase_of : Board → Told → Told
in_phase_of b t =
    record {
      machine = record { board = with_phase (older_of b.phase) t.machine.board; due = t.machine.due };
      outcome = t.outcome;
      event = t.event;
      replied = t.replied;
    }

unfoldable pub staying_in_safety : Machine → Sample → Told
staying_in_safety m i = cond (happens (word_count m.board) i && same (mode_of m.board) Safety) (in_phase_of m.board (told m i)) (told m i)

abbrev pub stays_in_safety : Program
stays_in_safety = showing staying_in_safety

-- 4. a tick that changes nothing: it tells what the machine tells, and shows the machine as it was
unfoldable pub unchanged : Machine → Sample → Told
unchanged m i = record { machine = m; outcome = (told m i).outcome; event = (told m i).event; replied = (told m i).replied }

abbrev pub changes_nothing : Program
changes_nothing = showing unchanged

-- 5. obeys one tick, the first, and tells at each later one what it told there
pub data Once : Type 0 where
  fresh : Machine → Once
  done : Told → Once

abbrev pub first_told : Once → Sample → Told
first_told (fresh m) i = told m i
first_told (done t) i = t

abbrev pub repeats_the_first : Program
repeats_the_first = record { State = Once; start = fresh; tells = first_told; next = λ s i. done (first_told s i) }

-- 6. makes up overcurrent counts: step 3 counts every channel that is named, on or not; on and latched are the
-- machine's
abbrev pub with_counts : List ℕ → Channels → Channels
with_counts counts ch = record { on = ch.on; latched = ch.latched; counts = counts }

unfoldable pub counting_all_named : ℕ → Board → Board
counting_all_named named b = with_channels (with_counts (count_all named b.channels.counts) (overcurrent_at named b.channels)) b

abbrev pub makes_up_counts : Program
makes_up_counts = showing (told_with counting_all_named commanded_of)

-- ---- the runs
-- distribution board 1 has channels 0 to 3, of which 0 is forced
abbrev pub profile : Profile
profile = distribution_board 1 0b1111 0b0001

abbrev pub begun : Machine
begun = (begun_of no_machine profile empty_store).machine

-- a tick at a rail in millivolts, without a transfer or with one, and one with overcurrent reported besides
abbrev pub quiet : ℕ → Sample
quiet rail = record { rail = pos rail; named = 0; words = []; sent = false; transfer = [] }

abbrev pub sending : ℕ → List ℕ → Sample
sending rail s = record { rail = pos rail; named = 0; words = []; sent = true; transfer = s }

abbrev pub reporting : ℕ → List ℕ → Sample
reporting set s = record { rail = pos 15000; named = set; words = []; sent = true; transfer = s }

abbrev pub noop : List ℕ
noop = 0x11 ∷ 0x07 ∷ 0x02 ∷ 0x01 ∷ []

-- 0x10 for channels 0 to 3
abbrev pub group_on : List ℕ
group_on = 0x11 ∷ 0x07 ∷ 0x10 ∷ 0x01 ∷ 0x0F ∷ 0x00 ∷ []

abbrev pub to_nominal : List ℕ
to_nominal = 0x11 ∷ 0x07 ∷ 0x30 ∷ 0x01 ∷ []

abbrev pub faults : List ℕ
faults = 0x11 ∷ 0x07 ∷ 0x42 ∷ 0x01 ∷ []

-- the machine on which the runs begin: 50 quiet ticks after its start it has come into nominal, with channel 0 on
abbrev pub awake : Machine
awake = after begun (replicate 50 (tick (quiet 15000)))

-- what is looked at
abbrev pub reply : Told → List ℕ
reply t = shown t.machine.board.reply

abbrev pub mode : Told → Mode
mode t = mode_of t.machine.board

abbrev pub on : Told → ℕ
on t = t.machine.board.channels.on

abbrev pub reply_byte : ℕ → Told → ℕ
reply_byte place t = get_or (reply t) place 0

abbrev pub answer : Told → Option ℕ
answer t = told_number t.outcome

-- ---- the claim
-- a program is caught: put in the place of that machine and run, it shows one thing at the last tick, and document 01's
-- machine another
pub record Caught {A : Type 0} (p : Program) (sees : Told → A) (before : List Sample) (last : Sample) (right wrong : A) : Type 0 where
  pub machine_shows : sees (last_told document01 awake before last) ≡ right
  pub program_shows : sees (last_told p awake before last) ≡ wrong
  pub differ : right ≡ wrong → ⊥

pub record AllCaught : Type 0 where
  -- a NOOP is answered 0, and by the first program with its refusal, whichever that is
  pub refuses_all : (a : Answer) → (answer_number a ≡ 0 → ⊥) → Caught (refuses_all a) answer [] (sending 15000 noop) (some 0) (some (answer_number a))
  -- the reply to 0x10 has the code 0x11, and that of the second program 0x03
  pub answers_noop : Caught answers_noop reply [] (sending 15000 group_on) (0x11 ∷ 0x07 ∷ 0x11 ∷ 0x01 ∷ 0x80 ∷ []) (0x11 ∷ 0x07 ∷ 0x03 ∷ 0x01 ∷ 0x80 ∷ [])
  -- a rail of 0 mV leads into safety, and 0x30 at a good rail out of it
  pub stays_in_safety : Caught stays_in_safety mode (quiet 0 ∷ []) (sending 15000 to_nominal) Nominal Safety
  -- 0x10 turns channels 1 to 3 on
  pub changes_nothing : Caught changes_nothing on [] (sending 15000 group_on) 0b1111 0b0001
  -- a NOOP, and then 0x10, which has a reply of its own
  pub repeats_the_first : Caught repeats_the_first reply (sending 15000 noop ∷ []) (sending 15000 group_on) (0x11 ∷ 0x07 ∷ 0x11 ∷ 0x01 ∷ 0x80 ∷ []) (0x11 ∷ 0x07 ∷ 0x03 ∷ 0x01 ∷ 0x80 ∷ [])
  -- overcurrent is reported of channel 1, which is off, and 0x42 asks for the counts: that of channel 1 stands at byte
  -- 14 + 2
  pub makes_up_counts : Caught makes_up_counts (reply_byte 16) [] (reporting 0b0010 faults) 0 1

-- ---- what each of them breaks
-- a sentence on one tick: of the machine before it, of what the tick brings, and of what is told
abbrev pub OfATick : Type 1
OfATick = Machine → Sample → Told → Type 0

-- the machine that a program shows once it was put in the place of a machine and ran
unfoldable pub shown_after : (p : Program) → p.State → Machine → List Sample → Machine
shown_after p s m [] = m
shown_after p s m (i ∷ is) = shown_after p (p.next s i) (p.tells s i).machine is

-- a program keeps a sentence: at every tick of every run; at the first tick alone
abbrev pub AtEachTick : OfATick → Program → Type 0
AtEachTick sentence p = (m : Machine) (before : List Sample) (last : Sample) → sentence (shown_after p (p.start m) m before) last (last_told p m before last)

abbrev pub AtTheFirstTick : OfATick → Program → Type 0
AtTheFirstTick sentence p = (m : Machine) (first : Sample) → sentence m first (p.tells (p.start m) first)

-- demand 1, the table's "exactly when": the number that is given to the transfer is told
abbrev pub TellsWhatIsGiven : OfATick
TellsWhatIsGiven m i t = (n : ℕ) → happens (word_count m.board) i ≡ true → i.sent ≡ true → Given (met_in m i) n → answer t ≡ some n

-- demand 2: a reply's code, at byte 2, is the command's with the lowest bit set; a code is a byte by its type
abbrev pub RepliesWithItsCode : OfATick
RepliesWithItsCode m i t = code_of i.transfer < 256 → t.replied ≡ true → reply_byte 2 t ≡ reply_code (code_of i.transfer)

-- answer 0 is told, and the code of the transfer is one of these
abbrev pub tells_acceptance_of : List ℕ → Sample → Told → Bool
tells_acceptance_of codes i t = is_accepted (answer t) && is_in (code_of i.transfer) codes

-- demand 2: a tick that happens, tells of no reset, by its event or by an accepted 0xAA, and accepts neither 0x30 nor
-- 0x32 leaves mode and age as the table makes them of the mode one tick older
abbrev pub MovesByTheTable : OfATick
MovesByTheTable m i t =
    happens (word_count m.board) i ≡ true → is_by_watchdog t.event ≡ false → tells_acceptance_of (0xAA ∷ 0x30 ∷ 0x32 ∷ []) i t ≡ false
    → t.machine.board.phase ≡ step_of (older_of m.board.phase) i.rail (limits_of m.board.memory)

-- demand 2: after an accepted 0x30 the mode is nominal
abbrev pub ComesIntoNominal : OfATick
ComesIntoNominal m i t = code_of i.transfer ≡ 0x30 → answer t ≡ some 0 → mode t ≡ Nominal

-- demand 2, groups: after an accepted command each channel is what document 01's sentences make of it
abbrev pub SwitchesTheNamed : OfATick
SwitchesTheNamed m i t =
    answer t ≡ some 0 → (c : ℕ) → c < 32
    → chan t.machine.board.channels c ≡ made_by (sentences (after_step3 m i) i.transfer c) (code_of i.transfer) (chan (after_step3 m i).channels c)

-- demand 2, counts: put in the place of a machine that was started and used, a program shows the count of each channel
-- as often as step 3 took it off since the last reset, as far as 65,535 reaches
abbrev pub CountsStep3 : Program → Type 0
CountsStep3 p =
    (there : Machine) (profile : Profile) (store : Store) → keeps_the_rules profile store ≡ true → (past : List Call) (before : List Sample) (last : Sample) (c : ℕ) → c < 32
    → get_or (last_told p (after (begun_of there profile store).machine past) before last).machine.board.channels.counts c 0
    ≡ min (times_taken_off c (begun_of there profile store).machine (past ++ (map tick before ++ (tick last ∷ [])))) 65535

-- a claim on programs that document 01's machine meets and a program does not
pub record Breaks (Claim : Program → Type 0) (p : Program) : Type 0 where
  pub machine_keeps : Claim document01
  pub program_does_not : Claim p → ⊥

pub record AllBreak : Type 0 where
  pub refuses_all : (a : Answer) → (answer_number a ≡ 0 → ⊥) → Breaks (AtEachTick TellsWhatIsGiven) (refuses_all a)
  pub answers_noop : Breaks (AtEachTick RepliesWithItsCode) answers_noop
  pub stays_in_safety_at_0x30 : Breaks (AtEachTick ComesIntoNominal) stays_in_safety
  pub stays_in_safety : Breaks (AtEachTick MovesByTheTable) stays_in_safety
  pub changes_nothing : Breaks (AtEachTick SwitchesTheNamed) changes_nothing
  -- the fifth keeps the sentence at its first tick, and not at each
  pub obeys_the_first : AtTheFirstTick RepliesWithItsCode repeats_the_first
  pub repeats_the_first : Breaks (AtEachTick RepliesWithItsCode) repeats_the_first
  pub makes_up_counts : Breaks CountsStep3 makes_up_counts
