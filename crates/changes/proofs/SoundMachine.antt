-- Why a reached machine stays sound: a start has all channels off and its settings from a store in range, and each step
-- of a tick keeps both. Assumes nothing.
use Prim.Native.Nat.{ℕ, ◌<◌}
use mathlib.Core.Path.{◌≡◌, refl, sym, ◌∙◌, subst}
use mathlib.Core.Bool.{Bool, true, false, cond, ◌&&◌, and-false}
use mathlib.Core.List.{List, [], ◌∷◌}
use lib.IntN.{ℤ}
use Rattle.memory.specs.Memory.{Store}
use Rattle.laws.proofs.Cases.{cases, both}
use Rattle.modes.specs.declared.Mode.{Mode}
use Rattle.modes.specs.declared.Limits.{Limits}
use Rattle.channels.specs.Sets.{has}
use Rattle.channels.specs.Chan.{Chan, chan}
use Rattle.channels.specs.Operations.{on_and_cleared, off_and_cleared, off_and_latch_kept, tripped, force_enabled, command_enabled, clear_one, cleared}
use Rattle.channels.specs.declared.Channels.{Channels}
use Rattle.channels.proofs.Laws as channel
use Rattle.command.specs.Decode.{code_of}
use Rattle.memory.specs.Limits.{limits_of}
use Rattle.change.specs.Change.{is_dark, from_nominal_to_safety, entering_of}
use Rattle.kinds.specs.Kinds.{is_served}
use Rattle.state.specs.Parts.{word_count}
use Rattle.state.specs.Start.{fresh_of, never_reset, watchdog_reset_of, stored_in_range, bid_in_range, channels_in_place, keeps_the_rules, start_of}
use Rattle.state.specs.declared.parts.Board.{Board}
use Rattle.state.specs.declared.parts.Profile.{Profile}
use Rattle.state.specs.declared.parts.Resets.{Resets}
use Rattle.answers.specs.declared.Commanded.{Commanded}
use Rattle.commands.specs.Step.{commanded_of}
use Rattle.board.specs.Tick.{risen_of, changed_of, tripped_of}
use Rattle.std.specs.Prelude.{Ok, Err}
use Rattle.reading.specs.Lines.{LineAnswer, line_of}
use Rattle.reading.specs.declared.Line.TheVariants.{Command, Switch}
use Rattle.unit.specs.Machine.{begun_of, after_line, heard_of}
use Rattle.unit.specs.declared.Machine.{Machine}
use Rattle.unit.specs.Runs.{Sample, told, happens, Call, tick, line, after_call, after, Reached, after_step2, after_step3, after_step4}
use Rattle.groups.specs.Groups.{sentences, made_by}
use Rattle.groups.specs.Resets.{tells_watchdog_reset}
use Rattle.groups.proofs.Done.{refusing, accepting}
use Rattle.groups.proofs.Groups.{Leaves, leaves}
use Rattle.groups.proofs.Altered.{none, ◌and◌, made_so}
use Rattle.groups.proofs.Resets.{reset_is_told}
use Rattle.groups.proofs.Unfitted.{unfitted}
use Rattle.changes.specs.SoundMachine.{SoundMachine}
use Rattle.changes.proofs.Ranges.{InRange, loaded}
use Rattle.changes.proofs.Step.{Takes, leaving, obeying}
use Rattle.changes.proofs.Ticks.{step, leaves_all, leaves_step_4}

-- ---- what every step keeps
-- a channel that is not both on and latched
pub record Apart (ch : Chan) : Type 0 where
  pub not_both : (ch.on && ch.latched) ≡ false

-- no channel is
pub record AllApart (ch : Channels) : Type 0 where
  pub each : (c : ℕ) → c < 32 → Apart (chan ch c)

-- a board of which both hold, the channels and the memory
pub record Sound (b : Board) : Type 0 where
  pub apart : AllApart b.channels
  pub range : InRange b.memory

-- ---- the channels
-- what an operation makes of a channel is not both: here one that turns it on
on_apart : (ch : Chan) → Apart (on_and_cleared ch)
on_apart ch = record { not_both = refl }

-- one that turns it off and clears its latch
off_apart : (ch : Chan) → Apart (off_and_cleared ch)
off_apart ch = record { not_both = refl }

-- one that turns it off and keeps its latch
kept_apart : (ch : Chan) → Apart (off_and_latch_kept ch)
kept_apart ch = record { not_both = refl }

-- an overcurrent
tripped_apart : (ch : Chan) → Apart (tripped ch)
tripped_apart ch = record { not_both = refl }

-- a reset
reset_apart : Apart clear_one
reset_apart = record { not_both = refl }

-- after a reset none is
cleared_apart : AllApart cleared
cleared_apart = record { each = λ c h. rw (channel.cleared_each c h) reset_apart }

-- a choice between two
either : (t : Bool) {x y : Channels} → AllApart x → AllApart y → AllApart (cond t x y)
either true p q = p
either false p q = q

-- the same of one channel
either_one : (t : Bool) {x y : Chan} → Apart x → Apart y → Apart (cond t x y)
either_one true p q = p
either_one false p q = q

-- a change of mode
entered : (before next : Mode) (p : Profile) (ch : Channels) → AllApart ch → AllApart (entering_of before next p ch)
unfolding entering_of
entered before next p ch a =
    either (is_dark next) (by channel.emergency_entered (λ c h. kept_apart (chan ch c)))
    (either (is_dark before) (by channel.forced_come_on (λ c h. record { not_both = and-false (force_enabled (has p.fitted c) (has p.forced c)) }))
    (either (from_nominal_to_safety before next)
    (by (channel.commanded channel.turn_command_enabled_off) (λ c h. either_one (command_enabled (has p.fitted c) (has p.forced c)) (kept_apart (chan ch c)) (a.each c h)))
    a))
  where
    by : (e : channel.Event) → ((c : ℕ) → c < 32 → Apart (channel.after_one p.fitted p.forced e c (chan ch c))) → AllApart (channel.after p.fitted p.forced e ch)
    by e q = record { each = λ c h. rw (channel.each p.fitted p.forced e ch c h) (q c h) }

-- overcurrent
overcurrent_apart : (named : ℕ) (ch : Channels) → AllApart ch → AllApart (channel.after 0 0 (channel.overcurrent named) ch)
overcurrent_apart named ch a =
    record { each = λ c h. rw (channel.each 0 0 (channel.overcurrent named) ch c h) (either_one (has named c && has ch.on c) (tripped_apart (chan ch c)) (a.each c h)) }

-- a command: what each sentence makes is not both
made_apart : (s : List ℕ) (b : Board) (code c : ℕ) (ch : Chan) → Apart ch → Apart (made_by (sentences b s c) code ch)
unfolding sentences
made_apart s b code c ch a =
    made_so Apart code ch (sentences b s c)
    ((λ _. on_apart ch)
    and (λ _. off_apart ch)
    and (λ _. on_apart ch)
    and (λ _. off_apart ch)
    and (λ _. on_apart ch)
    and (λ _. on_apart ch)
    and (λ _. off_apart ch)
    and (λ _. kept_apart ch)
    and (λ _. kept_apart ch)
    and (λ _. reset_apart)
    and none)
    a

-- ---- a tick
-- steps 1 to 3
settled : (m : Machine) (i : Sample) → Sound m.board → Sound (after_step3 m i)
unfolding tripped_of changed_of risen_of
settled m i u =
    record {
      apart = overcurrent_apart i.named (after_step2 m i).channels (entered _ _ m.board.profile m.board.channels u.apart);
      range = u.range;
    }

-- step 4, by what the command makes of the channels
left_apart : (rail : ℤ) (limits : Limits) (s : List ℕ) (b : Board) (x : Commanded) → Leaves rail limits s b (code_of s) x → AllApart b.channels → AllApart x.board.channels
left_apart rail limits s b x (refusing n t kept) a = subst AllApart (sym kept.channels) a
left_apart rail limits s b x (accepting t made) a = record { each = λ c h. rw (made.one_by_one c h) (made_apart s b (code_of s) c (chan b.channels c) (a.each c h)) }

-- with a transfer or without
commanded_apart : (rail : ℤ) (limits : Limits) (sent : Bool) (s : List ℕ) (b : Board) → AllApart b.channels → AllApart (commanded_of rail limits sent s b).board.channels
unfolding commanded_of
commanded_apart rail limits false s b a = a
commanded_apart rail limits true s b a = left_apart rail limits s b _ (leaves rail limits s b) a

-- and of the memory
step_range : (m : Machine) (i : Sample) {x : Commanded} → Takes i.rail (limits_of m.board.memory) i.transfer (after_step3 m i) x → InRange (after_step3 m i).memory → InRange x.board.memory
step_range m i (leaving a left) r = subst InRange (sym left.memory) r
step_range m i (obeying t obeyed) r = obeyed.range r

-- both together
obeyed_sound : (m : Machine) (i : Sample) → Sound (after_step3 m i) → Sound (after_step4 m i)
obeyed_sound m i u =
    record { apart = commanded_apart i.rail (limits_of m.board.memory) i.sent i.transfer (after_step3 m i) u.apart; range = step_range m i (step m i) u.range }

-- a board with nothing behind it
fresh : (p : Profile) (store : Store) (resets : Resets) → stored_in_range store ≡ true → Sound (fresh_of p store resets)
unfolding fresh_of
fresh p store resets h = record { apart = cleared_apart; range = loaded p.kind store h }

-- step 5
reset_sound : (b : Board) → Sound b → Sound (watchdog_reset_of b)
unfolding watchdog_reset_of
reset_sound b u = fresh b.profile b.memory.store _ u.range.store

-- any tick
ticked : (m : Machine) (i : Sample) → Sound m.board → Sound (told m i).machine.board
ticked m i u =
    let v = obeyed_sound m i (settled m i u) in
    cases (happens (word_count m.board) i)
    (λ a.
    cases (tells_watchdog_reset m i)
    (λ w. subst Sound (sym ((reset_is_told m i).by_watchdog w)) (reset_sound (after_step4 m i) v))
    (λ w. subst Sound (sym (leaves_step_4 m i a w)) v))
    (λ a. subst Sound (sym (leaves_all m i a)) u)

-- ---- a read of the text line, and any calls
-- a read touches neither channels nor memory
heard : (l : LineAnswer) (m : Machine) → Sound m.board → Sound (after_line l m).board
heard (Ok (Switch form behind)) m u = record { apart = u.apart; range = u.range }
heard (Ok (Command start end behind)) m u = u
heard (Err refusal) m u = u

-- any call
called : (m : Machine) (call : Call) → Sound m.board → Sound (after_call m call).board
unfolding heard_of
called m (tick i) u = ticked m i u
called m (line received room) u = heard (line_of m.board.form received room) m u

-- any calls, one after the other
run : (m : Machine) (calls : List Call) → Sound m.board → Sound (after m calls).board
unfolding after
run m [] u = u
run m (call ∷ calls) u = run (after_call m call) calls (called m call u)

-- ---- the rules of a start
-- those of a profile and that of a store
abbrev keeps : Profile → Bool
keeps p = is_served p.kind && bid_in_range p && channels_in_place p

-- together they are the rules
rules_are : (p : Profile) (store : Store) → keeps_the_rules p store ≡ (keeps p && stored_in_range store)
unfolding keeps_the_rules
rules_are p store = refl

-- an accepted start
begun : (there : Machine) (p : Profile) (store : Store) → keeps_the_rules p store ≡ true → Sound (begun_of there p store).machine.board
unfolding begun_of start_of
begun there p store e = rw e (fresh p store never_reset (both (keeps p) (stored_in_range store) (sym (rules_are p store) ∙ e)).1)

-- the claim
pub sound_machine : (m : Machine) (r : Reached m) → SoundMachine m r
sound_machine m r =
    let u : Sound m.board = subst (λ (x : Machine). Sound x.board) (sym r.is) (run _ r.past (begun r.there r.profile r.store r.accepted)) in
    let k = (both (keeps r.profile) (stored_in_range r.store) (sym (rules_are r.profile r.store) ∙ r.accepted)).0 in
    record {
      apart = λ c h. (u.apart.each c h).not_both;
      in_force = u.range.current;
      stored = u.range.store;
      starts_again = rw (rules_are m.board.profile m.board.memory.store, (unfitted m r).same_profile, k) u.range.store;
    }
