-- Why a channel that is not fitted stays off and unlatched: it is so at a start, and each step of a tick keeps it.
-- Assumes nothing.
use Prim.Native.Nat.{ℕ, ◌<◌}
use mathlib.Core.Path.{◌≡◌, refl, sym, ◌∙◌, subst}
use mathlib.Core.Bool.{Bool, true, false, cond, and-false}
use mathlib.Core.List.{List, [], ◌∷◌}
use native.Mathlib.Omega.{arith}
use lib.IntN.{ℤ}
use lib.ListN.{length}
use Rattle.memory.specs.Memory.{Store}
use Rattle.laws.proofs.Cases.{cases}
use Rattle.modes.specs.declared.Mode.{Mode}
use Rattle.modes.specs.declared.Limits.{Limits}
use Rattle.channels.specs.Sets.{has}
use Rattle.channels.specs.Chan.{Chan, chan}
use Rattle.channels.specs.Operations.{cleared}
use Rattle.channels.specs.declared.Channels.{Channels}
use Rattle.channels.proofs.Sets.{has_out}
use Rattle.channels.proofs.Whole.{Held}
use Rattle.channels.proofs.Laws.{Dark}
use Rattle.channels.proofs.Laws as channel
use Rattle.watchdog.specs.Watchdog as dog
use Rattle.watchdog.specs.declared.Event.{Event}
use Rattle.watchdog.specs.declared.Event.TheVariants.{NoEvent, PeripheralReset, WatchdogReset}
use Rattle.memory.specs.Limits.{timeout_of, limits_of}
use Rattle.change.specs.Change.{is_dark, from_nominal_to_safety, entering_of}
use Rattle.state.specs.Parts.{word_count}
use Rattle.state.specs.Start.{fresh_of, watchdog_reset_of, keeps_the_rules, start_of}
use Rattle.state.specs.declared.parts.Board.{Board}
use Rattle.state.specs.declared.parts.Profile.{Profile}
use Rattle.answers.specs.declared.Commanded.{Commanded}
use Rattle.commands.specs.Step.{commanded_of}
use Rattle.board.specs.Tick.{risen_of, changed_of, tripped_of, watched_as, watched_in, tick_with, allowed_count, tick_of}
use Rattle.board.proofs.Happened.{command_profile}
use Rattle.std.specs.Prelude.{Ok, Err}
use Rattle.reading.specs.Lines.{LineAnswer, line_of}
use Rattle.reading.specs.declared.Line.TheVariants.{Command, Switch}
use Rattle.unit.specs.Machine.{begun_of, told_of, after_line, heard_of}
use Rattle.unit.specs.declared.Machine.{Machine}
use Rattle.unit.specs.Runs.{Call, tick, line, after_call, after, Reached}
use Rattle.groups.specs.Groups.{sentences, made_by}
use Rattle.groups.specs.Unfitted.{Unfitted}
use Rattle.groups.proofs.Done.{refusing, accepting}
use Rattle.groups.proofs.Groups.{Leaves, leaves}
use Rattle.groups.proofs.Altered.{none, ◌and◌, made_so, failed}

-- ---- what every step keeps: sets of 32 channels with 32 counts, and the channels that p does not have off and
-- unlatched
pub record Sound (p : Profile) (ch : Channels) : Type 0 where
  pub held : Held ch
  pub dark : (c : ℕ) → c < 32 → has p.fitted c ≡ false → Dark (chan ch c)

-- a board that is sound and has the profile p
pub record Stands (p : Profile) (b : Board) : Type 0 where
  pub profile : b.profile ≡ p
  pub sound : Sound p b.channels

-- whatever the laws of the channels speak of keeps it
by_event : (p : Profile) (e : channel.Event) (ch : Channels) → Sound p ch → Sound p (channel.after p.fitted p.forced e ch)
by_event p e ch s =
    record { held = channel.after_held p.fitted p.forced e ch; dark = λ c h f. channel.stays_dark p.fitted p.forced e ch c h f (s.dark c h f) }

-- a choice between two
either : (p : Profile) (t : Bool) {x y : Channels} → Sound p x → Sound p y → Sound p (cond t x y)
either p true s u = s
either p false s u = u

-- a reset has all channels off and unlatched
pub after_reset : (p : Profile) → Sound p cleared
after_reset p =
    record { held = channel.cleared_held; dark = λ c h f. rw (channel.cleared_each c h) (record { off = refl; unlatched = refl }) }

-- ---- step 2
entered : (p : Profile) (before next : Mode) (ch : Channels) → Sound p ch → Sound p (entering_of before next p ch)
unfolding entering_of
entered p before next ch s =
    either p (is_dark next) (by_event p channel.emergency_entered ch s)
    (either p (is_dark before) (by_event p channel.forced_come_on ch s)
    (either p (from_nominal_to_safety before next) (by_event p (channel.commanded channel.turn_command_enabled_off) ch s) s))

-- steps 1, 2 and 3
pub settled : (rail : ℤ) (limits : Limits) (named : ℕ) (words : List ℕ) (p : Profile) (b : Board) → Stands p b → Stands p (tripped_of named (changed_of rail limits (risen_of words b)))
unfolding tripped_of changed_of risen_of
settled rail limits named words p b s =
    record { profile = s.profile; sound = by_event p (channel.overcurrent named) _ (rw s.profile (entered p _ _ b.channels s.sound)) }

-- ---- step 4
made_dark : (s : List ℕ) (b : Board) (code c : ℕ) (ch : Chan) → has b.profile.fitted c ≡ false → Dark ch → Dark (made_by (sentences b s c) code ch)
unfolding sentences
made_dark s b code c ch f d =
    made_so Dark code ch (sentences b s c)
    ((λ t. failed (simp (f, and-false) at t))
    and (λ t. failed (simp (f, and-false) at t))
    and (λ t. failed (simp (f, and-false) at t))
    and (λ t. failed (simp (f, and-false) at t))
    and (λ t. failed (simp (f, and-false) at t))
    and (λ t. failed (simp (f, and-false) at t))
    and (λ t. failed (simp (f, and-false) at t))
    and (λ t. failed (simp (f, and-false) at t))
    and (λ t. failed (simp (f, and-false) at t))
    and (λ _. record { off = refl; unlatched = refl })
    and none)
    d

-- a refused command alters no channel, and no sentence names one that is not fitted, but that of 0xAA, which turns it
-- off
pub commanded : (rail : ℤ) (limits : Limits) (sent : Bool) (s : List ℕ) (p : Profile) (b : Board) → Stands p b → Stands p (commanded_of rail limits sent s b).board
unfolding commanded_of
commanded rail limits false s p b u = u
commanded rail limits true s p b u = go (command_profile rail limits s b true ∙ u.profile) (leaves rail limits s b)
  where
    go : {k : ℕ} {c : Commanded} → c.board.profile ≡ p → Leaves rail limits s b k c → Stands p c.board
    go same_profile (refusing n t kept) = record { profile = same_profile; sound = subst (Sound p) (sym kept.channels) u.sound }
    go {k} same_profile (accepting t made) =
        record {
          profile = same_profile;
          sound = record {
            held = made.held u.sound.held;
            dark = λ c h f. rw (made.one_by_one c h) (made_dark s b k c (chan b.channels c) (rw u.profile f) (u.sound.dark c h f));
          };
        }

-- ---- step 5
watched : (p : Profile) (c : Commanded) → Stands p c.board → Stands p (watched_in c).board
unfolding watched_in watchdog_reset_of fresh_of
watched p c u = go (dog.watched_of c.board.timer (dog.seconds_in_ticks (timeout_of c.board.memory)))
  where
    go : (e : Event) → Stands p (watched_as e c).board
    go NoEvent = u
    go PeripheralReset = u
    go WatchdogReset = record { profile = u.profile; sound = after_reset p }

-- ---- a tick, a read, any calls
ticked : (rail : ℤ) (named : ℕ) (words : List ℕ) (sent : Bool) (s : List ℕ) (p : Profile) (b : Board) → Stands p b → Stands p (tick_of rail named words sent s b).board
unfolding tick_of tick_with
ticked rail named words sent s p b u =
    let limits = limits_of b.memory in
    let found = tripped_of named (changed_of rail limits (risen_of words b)) in
    cases (allowed_count (word_count b) (length words))
    (λ allowed. rw allowed (watched p (commanded_of rail limits sent s found) (commanded rail limits sent s p found (settled rail limits named words p b u))))
    (λ not_allowed. rw not_allowed u)

-- a read of the text line touches no channel
heard : (p : Profile) (l : LineAnswer) (m : Machine) → Stands p m.board → Stands p (after_line l m).board
heard p (Ok (Switch form behind)) m u = record { profile = u.profile; sound = u.sound }
heard p (Ok (Command start end behind)) m u = u
heard p (Err refusal) m u = u

-- any call
called : (p : Profile) (m : Machine) (call : Call) → Stands p m.board → Stands p (after_call m call).board
unfolding told_of heard_of
called p m (tick i) u = ticked i.rail i.named i.words i.sent i.transfer p m.board u
called p m (line received room) u = heard p (line_of m.board.form received room) m u

-- any calls, one after the other
pub run : (p : Profile) (m : Machine) (calls : List Call) → Stands p m.board → Stands p (after m calls).board
unfolding after
run p m [] u = u
run p m (call ∷ calls) u = run p (after_call m call) calls (called p m call u)

-- an accepted start
pub started : (there : Machine) (p : Profile) (store : Store) → keeps_the_rules p store ≡ true → Stands p (begun_of there p store).machine.board
unfolding begun_of start_of fresh_of
started there p store e = rw e (record { profile = refl; sound = after_reset p })

-- so every reached machine stands so
pub reached : (m : Machine) (r : Reached m) → Stands r.profile m.board
reached m r = subst (λ (x : Machine). Stands r.profile x.board) (sym r.is) (run r.profile _ r.past (started r.there r.profile r.store r.accepted))

-- ---- the claim
pub unfitted : (m : Machine) (r : Reached m) → Unfitted m r
unfitted m r =
    let u = reached m r in
    record {
      not_fitted = λ c h f. let d = u.sound.dark c h (rw u.profile at f) in record { off = d.off; unlatched = d.unlatched };
      not_there = λ c h. record { off = has_out 32 _ c u.sound.held.on (omega arith); unlatched = has_out 32 _ c u.sound.held.latched (omega arith) };
      same_profile = u.profile;
    }
