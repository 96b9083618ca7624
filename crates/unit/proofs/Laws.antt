-- What a bench can rely on: framing says the reply of the latest tick and never an older one, a switch takes at the
-- read, and a refused call leaves the machine as it was. Assumes nothing.
use Prim.Native.Nat.{ℕ}
use mathlib.Core.Path.{◌≡◌, refl, ap, ◌∙◌}
use mathlib.Core.Bool.{Bool, true, false}
use mathlib.Core.List.{List}
use native.Mathlib.Omega.{arith}
use lib.IntN.{ℤ}
use lib.ListN.{length}
use Rattle.memory.specs.Memory.{Store}
use Rattle.std.specs.Prelude.{Ok, Err}
use Rattle.laws.proofs.Cases.{cases}
use Rattle.wire.specs.Replies.{shown}
use Rattle.wire.specs.declared.reply.Reply as reply
use Rattle.wire.specs.declared.forms.Form.{Form}
use Rattle.hexadecimal.specs.Hex.{laid}
use Rattle.watchdog.specs.Watchdog as dog
use Rattle.watchdog.specs.declared.Event.{Event}
use Rattle.watchdog.specs.declared.Event.TheVariants.{NoEvent, PeripheralReset, WatchdogReset}
use Rattle.modes.specs.declared.Limits.{Limits}
use Rattle.command.specs.Decode.{fewer_than_four, decode_of}
use Rattle.command.specs.declared.Command.TheVariants.{SystemReset}
use Rattle.memory.specs.Limits.{timeout_of, limits_of}
use Rattle.state.specs.Parts.{mode_of, word_count, with_form, with_reply}
use Rattle.state.specs.declared.parts.Board.{Board}
use Rattle.state.specs.Start.{fresh_of, keeps_the_rules, start_of}
use Rattle.state.specs.declared.parts.Profile.{Profile}
use Rattle.answers.specs.declared.Commanded.{Commanded}
use Rattle.effects.specs.Effects.{run_of, restarted_of}
use Rattle.asking.specs.Checks.{is_startup}
use Rattle.commands.specs.Step.{commanded_of}
use Rattle.commands.proofs.Stepwise.{turned_down, decoded_of, stepped_of}
use Rattle.commands.proofs.Told.{stepwise}
use Rattle.board.specs.Tick.{risen_of, changed_of, tripped_of, watched_as, watched_in, tick_with, allowed_count, tick_of}
use Rattle.board.proofs.Happened.{told, found, own_reply, profile_after, InForm, form_after}
use Rattle.reading.specs.Answers.{line_number}
use Rattle.reading.specs.Lines.{LineAnswer, line_of, switch_text}
use Rattle.reading.specs.declared.Line.TheVariants.{Command, Switch}
use Rattle.framing.specs.Framing.{reply_frame, written, framed_of}
use Rattle.framing.specs.declared.Due.TheVariants.{Nothing, Echo}
use Rattle.framing.proofs.FramingLaws.{nothing_due}
use Rattle.unit.specs.declared.Machine.{Machine}
use Rattle.unit.specs.Machine.{begun_of, due_by, due_after, told_of, after_line, heard_of, due_of}

-- ---- a tick

-- a transfer that is a reset to a board of a profile, whatever its mode
abbrev pub reset_is : Profile → List ℕ → Type 0
reset_is p s = decode_of p.kind p.bid false s ≡ Ok SystemReset

-- in startup no reply is made
silent_in_startup : (rail : ℤ) (limits : Limits) (s : List ℕ) (b : Board) → is_startup (mode_of b) ≡ true → (stepped_of rail limits s b).replied ≡ false
unfolding stepped_of decoded_of decode_of turned_down
silent_in_startup rail limits s b starting = rw starting (cases (fewer_than_four s) (λ short. rw short) (λ long. rw long))

-- the step of a transfer that is a reset makes no reply, in startup neither
restart_is_silent : (rail : ℤ) (limits : Limits) (sent : Bool) (s : List ℕ) (b : Board) → reset_is b.profile s → (commanded_of rail limits sent s b).replied ≡ false
unfolding commanded_of stepped_of decoded_of run_of restarted_of
restart_is_silent rail limits false s b e = refl
restart_is_silent rail limits true s b e =
    rw (stepwise rail limits s b)
    (cases (is_startup (mode_of b)) (λ starting. silent_in_startup rail limits s b starting) (λ started. rw (started, e)))

module _ (rail : ℤ) (named : ℕ) (words : List ℕ) (sent : Bool) (s : List ℕ) (m : Machine) where
  abbrev after : Machine
  after = (told_of rail named words sent s m).machine

  -- a tick that did not happen leaves the machine, with what it had to say
  pub refused_tick_leaves : allowed_count (word_count m.board) (length words) ≡ false → after ≡ m
  unfolding told_of tick_of
  refused_tick_leaves wrong = rw wrong

  module _ (allowed : allowed_count (word_count m.board) (length words) ≡ true) where
    due_told : after.due ≡ due_by (told_of rail named words sent s m).replied
    unfolding told_of
    due_told =
        let replied = (tick_of rail named words sent s m.board).replied in
        told (λ o. due_after o replied m.due ≡ due_by replied) refl (λ answer. refl) rail named words sent s m.board allowed

    -- no byte is written for a tick whose own answer says that no reply of it waits, however old the reply that does
    pub silent_tick_frames_nothing : (told_of rail named words sent s m).replied ≡ false
        → (out : List ℕ) (room : ℕ) → (framed_of (due_of after) room ≡ Ok 0) × (laid (due_of after) out ≡ out)
    unfolding due_of
    silent_tick_frames_nothing quiet out room =
        rw (due_told ∙ ap due_by quiet) (nothing_due after.board.form (shown after.board.reply) out room)

    -- else the frame is that of the reply which the command of this tick made, whatever reply r waited before it
    pub answered_tick_frames_its_reply : (told_of rail named words sent s m).replied ≡ true → (r : reply.Reply)
        → due_of after ≡ reply_frame (written after.board.form (shown (commanded_of rail (limits_of m.board.memory) sent s (with_reply r (found rail named words sent s m.board allowed))).board.reply))
    unfolding due_of told_of
    answered_tick_frames_its_reply replied r =
        rw (due_told ∙ ap due_by replied, own_reply rail named words sent s m.board allowed r replied)

    -- no tick alters the profile
    pub tick_profile : after.board.profile ≡ m.board.profile
    unfolding told_of
    tick_profile = profile_after rail named words sent s m.board allowed

    -- the form of the text line stays, or the board starts over in the profile's
    pub tick_form : InForm m.board after.board
    unfolding told_of
    tick_form = form_after rail named words sent s m.board allowed

    -- a reset by the watchdog loses the reply
    pub reset_loses_the_reply : (told_of rail named words sent s m).event ≡ WatchdogReset → (told_of rail named words sent s m).replied ≡ false
    unfolding told_of tick_of tick_with watched_in
    reset_loses_the_reply e =
        let limits = limits_of m.board.memory in
        let obeyed = commanded_of rail limits sent s (tripped_of named (changed_of rail limits (risen_of words m.board))) in
        rw allowed (go obeyed (dog.watched_of obeyed.board.timer (dog.seconds_in_ticks (timeout_of obeyed.board.memory))) (rw allowed at e))
      where
        go : (c : Commanded) (e : Event) → (watched_as e c).event ≡ WatchdogReset → (watched_as e c).replied ≡ false
        go c NoEvent e = let z : ◌≡◌ {A = ℕ} 0 1 = cc in absurd (omega arith)
        go c PeripheralReset e = let z : ◌≡◌ {A = ℕ} 0 1 = cc in absurd (omega arith)
        go c WatchdogReset e = refl

    -- and a transfer that asks for a reset leaves none
    pub command_reset_loses_the_reply : reset_is m.board.profile s → (told_of rail named words sent s m).replied ≡ false
    unfolding told_of tick_of tick_with watched_in risen_of changed_of tripped_of
    command_reset_loses_the_reply e =
        let limits = limits_of m.board.memory in
        let obeyed = commanded_of rail limits sent s (tripped_of named (changed_of rail limits (risen_of words m.board))) in
        rw allowed (still (dog.watched_of obeyed.board.timer (dog.seconds_in_ticks (timeout_of obeyed.board.memory))) obeyed (restarts limits e))
      where
        still : (e : Event) (c : Commanded) → c.replied ≡ false → (watched_as e c).replied ≡ false
        still NoEvent c q = q
        still PeripheralReset c q = q
        still WatchdogReset c q = refl

        restarts : (limits : Limits) → reset_is m.board.profile s
            → (commanded_of rail limits sent s (tripped_of named (changed_of rail limits (risen_of words m.board)))).replied ≡ false
        restarts limits e = restart_is_silent rail limits sent s (tripped_of named (changed_of rail limits (risen_of words m.board))) e

-- ---- the text line
module _ (received : List ℕ) (room : ℕ) (m : Machine) where
  -- a switch takes at the read, changes nothing else of the board, and its echo is what framing then says
  pub switch_takes : (to : Form) (behind : ℕ) → (heard_of received room m).line ≡ Ok (Switch to behind)
      → ((heard_of received room m).machine ≡ record { board = with_form to m.board; due = Echo to }) × (due_of (heard_of received room m).machine ≡ reply_frame (switch_text to))
  unfolding heard_of due_of
  switch_takes to behind e = (ap (λ (line : LineAnswer). after_line line m) e, ap (λ (line : LineAnswer). due_of (after_line line m)) e)

  -- a refused read leaves the machine, and so does a command, which the read only hands on
  pub read_leaves : ((to : Form) (behind : ℕ) → (heard_of received room m).line ≡ Ok (Switch to behind) → ⊥) → (heard_of received room m).machine ≡ m
  unfolding heard_of
  read_leaves n = go (line_of m.board.form received room) n
    where
      go : (line : LineAnswer) → ((to : Form) (behind : ℕ) → line ≡ Ok (Switch to behind) → ⊥) → after_line line m ≡ m
      go (Ok (Switch to behind)) n = absurd (n to behind refl)
      go (Ok (Command start end behind)) n = refl
      go (Err refusal) n = refl

  pub command_leaves : (start end behind : ℕ) → (heard_of received room m).line ≡ Ok (Command start end behind) → (heard_of received room m).machine ≡ m
  unfolding heard_of
  command_leaves start end behind e = ap (λ (line : LineAnswer). after_line line m) e

  pub refused_line_leaves : (line_number (heard_of received room m).line ≡ 0 → ⊥) → (heard_of received room m).machine ≡ m
  refused_line_leaves n = read_leaves (λ to behind e. n (ap line_number e))

-- ---- a start
module _ (there : Machine) (profile : Profile) (store : Store) where
  pub started_of_the_profile : keeps_the_rules profile store ≡ true → (begun_of there profile store).machine.board.profile ≡ profile
  unfolding begun_of start_of fresh_of
  started_of_the_profile kept = rw kept

  pub started_in_the_profiles_form : keeps_the_rules profile store ≡ true → (begun_of there profile store).machine.board.form ≡ profile.form
  unfolding begun_of start_of fresh_of
  started_in_the_profiles_form kept = rw kept

  pub started_says_nothing : keeps_the_rules profile store ≡ true → (begun_of there profile store).machine.due ≡ Nothing
  unfolding begun_of start_of
  started_says_nothing kept = rw kept

  pub refused_start_leaves : keeps_the_rules profile store ≡ false → (begun_of there profile store).machine ≡ there
  unfolding begun_of start_of
  refused_start_leaves broken = rw broken
