-- What the command step can do to a board's mode and channels, for every board and every transfer: one law by the
-- commands, for all that is shown of them. Assumes nothing.
use Prim.Native.Nat.{ℕ}
use mathlib.Core.Path.{◌≡◌, refl}
use mathlib.Core.Bool.{Bool, true, false, cond, false≢true}
use mathlib.Core.List.{List}
use Rattle.std.specs.Prelude.{is_err, Option, Some, None}
use lib.IntN.{ℤ}
use Rattle.std.specs.Prelude.{Ok, Err}
use Rattle.laws.proofs.Cases.{cases}
use Rattle.wire.specs.declared.reply.Reply.{Reply}
use Rattle.modes.specs.Commands.{to_safety, to_nominal}
use Rattle.modes.specs.declared.Mode.{Mode}
use Rattle.modes.specs.declared.Mode.TheVariants.{Startup, Nominal, Safety, Emergency}
use Rattle.modes.specs.declared.ModeAge.{ModeAge}
use Rattle.modes.specs.declared.Limits.{Limits}
use Rattle.channels.specs.declared.Channels.{Channels}
use Rattle.channels.proofs.Laws as of-channels
use Rattle.power.specs.Machine as small
use Rattle.command.specs.Decode.{Decoded, fewer_than_four, code_of, decode_of}
use Rattle.command.specs.declared.Command.{Command}
use Rattle.command.specs.declared.Layout.{Layout}
use Rattle.command.specs.declared.Refusal.{Refusal}
use Rattle.memory.specs.Memory.{after_save, saved_of}
use Rattle.memory.specs.declared.Memory.{Memory}
use Rattle.state.specs.Parts.{mode_of, with_memory, with_measured, with_channels}
use Rattle.state.specs.Start.{command_reset_of}
use Rattle.change.specs.Change.{entering_of}
use Rattle.state.specs.declared.parts.Board.{Board}
use Rattle.state.specs.declared.parts.Measured.{Measured}
use Rattle.answers.specs.Answers.{accepted_with, accepted_of, refused_of, not_this_board_of}
use Rattle.answers.specs.declared.Answer.{Answer}
use Rattle.answers.specs.declared.Answer.TheVariants.{Accepted}
use Rattle.answers.specs.declared.Outcome.TheVariants.{Answered}
use Rattle.answers.specs.declared.Commanded.{Commanded}
use Rattle.effects.specs.Effects.{is_nominal, switched_of, group_on_of, group_off_of, group_state_of, channel_on_of, channel_off_of, cancelled_of, switched_mode_of, faults_of, housekeeping_of, engineering_housekeeping_of, abf_of, battery_housekeeping_of, engineering_battery_housekeeping_of, parameter_answered, remembered_of, saved_in, restarted_of, reported_of, run_of}
use Rattle.asking.specs.Checks.{is_startup}
use Rattle.commands.specs.Step.{transferred_of, commanded_of}
use Rattle.commands.proofs.Stepwise.{turned_down, decoded_of, stepped_of}
use Rattle.commands.proofs.Told.{stepwise}

-- ---- what can become of a board
-- it has this phase and these channels
pub record Becomes (next : ModeAge) (s : Channels) (c : Board) : Type 0 where
  pub phase : c.phase ≡ next
  pub channels : c.channels ≡ s

-- mode and channels stay
abbrev pub Stays : Board → Board → Type 0
Stays b c = Becomes b.phase b.channels c

-- a change of mode that was asked for, with what it brings for the channels; where it is not available they stay
abbrev pub Changes : Option ModeAge → Board → Board → Type 0
Changes (Some next) b c = Becomes next (entering_of (mode_of b) next.mode b.profile b.channels) c
Changes None b c = Stays b c

-- the channels after a command on them
abbrev pub obeying : of-channels.Command → Board → Channels
obeying o b = of-channels.obeyed b.profile.fitted b.profile.forced o b.channels

-- what a decoded transfer is to the small machine
abbrev pub asked : Decoded → small.Command
asked (Ok Command.SwitchToNominal) = small.switch_to_nominal
asked (Ok Command.SwitchToSafety) = small.switch_to_safety
asked (Ok (Command.GroupOn g)) = small.switch_on
asked (Ok (Command.GroupOff g)) = small.switch_on
asked (Ok (Command.GroupState g)) = small.switch_on
asked (Ok (Command.ChannelOn one)) = small.switch_on
asked (Ok (Command.ChannelOff one)) = small.switch_on
asked (Ok Command.CancelOperation) = small.other
asked (Ok (Command.Report layout)) = small.other
asked (Ok (Command.SetParameter id v)) = small.other
asked (Ok (Command.ResetParameter id)) = small.other
asked (Ok Command.ResetConfiguration) = small.other
asked (Ok Command.LoadConfiguration) = small.other
asked (Ok (Command.SaveConfiguration given)) = small.other
asked (Ok Command.SystemReset) = small.other
asked (Err r) = small.other

-- All that the step can do with a transfer that is decoded to d and is `ask` to the small machine: in startup nothing;
-- nothing, too, where the command is refused or has to do with neither; the channels switched, in nominal; the
-- command-enabled ones off by 0x04; a change of mode; or a reset.
pub data Does (rail : ℤ) (limits : Limits) (d : Decoded) (ask : small.Command) (b : Board) (c : Commanded) : Type 0 where
  idles : is_startup (mode_of b) ≡ true → Stays b c.board → Does rail limits d ask b c
  leaves_both : ask ≡ small.other → Stays b c.board → Does rail limits d ask b c
  refuses : ask ≡ small.switch_on → Stays b c.board → Does rail limits d ask b c
  switches : ask ≡ small.switch_on → mode_of b ≡ Nominal → (o : of-channels.Command) → Becomes b.phase (obeying o b) c.board → Does rail limits d ask b c
  cancels : ask ≡ small.other → Becomes b.phase (obeying of-channels.turn_command_enabled_off b) c.board → Does rail limits d ask b c
  to_safety_lem : ask ≡ small.switch_to_safety → Changes (to_safety b.phase) b c.board → Does rail limits d ask b c
  to_nominal_lem : ask ≡ small.switch_to_nominal → Changes (to_nominal b.phase rail limits) b c.board → Does rail limits d ask b c
  restarts : d ≡ Ok Command.SystemReset → c.outcome ≡ Answered Accepted → c.board ≡ command_reset_of b → Does rail limits d ask b c

-- ---- each command
nominal_is : (m : Mode) → is_nominal m ≡ true → m ≡ Nominal
unfolding is_nominal
nominal_is Startup e = absurd (false≢true e)
nominal_is Nominal e = refl
nominal_is Safety e = absurd (false≢true e)
nominal_is Emergency e = absurd (false≢true e)

module _ (rail : ℤ) (limits : Limits) (b : Board) where
  -- by what the decoded transfer asks for
  abbrev DoesIt : Decoded → Commanded → Type 0
  DoesIt d c = Does rail limits d (asked d) b c

  -- the board itself
  stays : Stays b b
  stays = record { phase = refl; channels = refl }

  -- a refusal alters neither
  refused : (a : Answer) (code : ℕ) → Stays b (refused_of a code b).board
  unfolding refused_of
  refused a code = record { phase = refl; channels = refl }

  -- a command that alters neither, whatever its reply
  accepted : (reply : Reply) → Stays b (accepted_with reply b).board
  unfolding accepted_with
  accepted reply = record { phase = refl; channels = refl }

  -- 0x84, 0x86, 0x90, 0x92, and 0x94, whose checksum may be wrong: other settings, at most
  remembers : (reply : Reply) (x : Memory) → Stays b (accepted_with reply (with_memory x b)).board
  unfolding accepted_with
  remembers reply x = record { phase = refl; channels = refl }

  -- a save stores the settings, or is refused for its checksum
  saved : (code given : ℕ) → Stays b (saved_in code given b).board
  unfolding saved_in remembered_of accepted_of
  saved code given = cases (is_err (saved_of given b.memory)) (λ e. rw e (refused Answer.Wrong code)) (λ e. rw e (remembers _ (after_save (saved_of given b.memory) b.memory)))

  -- accepted, with these channels put in place
  takes : (code : ℕ) (s : Channels) → Becomes b.phase s (accepted_of code (with_channels s b)).board
  unfolding accepted_of accepted_with
  takes code s = record { phase = refl; channels = refl }

  -- the five on channels
  switched : (d : Decoded) → asked d ≡ small.switch_on → (code : ℕ) (right : Bool) (o : of-channels.Command) → DoesIt d (switched_of code right (obeying o b) b)
  unfolding switched_of
  switched d a code right o =
      cases (is_nominal (mode_of b))
      (λ e. cases right (λ r. rw (e, r) (switches a (nominal_is (mode_of b) e) o (takes code (obeying o b)))) (λ r. rw (e, r) (refuses a (refused Answer.Wrong code))))
      (λ e. rw e (refuses a (refused Answer.NotAvailable code)))

  -- the two on the mode
  switched_mode : (code : ℕ) (c : Option ModeAge) → Changes c b (switched_mode_of code c b).board
  unfolding switched_mode_of accepted_of accepted_with
  switched_mode code (Some next) = record { phase = refl; channels = refl }
  switched_mode code None = refused Answer.NotAvailable code

  -- 0x50 and 0x52 forget that the words are new
  measured : (reply : Reply) (m : Measured) → Stays b (accepted_with reply (with_measured m b)).board
  unfolding accepted_with
  measured reply m = record { phase = refl; channels = refl }

  -- a command that only has something told
  reported : (code : ℕ) (layout : Layout) → Stays b (reported_of code layout b).board
  unfolding reported_of faults_of housekeeping_of engineering_housekeeping_of abf_of battery_housekeeping_of engineering_battery_housekeeping_of parameter_answered accepted_of
  reported code Layout.Short = accepted _
  reported code Layout.Faults = accepted _
  reported code Layout.Housekeeping = measured _ _
  reported code (Layout.Parameter id) = remembers _ _
  reported code Layout.EngineeringHousekeeping = measured _ _
  reported code Layout.AbfPlacedState = accepted _
  reported code Layout.BatteryHousekeeping = measured _ _
  reported code Layout.EngineeringBatteryHousekeeping = measured _ _

  -- every command of the list
  run : (code : ℕ) (c : Command) → DoesIt (Ok c) (run_of rail limits code c b)
  unfolding run_of group_on_of group_off_of group_state_of channel_on_of channel_off_of cancelled_of faults_of housekeeping_of engineering_housekeeping_of abf_of battery_housekeeping_of engineering_battery_housekeeping_of parameter_answered remembered_of restarted_of accepted_of
  run code (Command.GroupOn g) = switched _ refl code _ (of-channels.turn_group_on g.spoken g.mask)
  run code (Command.GroupOff g) = switched _ refl code _ (of-channels.turn_group_off g.spoken g.mask)
  run code (Command.GroupState g) = switched _ refl code _ (of-channels.set_group_state g.spoken g.mask)
  run code (Command.ChannelOn one) = switched _ refl code _ (of-channels.turn_on one)
  run code (Command.ChannelOff one) = switched _ refl code _ (of-channels.turn_off one)
  run code Command.CancelOperation = cancels refl (takes code _)
  run code Command.SwitchToSafety = to_safety_lem refl (switched_mode code (to_safety b.phase))
  run code Command.SwitchToNominal = to_nominal_lem refl (switched_mode code (to_nominal b.phase rail limits))
  run code (Command.Report layout) = leaves_both refl (reported code layout)
  run code (Command.SetParameter id v) = leaves_both refl (remembers _ _)
  run code (Command.ResetParameter id) = leaves_both refl (remembers _ _)
  run code Command.ResetConfiguration = leaves_both refl (remembers _ _)
  run code Command.LoadConfiguration = leaves_both refl (remembers _ _)
  run code (Command.SaveConfiguration given) = leaves_both refl (saved code given)
  run code Command.SystemReset = restarts refl refl refl

  -- ---- a refusal by the decoder leaves both
  turned_down_lem : (code : ℕ) (r : Refusal) → DoesIt (Err r) (turned_down code r b)
  unfolding turned_down not_this_board_of
  turned_down_lem code Refusal.FewerThanFourBytes = leaves_both refl stays
  turned_down_lem code Refusal.InStartup = leaves_both refl stays
  turned_down_lem code Refusal.NotThisBoard = leaves_both refl (record { phase = refl; channels = refl })
  turned_down_lem code Refusal.CodeNotListed = leaves_both refl (refused Answer.CodeNotListed code)
  turned_down_lem code Refusal.TooShort = leaves_both refl (refused Answer.TooShort code)
  turned_down_lem code Refusal.WrongKey = leaves_both refl (refused Answer.Wrong code)
  turned_down_lem code Refusal.WrongParameter = leaves_both refl (refused Answer.Wrong code)
  turned_down_lem code Refusal.NotANumber = leaves_both refl (refused Answer.Wrong code)

  -- run or refused
  decoded : (code : ℕ) (d : Decoded) → DoesIt d (decoded_of rail limits code d b)
  unfolding decoded_of
  decoded code (Ok c) = run code c
  decoded code (Err r) = turned_down_lem code r

  -- ---- the whole step
  module _ (s : List ℕ) where
    -- the transfer as it reads outside startup
    abbrev reading : Decoded
    reading = decode_of b.profile.kind b.profile.bid false s

    -- in startup a transfer is refused, whatever it reads
    startup_stays : is_startup (mode_of b) ≡ true → Stays b (stepped_of rail limits s b).board
    unfolding stepped_of decoded_of decode_of turned_down
    startup_stays e = cases (fewer_than_four s) (λ short. rw short stays) (λ long. rw (long, e) stays)

    -- a transfer, by the mode
    transferred : DoesIt reading (transferred_of rail limits s b)
    unfolding stepped_of
    transferred =
        rw (stepwise rail limits s b)
        (cases (is_startup (mode_of b)) (λ e. idles e (startup_stays e)) (λ e. rw e (decoded (code_of s) reading)))

    -- no transfer, or one
    pub step : (sent : Bool) → Does rail limits reading (cond sent (asked reading) small.other) b (commanded_of rail limits sent s b)
    unfolding commanded_of
    step true = transferred
    step false = leaves_both refl stays
