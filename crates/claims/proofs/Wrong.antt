-- Why each wrong program is caught: its run and the machine's are worked out, from a board that has just come into
-- nominal. And why each breaks its claim: on that run it does not keep it, and the third not at a good rail either, on
-- a board that was in safety for long. Assumes nothing.
use Prim.Native.Nat.{ℕ}
use mathlib.Core.Path.{◌≡◌, refl, sym, ap, ◌∙◌}
use mathlib.Core.Bool.{true, false, false≢true}
use mathlib.Core.List.{List, [], ◌∷◌}
use mathlib.Core.Option.{some}
use lib.ListN.{get_or, replicate}
use native.Mathlib.Omega.{arith}
use Rattle.kinds.specs.Kinds.{is_in}
use Rattle.wire.specs.Numbers.{bytes_of, number}
use Rattle.wire.specs.Replies.{shown, written, reply_of, room, laid_out, reply_code}
use Rattle.settings.specs.Table.{lies, row_of, find, read_write_rows, read_only_rows, parameter_of, column, default_of, clamp_of, at_least, at_most, low_of, high_of}
use Rattle.settings.specs.Values.{setting_of, defaults_of, default_n}
use Rattle.modes.specs.Table.{◌aged◌, entered, step_of, older_of}
use Rattle.modes.specs.Commands.{to_nominal}
use Rattle.modes.specs.declared.Mode.TheVariants.{Nominal, Safety}
use Rattle.modes.specs.declared.ModeAge.{ModeAge}
use Rattle.channels.specs.Sets.{has, set_of, list_of, is_within, all_below}
use Rattle.channels.specs.Chan.{Chan, whole}
use Rattle.channels.specs.Operations.{cleared, forced_on, all_off, overcurrent_at, command_enabled_off, group_on}
use Rattle.channels.specs.Counting.{count_all}
use Rattle.command.specs.Table as commands
use Rattle.command.specs.Decode.{fewer_than_four, header_is, group_in, carried, listed, decode_of}
use Rattle.command.specs.Checks.{first, header_differs, id_wrong, checks}
use Rattle.watchdog.specs.Watchdog as dog
use Rattle.memory.specs.Limits.{limits_of, safety_low, safety_high, timeout_of}
use Rattle.memory.specs.Memory.{empty_store, loaded_from}
use Rattle.replies.specs.Layouts.{short_reply, faults_reply, channel_words}
use Rattle.state.specs.Parts.{word_count, with_phase, with_channels}
use Rattle.state.specs.Start.{fresh_of, bid_in_range, any_fitted, channels_in_place, keeps_the_rules, start_of, never_reset}
use Rattle.change.specs.Change.{is_dark, from_nominal_to_safety, entering_of, timer_after, resets_after, leaves_emergency}
use Rattle.answers.specs.Answers.{answer_number, accepted_with, accepted_of, refused_of, not_this_board_of}
use Rattle.answers.specs.declared.Answer.{Answer}
use Rattle.answers.specs.declared.Answer.TheVariants.{Accepted, FewerThanFourBytes, InStartup, NotThisBoard, CodeNotListed, TooShort, NotAvailable, Wrong}
use Rattle.effects.specs.Effects.{is_nominal, switched_of, group_on_of, switched_mode_of, faults_of, reported_of, run_of}
use Rattle.asking.specs.Checks.{is_startup, channel_codes, unavailable, channel_wrong, checksum_wrong, checks_of}
use Rattle.commands.specs.Step.{returning, transferred_of, commanded_of}
use Rattle.commands.proofs.Told.{same_number}
use Rattle.board.specs.Tick.{brought_by, risen_of, changed_of, tripped_of, watched_in, tick_with, allowed_count, tick_of}
use Rattle.framing.specs.declared.Due.TheVariants.{Nothing}
use Rattle.unit.specs.Machine.{no_machine, begun_of, told_of}
use Rattle.unit.specs.declared.Machine.{Machine}
use Rattle.unit.specs.declared.Told.{Told}
use Rattle.unit.specs.Runs.{Sample, told, happens, tick, after, Reached}
use Rattle.refusals.proofs.Answered.{exactly_when}
use Rattle.groups.specs.Resets.{is_by_watchdog}
use Rattle.claims.specs.Wrong as wrong
use Rattle.claims.specs.Wrong.{awake, Program, document01, state_after, last_told, Caught, ticked_with, told_with, refusing, refuses_all, replying_noop, staying_in_safety, unchanged, counting_all_named, profile, quiet, sending, noop, answer, AllCaught, shown_after, AllBreak}
use Rattle.claims.proofs.Kept.{tells_given, own_code, replies_with_its_code, moves_by_the_table, comes_into_nominal, switches_the_named, counts_step_3}

-- the tick with document 01's own steps 3 and 4 in it is document 01's
pub same_tick : (m : Machine) (i : Sample) → told_with tripped_of commanded_of m i ≡ told m i
unfolding ticked_with told_of tick_of tick_with
same_tick m i = refl

-- the board after 50 quiet ticks: nominal just entered, and the forced channel on
abbrev pub woken : Machine
woken = record { board = with_phase (entered Nominal) (with_channels (forced_on 0b1111 0b0001 cleared) (fresh_of profile empty_store never_reset)); due = Nothing }

-- those 50 ticks, worked out
pub awake_is : awake ≡ woken
unfolding after begun_of start_of keeps_the_rules bid_in_range channels_in_place any_fitted is_within all_below has set_of list_of whole cleared forced_on all_off overcurrent_at fresh_of loaded_from empty_store told_of tick_of tick_with allowed_count brought_by risen_of changed_of tripped_of watched_in commanded_of older_of step_of dog.risen_of dog.watched_of is_dark from_nominal_to_safety entering_of timer_after resets_after leaves_emergency limits_of safety_low safety_high timeout_of setting_of parameter_of row_of find read_write_rows read_only_rows lies defaults_of default_n column default_of clamp_of at_least at_most low_of high_of
awake_is = refl

-- the profile keeps document 01's rules, so the machine is one that can be reached
pub awake_reached : Reached awake
unfolding keeps_the_rules bid_in_range channels_in_place any_fitted is_within all_below has empty_store
awake_reached = record { there = no_machine; profile = profile; store = empty_store; accepted = refl; past = replicate 50 (tick (quiet 15000)); is = refl }

-- a program is caught by what the two then show
caught : {A : Type 0} {p : Program} {sees : Told → A} {before : List Sample} {last : Sample} {right wrong : A}
    → sees (last_told document01 woken before last) ≡ right → sees (last_told p woken before last) ≡ wrong → (right ≡ wrong → ⊥) → Caught p sees before last right wrong
caught {p} {sees} {before} {last} r w d =
    record {
      machine_shows = ap (λ (m : Machine). sees (last_told document01 m before last)) awake_is ∙ r;
      program_shows = ap (λ (m : Machine). sees (last_told p m before last)) awake_is ∙ w;
      differ = d;
    }

-- each run, worked out
pub all_caught : AllCaught
unfolding state_after ticked_with refusing replying_noop staying_in_safety unchanged counting_all_named count_all group_on group_in number bytes_of shown written reply_of room laid_out reply_code short_reply faults_reply channel_words commands.command_table commands.find is_in fewer_than_four header_is carried listed decode_of accepted_with accepted_of refused_of not_this_board_of is_nominal switched_of group_on_of switched_mode_of faults_of run_of reported_of is_startup transferred_of returning first checks_of checks header_differs id_wrong unavailable channel_codes channel_wrong checksum_wrong to_nominal has set_of list_of whole cleared forced_on all_off overcurrent_at command_enabled_off fresh_of loaded_from empty_store told_of tick_of tick_with allowed_count brought_by risen_of changed_of tripped_of watched_in commanded_of older_of step_of dog.risen_of dog.watched_of is_dark from_nominal_to_safety entering_of timer_after resets_after leaves_emergency limits_of safety_low safety_high timeout_of setting_of parameter_of row_of find read_write_rows read_only_rows lies defaults_of default_n column default_of clamp_of at_least at_most low_of high_of
all_caught =
    record {
      refuses_all = λ a refusal. caught refl (refused a refusal) (λ e. refusal (let z : 0 ≡ answer_number a = cc in sym z));
      answers_noop = caught refl refl (λ e. let z : ◌≡◌ {A = ℕ} 0x11 0x03 = cc in omega arith);
      stays_in_safety = caught refl refl (λ e. let z : ◌≡◌ {A = ℕ} 0 1 = cc in omega arith);
      changes_nothing = caught refl refl (λ e. omega arith);
      repeats_the_first = caught refl refl (λ e. let z : ◌≡◌ {A = ℕ} 0x11 0x03 = cc in omega arith);
      makes_up_counts = caught refl refl (λ e. omega arith);
    }
  where
    refused : (a : Answer) → (answer_number a ≡ 0 → ⊥) → answer (last_told (refuses_all a) woken [] (sending 15000 noop)) ≡ some (answer_number a)
    refused Accepted refusal = absurd (refusal refl)
    refused FewerThanFourBytes refusal = refl
    refused InStartup refusal = refl
    refused NotThisBoard refusal = refl
    refused CodeNotListed refusal = refl
    refused TooShort refusal = refl
    refused NotAvailable refusal = refl
    refused Wrong refusal = refl

-- what the programs tell on those runs besides
awake_too : {A : Type 0} (sees : Machine → A) (value : A) → sees woken ≡ value → sees awake ≡ value
awake_too sees value e = ap sees awake_is ∙ e

-- the board in safety for as long as it has to be: a good rail then leads out of it
abbrev lingering : Machine
lingering = record { board = with_phase (Safety aged 6000) woken.board; due = Nothing }

-- what the third program tells of a quiet tick there
abbrev stayed : Told
stayed = last_told wrong.stays_in_safety lingering [] (quiet 15000)

record Told_besides : Type 0 where
  noop_replied : (last_told wrong.answers_noop awake [] (sending 15000 wrong.group_on)).replied ≡ true
  lingering_happens : happens (word_count lingering.board) (quiet 15000) ≡ true
  lingering_no_reset : is_by_watchdog stayed.event ≡ false
  lingering_no_command : wrong.tells_acceptance_of (0xAA ∷ 0x30 ∷ 0x32 ∷ []) (quiet 15000) stayed ≡ false
  lingering_stays : wrong.mode stayed ≡ Safety
  table_leaves : (step_of (older_of lingering.board.phase) (quiet 15000).rail (limits_of lingering.board.memory)).mode ≡ Nominal
  nominal_accepted : answer (last_told wrong.stays_in_safety awake (quiet 0 ∷ []) (sending 15000 wrong.to_nominal)) ≡ some 0
  group_accepted : answer (last_told wrong.changes_nothing awake [] (sending 15000 wrong.group_on)) ≡ some 0
  second_replied : (last_told wrong.repeats_the_first awake (sending 15000 noop ∷ []) (sending 15000 wrong.group_on)).replied ≡ true
  right_count : get_or (last_told document01 awake [] (wrong.reporting 0b0010 wrong.faults)).machine.board.channels.counts 1 0 ≡ 0
  made_up_count : get_or (last_told wrong.makes_up_counts awake [] (wrong.reporting 0b0010 wrong.faults)).machine.board.channels.counts 1 0 ≡ 1

told_besides : Told_besides
unfolding state_after ticked_with refusing replying_noop staying_in_safety unchanged counting_all_named count_all group_on group_in number bytes_of shown written reply_of room laid_out reply_code short_reply faults_reply channel_words commands.command_table commands.find is_in fewer_than_four header_is carried listed decode_of accepted_with accepted_of refused_of not_this_board_of is_nominal switched_of group_on_of switched_mode_of faults_of run_of reported_of is_startup transferred_of returning first checks_of checks header_differs id_wrong unavailable channel_codes channel_wrong checksum_wrong to_nominal has set_of list_of whole cleared forced_on all_off overcurrent_at command_enabled_off fresh_of loaded_from empty_store told_of tick_of tick_with allowed_count brought_by risen_of changed_of tripped_of watched_in commanded_of older_of step_of dog.risen_of dog.watched_of is_dark from_nominal_to_safety entering_of timer_after resets_after leaves_emergency limits_of safety_low safety_high timeout_of setting_of parameter_of row_of find read_write_rows read_only_rows lies defaults_of default_n column default_of clamp_of at_least at_most low_of high_of
told_besides =
    record {
      noop_replied = awake_too (λ m. (last_told wrong.answers_noop m [] (sending 15000 wrong.group_on)).replied) true refl;
      lingering_happens = refl;
      lingering_no_reset = refl;
      lingering_no_command = refl;
      lingering_stays = refl;
      table_leaves = refl;
      nominal_accepted = awake_too (λ m. answer (last_told wrong.stays_in_safety m (quiet 0 ∷ []) (sending 15000 wrong.to_nominal))) (some 0) refl;
      group_accepted = awake_too (λ m. answer (last_told wrong.changes_nothing m [] (sending 15000 wrong.group_on))) (some 0) refl;
      second_replied = awake_too (λ m. (last_told wrong.repeats_the_first m (sending 15000 noop ∷ []) (sending 15000 wrong.group_on)).replied) true refl;
      right_count = awake_too (λ m. get_or (last_told document01 m [] (wrong.reporting 0b0010 wrong.faults)).machine.board.channels.counts 1 0) 0 refl;
      made_up_count = awake_too (λ m. get_or (last_told wrong.makes_up_counts m [] (wrong.reporting 0b0010 wrong.faults)).machine.board.channels.counts 1 0) 1 refl;
    }

-- each program breaks its claim where it was caught
byte_2 : List ℕ → ℕ
byte_2 bytes = get_or bytes 2 0

pub all_break : AllBreak
unfolding awake_reached empty_store byte_2 shown_after state_after reply_code has unchanged
all_break =
    record {
      refuses_all = λ a refusal. record {
        machine_keeps = tells_given;
        program_does_not = λ keeps.
            let seen = all_caught.refuses_all a refusal in
            let given = exactly_when.only_told awake (sending 15000 noop) 0 (omega arith) seen.machine_shows in
            let told_0 = keeps awake [] (sending 15000 noop) 0 given.0 given.1 given.2 in
            refusal (same_number (answer_number a) 0 (sym seen.program_shows ∙ told_0));
      };
      answers_noop = record {
        machine_keeps = replies_with_its_code;
        program_does_not = λ keeps.
            let code = keeps awake [] (sending 15000 wrong.group_on) (omega arith) told_besides.noop_replied in
            let z : ◌≡◌ {A = ℕ} 0x03 0x11 = sym (ap byte_2 all_caught.answers_noop.program_shows) ∙ code in
            omega arith;
      };
      stays_in_safety = record {
        machine_keeps = moves_by_the_table;
        program_does_not = λ keeps.
            let moved = keeps lingering [] (quiet 15000) told_besides.lingering_happens told_besides.lingering_no_reset told_besides.lingering_no_command in
            all_caught.stays_in_safety.differ (sym told_besides.table_leaves ∙ sym (ap (λ (p : ModeAge). p.mode) moved) ∙ told_besides.lingering_stays);
      };
      stays_in_safety_at_0x30 = record {
        machine_keeps = comes_into_nominal;
        program_does_not = λ keeps.
            let left = keeps awake (quiet 0 ∷ []) (sending 15000 wrong.to_nominal) refl told_besides.nominal_accepted in
            all_caught.stays_in_safety.differ (sym left ∙ all_caught.stays_in_safety.program_shows);
      };
      changes_nothing = record {
        machine_keeps = switches_the_named;
        program_does_not = λ keeps.
            let wrongly = keeps awake [] (sending 15000 wrong.group_on) told_besides.group_accepted 1 (omega arith) in
            let rightly = switches_the_named awake [] (sending 15000 wrong.group_on) told_besides.group_accepted 1 (omega arith) in
            let same : has (wrong.on (last_told wrong.changes_nothing awake [] (sending 15000 wrong.group_on))) 1 ≡ has (wrong.on (last_told document01 awake [] (sending 15000 wrong.group_on))) 1 =
            ap (λ (ch : Chan). ch.on) (wrongly ∙ sym rightly) in
            false≢true
            (sym (ap (λ (set : ℕ). has set 1) all_caught.changes_nothing.program_shows) ∙ same ∙ ap (λ (set : ℕ). has set 1) all_caught.changes_nothing.machine_shows);
      };
      obeys_the_first = own_code;
      repeats_the_first = record {
        machine_keeps = replies_with_its_code;
        program_does_not = λ keeps.
            let code = keeps awake (sending 15000 noop ∷ []) (sending 15000 wrong.group_on) (omega arith) told_besides.second_replied in
            let z : ◌≡◌ {A = ℕ} 0x03 0x11 = sym (ap byte_2 all_caught.repeats_the_first.program_shows) ∙ code in
            omega arith;
      };
      makes_up_counts = record {
        machine_keeps = counts_step_3;
        program_does_not = λ keeps.
            let past = replicate 50 (tick (quiet 15000)) in
            let wrongly = keeps no_machine profile empty_store awake_reached.accepted past [] (wrong.reporting 0b0010 wrong.faults) 1 (omega arith) in
            let rightly = counts_step_3 no_machine profile empty_store awake_reached.accepted past [] (wrong.reporting 0b0010 wrong.faults) 1 (omega arith) in
            let z : ◌≡◌ {A = ℕ} 1 0 = sym told_besides.made_up_count ∙ wrongly ∙ sym rightly ∙ told_besides.right_count in
            omega arith;
      };
    }
