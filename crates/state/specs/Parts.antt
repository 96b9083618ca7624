-- A profile of a distribution board and of a battery board, and one that names raw; the measured words of a board as
-- its replies tell them; and a board with one part changed and all others as they were, which there is no shorter way
-- to write. Assumes nothing: these are definitions.
use Rattle.std.specs.Prelude.{ℕ, Bool, List, take}
use Rattle.wire.specs.{declared.reply.Reply.Reply, declared.forms.Form.Form}
use Rattle.wire.specs.declared.forms.Form.TheVariants.{Raw, Ascii}
use Rattle.channels.specs.declared.Channels.{Channels}
use Rattle.kinds.specs.{Kinds.board_of}
use Rattle.kinds.specs.declared.Kind.TheVariants.{Distribution, Battery}
use Rattle.modes.specs.{declared.ModeAge.ModeAge, declared.Mode.Mode}
use Rattle.readings.specs.{Readings.raw_words, Readings.engineering_words, Layout.layout, Layout.converted_by, Packs.packs, Packs.told_by}
use Rattle.memory.specs.declared.Memory.{Memory}
use Rattle.state.specs.{declared.parts.Board.Board, declared.parts.Cause.Cause, declared.parts.Measured.Measured}
use Rattle.state.specs.declared.parts.Profile.{Profile}
use Rattle.state.specs.declared.parts.Resets.{Resets}
use Rattle.state.specs.declared.parts.Cause.TheVariants.{PowerOn, Watchdog, Commanded, Emergency}

-- a new profile of a distribution board: it names no form, and so the board starts in ASCII form
abbrev pub distribution_board : ℕ → ℕ → ℕ → Profile
distribution_board bid fitted forced = record { fitted = fitted; forced = forced; bid = bid; kind = Distribution; form = Ascii }

-- and one of a battery board, which fits no channel, with whether its ABF is placed; it names none either
abbrev pub battery_board : ℕ → Bool → Profile
battery_board bid abf = record { fitted = 0; forced = 0; bid = bid; kind = Battery abf; form = Ascii }

-- a profile may name raw
abbrev pub naming_raw : Profile → Profile
naming_raw p = record { fitted = p.fitted; forced = p.forced; bid = p.bid; kind = p.kind; form = Raw }

-- how many measured words a board has, and those of the room that count, as they were measured
abbrev pub word_count : Board → ℕ
word_count b = (board_of b.profile.kind).words

abbrev pub words_of : Board → List ℕ
words_of b = take (word_count b) (raw_words b.measured.words)

-- and those of a distribution board as engineering readings, each by the row of its place, as they stand on the wire;
-- 0x52 is no other board's
abbrev pub in_units_of : Board → List ℕ
in_units_of b = engineering_words (converted_by layout b.measured.words)

-- and those of a battery board as 0x62, which is no other board's, tells them: each in the way of its field
abbrev pub packs_told_of : Board → List ℕ
packs_told_of b = told_by packs b.measured.words

-- the mode that a board is in
abbrev pub mode_of : Board → Mode
mode_of b = b.phase.mode

-- the reset cause as 0x4803 shows it
abbrev pub cause_number : Cause → ℕ
cause_number PowerOn = 0
cause_number Watchdog = 1
cause_number Commanded = 2
cause_number Emergency = 4

abbrev pub with_phase : ModeAge → Board → Board
with_phase x b =
    record {
      phase = x;
      timer = b.timer;
      reply = b.reply;
      memory = b.memory;
      channels = b.channels;
      profile = b.profile;
      measured = b.measured;
      resets = b.resets;
      form = b.form;
    }

abbrev pub with_timer : ℕ → Board → Board
with_timer x b =
    record {
      phase = b.phase;
      timer = x;
      reply = b.reply;
      memory = b.memory;
      channels = b.channels;
      profile = b.profile;
      measured = b.measured;
      resets = b.resets;
      form = b.form;
    }

abbrev pub with_reply : Reply → Board → Board
with_reply x b =
    record {
      phase = b.phase;
      timer = b.timer;
      reply = x;
      memory = b.memory;
      channels = b.channels;
      profile = b.profile;
      measured = b.measured;
      resets = b.resets;
      form = b.form;
    }

abbrev pub with_memory : Memory → Board → Board
with_memory x b =
    record {
      phase = b.phase;
      timer = b.timer;
      reply = b.reply;
      memory = x;
      channels = b.channels;
      profile = b.profile;
      measured = b.measured;
      resets = b.resets;
      form = b.form;
    }

abbrev pub with_channels : Channels → Board → Board
with_channels x b =
    record {
      phase = b.phase;
      timer = b.timer;
      reply = b.reply;
      memory = b.memory;
      channels = x;
      profile = b.profile;
      measured = b.measured;
      resets = b.resets;
      form = b.form;
    }

abbrev pub with_measured : Measured → Board → Board
with_measured x b =
    record {
      phase = b.phase;
      timer = b.timer;
      reply = b.reply;
      memory = b.memory;
      channels = b.channels;
      profile = b.profile;
      measured = x;
      resets = b.resets;
      form = b.form;
    }

abbrev pub with_resets : Resets → Board → Board
with_resets x b =
    record {
      phase = b.phase;
      timer = b.timer;
      reply = b.reply;
      memory = b.memory;
      channels = b.channels;
      profile = b.profile;
      measured = b.measured;
      resets = x;
      form = b.form;
    }

abbrev pub with_form : Form → Board → Board
with_form x b =
    record {
      phase = b.phase;
      timer = b.timer;
      reply = b.reply;
      memory = b.memory;
      channels = b.channels;
      profile = b.profile;
      measured = b.measured;
      resets = b.resets;
      form = x;
    }
