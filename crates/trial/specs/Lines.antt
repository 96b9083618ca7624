-- What a line does: the bench after it, and what it prints. Characters are their ASCII codes: 10 ends a line.
-- Assumes nothing: these are definitions.
use Rattle.std.specs.Prelude.{ℕ, List, [], ◌∷◌, take, Option, Some, None, is_some, unwrap_or}
use Rattle.wire.specs.Numbers.{signed}
use Rattle.unit.specs.{Machine.begun_of, Machine.told_of, declared.Machine.Machine}
use Rattle.script.specs.Reading.{words_of}
use Rattle.lines.specs.{declared.Asked.Asked, declared.Start.Start}
use Rattle.speaking.specs.Speaking.{blank}
use Rattle.looking.specs.Looking.{look_line}
use Rattle.starting.specs.Starts.{ok_text, store_of}
use Rattle.handling.specs.Benches.{Shown, printed, there, profile_of, started_of, with_lent, ticked_of, received_of}
use Rattle.handling.specs.declared.Bench.{Bench}

-- bad
abbrev pub bad_text : List ℕ
bad_text = 98 ∷ 97 ∷ 100 ∷ 10 ∷ []

-- a start, with the bytes of its byte string, where its text goes into a buffer
abbrev pub start_on : List ℕ → Bench → Start → List ℕ → Shown
start_on held bench start bytes =
    started_of held bench (begun_of (there bench.machine) (profile_of start.board) (store_of start.stored bytes))

-- what a line that asks for this does to a machine that is there
unfoldable pub ran_on : List ℕ → Bench → Machine → Asked → List ℕ → Shown
ran_on held bench m (Asked.Start start) bytes = start_on held bench start bytes
ran_on held bench m (Asked.Lend count) bytes = printed held (with_lent (words_of 512 bytes) count bench) ok_text
ran_on held bench m (Asked.Tick rail overcurrent transfer) bytes =
    ticked_of held bench (told_of (signed 2 rail) overcurrent (take bench.lent_count bench.lent) (is_some transfer) (take (unwrap_or transfer 0) bytes) m)
ran_on held bench m (Asked.Receive room count) bytes = received_of held bench m (take count bytes) (take room blank)
ran_on held bench m (Asked.Look look) bytes = printed held bench (look_line m look)

-- before a machine was started only a start is of a form
unfoldable pub first_of : List ℕ → Bench → Asked → List ℕ → Shown
first_of held bench (Asked.Start start) bytes = start_on held bench start bytes
first_of held bench (Asked.Lend count) bytes = printed held bench bad_text
first_of held bench (Asked.Tick rail overcurrent transfer) bytes = printed held bench bad_text
first_of held bench (Asked.Receive room count) bytes = printed held bench bad_text
first_of held bench (Asked.Look look) bytes = printed held bench bad_text

-- what a line does
unfoldable pub ran_of : List ℕ → Bench → Option Machine → Option Asked → List ℕ → Shown
ran_of held bench machine None bytes = printed held bench bad_text
ran_of held bench None (Some asked) bytes = first_of held bench asked bytes
ran_of held bench (Some m) (Some asked) bytes = ran_on held bench m asked bytes
