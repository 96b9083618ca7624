-- The answers of document 01's command table: their numbers, and what each returns and leaves. Assumes nothing: these
-- are definitions.
use Rattle.std.specs.Prelude.{ℕ, get_or}
use mathlib.Core.{Bool.true, Bool.false, List.List, List.[], List.◌∷◌, Option.Option, Option.none, Option.some}
use Rattle.wire.specs.{declared.reply.Reply.Reply, Replies.reply_of}
use Rattle.command.specs.Decode as command
use Rattle.command.specs.{Decode.stid_of, Decode.ivid_of, Decode.code_of, Decode.bid_of, declared.Header.Header}
use Rattle.replies.specs.Layouts.{short_reply}
use Rattle.state.specs.{declared.parts.Board.Board, declared.parts.Profile.Profile, Parts.with_timer, Parts.with_reply}
use Rattle.answers.specs.{declared.Answer.Answer, declared.Outcome.Outcome, declared.Commanded.Commanded, declared.Received.Received}
use Rattle.answers.specs.declared.Answer.TheVariants.{Accepted, FewerThanFourBytes, InStartup, NotThisBoard, CodeNotListed, TooShort, NotAvailable, Wrong}
use Rattle.answers.specs.declared.Outcome.TheVariants.{WrongWordCount, NoTransfer, Answered}

-- ---- numbers
abbrev pub answer_number : Answer → ℕ
answer_number Accepted = 0
answer_number FewerThanFourBytes = 1
answer_number InStartup = 2
answer_number NotThisBoard = 3
answer_number CodeNotListed = 4
answer_number TooShort = 5
answer_number NotAvailable = 6
answer_number Wrong = 7

-- and back
abbrev pub answer_of : ℕ → Answer
answer_of n = get_or (Accepted ∷ FewerThanFourBytes ∷ InStartup ∷ NotThisBoard ∷ CodeNotListed ∷ TooShort ∷ NotAvailable ∷ Wrong ∷ []) n Wrong

-- 9 where the tick did not happen, and no number where there was no transfer to answer
abbrev pub told_number : Outcome → Option ℕ
told_number WrongWordCount = some 9
told_number NoTransfer = none
told_number (Answered answer) = some (answer_number answer)

-- ---- STAT
-- the flag NEW
abbrev pub new : ℕ
new = 0x80

-- the codes are those of Table 3-11; NEW goes with acceptance alone. 1 and 2 make no reply, so theirs is never asked
-- for.
abbrev pub stat_of : Answer → ℕ
stat_of Accepted = new  -- accepted is 0x00
stat_of NotThisBoard = 0x06
stat_of CodeNotListed = 0x02
stat_of TooShort = 0x03
stat_of NotAvailable = 0x05
stat_of Wrong = 0x04
stat_of FewerThanFourBytes = 0
stat_of InStartup = 0

-- ---- what an answer returns and leaves
-- a transfer's own STID, IVID, CC and BID
unfoldable pub received_in : List ℕ → Received
received_in s = record { stid = stid_of s; ivid = ivid_of s; code = code_of s; bid = bid_of s }

-- what the board itself is called by
abbrev pub header_of : Profile → Header
header_of p = command.header_of p.kind p.bid

-- nothing is said: the board is handed on as it came, with whatever reply waits on it
abbrev pub silent_of : Outcome → Board → Commanded
silent_of outcome b = record { board = b; outcome = outcome; replied = false }

-- a reply that waits in place of the one before
abbrev pub replying_of : Answer → Reply → Board → Commanded
replying_of answer reply b = record { board = with_reply reply b; outcome = Answered answer; replied = true }

-- the timer set to 0
abbrev pub fed : Board → Board
fed b = with_timer 0 b

-- 0: what replies is the command's own
unfoldable pub accepted_with : Reply → Board → Commanded
accepted_with reply b = replying_of Accepted reply (fed b)

-- for most commands that is the 5-byte reply
abbrev pub short_to : ℕ → Answer → Board → Reply
short_to code answer b = reply_of (short_reply (header_of b.profile) code (stat_of answer))

unfoldable pub accepted_of : ℕ → Board → Commanded
accepted_of code b = accepted_with (short_to code Accepted b) b

-- 3 is told in 5 bytes, and the timer goes on
unfoldable pub not_this_board_of : ℕ → Board → Commanded
not_this_board_of code b = replying_of NotThisBoard (short_to code NotThisBoard b) b

-- 4 to 7 are told in 5 bytes, and the timer starts again at 0
unfoldable pub refused_of : Answer → ℕ → Board → Commanded
refused_of answer code b = replying_of answer (short_to code answer b) (fed b)
