-- Demand 1, what a refused command leaves. After 1 and 2 the board is the one that the step was given, whole. After 3
-- only its waiting reply is another. After 4 to 7 its timer is 0 besides. This holds of all boards and all bytes.
-- `with_reply r b` is the board b with r waiting on it and all else as it was, `with_timer` likewise. Assumes nothing:
-- these are definitions and the statement of the claim.
use Rattle.std.specs.Prelude.{ℕ, ◌≤◌, ◌<◌, eqb}
use mathlib.Core.{Path.◌≡◌, Bool.true, Bool.false, Bool.cond, List.List, List.[], List.◌∷◌, Option.some}
use Rattle.wire.specs.{declared.reply.Reply.Reply, Replies.shown, Replies.reply_of, Replies.reply_code}
use Rattle.replies.specs.Layouts.{short_reply}
use Rattle.state.specs.{Parts.with_reply, Parts.with_timer, declared.parts.Board.Board}
use Rattle.answers.specs.Answers.{header_of}
use Rattle.refusals.specs.Conditions.{Sent, code, kind, obeyed, answer}

-- ---- the reply of a refusal
-- its STAT, by Table 3-11: the flag NEW is clear
infix 70 ◌has_stat◌
pub data Stat : Type 0 where
  ◌has_stat◌ : ℕ → ℕ → Stat

abbrev pub stats : List Stat
stats = (3 has_stat 0x06) ∷ (4 has_stat 0x02) ∷ (5 has_stat 0x03) ∷ (6 has_stat 0x05) ∷ (7 has_stat 0x04) ∷ []

unfoldable pub stat_in : List Stat → ℕ → ℕ
stat_in [] n = 0
stat_in ((k has_stat stat) ∷ more) n = cond (eqb n k) stat (stat_in more n)

-- in front of it stand what the board is called by (STID, IVID, BID) and the command's code, of which `short_reply` sets
-- the lowest bit
abbrev pub refusal : ℕ → Sent → Reply
refusal n t = reply_of (short_reply (header_of t.board.profile) (code t) (stat_in stats n))

-- ---- what it leaves
-- 3: the reply waits, and the timer goes on
abbrev pub answered_alone : Sent → Board
answered_alone t = with_reply (refusal 3 t) t.board

-- 4 to 7: the reply waits, and the timer is 0
abbrev pub answered_and_fed : ℕ → Sent → Board
answered_and_fed n t = with_reply (refusal n t) (with_timer 0 t.board)

-- ---- the claim
pub record RefusedCommand : Type 0 where
  -- 1 and 2 change nothing and make no reply
  pub nothing : (t : Sent) (n : ℕ) → 1 ≤ n → n ≤ 2 → answer t ≡ some n → ((obeyed t).board ≡ t.board) × ((obeyed t).replied ≡ false)
  -- 3, and 4 to 7
  pub reply_alone : (t : Sent) → answer t ≡ some 3 → ((obeyed t).board ≡ answered_alone t) × ((obeyed t).replied ≡ true)
  pub reply_and_timer : (t : Sent) (n : ℕ) → 4 ≤ n → n ≤ 7 → answer t ≡ some n → ((obeyed t).board ≡ answered_and_fed n t) × ((obeyed t).replied ≡ true)
  -- the reply shows five bytes; code and BID are bytes by their types, and would be cut to one if they were not
  pub five_bytes : (t : Sent) (n : ℕ) → code t < 256 → t.board.profile.bid < 256
      → shown (refusal n t) ≡ (kind t).stid ∷ 0x07 ∷ reply_code (code t) ∷ t.board.profile.bid ∷ stat_in stats n ∷ []
