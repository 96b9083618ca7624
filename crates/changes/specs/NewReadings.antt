-- Demand 2, when measured words are new: NEW (0x80 in STAT) stands on the reply to 0x50 where words came since the last
-- accepted 0x50, the last reset or the start, and nowhere else, and on the reply to 0x52 likewise, counted by itself:
-- neither code touches what the other counts. NEW on 0x60 and 0x62, which are the battery board's, goes by 0x50's rule,
-- each by itself. No board has both 0x50 and 0x60, nor both 0x52 and 0x62, so one memory serves both codes of a pair.
-- It is told here tick by tick, of every machine of every kind, reachable or not, and every tick; words of the same
-- tick count. A start leaves the words new as neither, as `fresh_of` says. `m` is the machine before the tick. Assumes
-- nothing: these are definitions.
use Rattle.std.specs.Prelude.{ℕ}
use mathlib.Core.{Path.◌≡◌, Bool.Bool, Bool.true, Bool.false, Bool.cond, Bool.not, Bool.◌&&◌, Bool.◌||◌, List.List, List.[], List.◌∷◌}
use lib.{Dec.eqb, ListN.length, ListN.get_or}
use Rattle.wire.specs.Replies.{shown}
use Rattle.kinds.specs.Kinds.{board_of, is_in}
use Rattle.state.specs.{Parts.word_count, Start.none_new, declared.parts.Fresh.Fresh}
use Rattle.unit.specs.{declared.Machine.Machine, Runs.Sample, Runs.told, Runs.happens}
use Rattle.groups.specs.Resets.{tells_reset}
use Rattle.changes.specs.Accepted.{accepts_one_of}

-- words come with the tick: as many as the board has
abbrev pub brings : Machine → Sample → Bool
brings m i = eqb (length i.words) (word_count m.board)

-- STAT, byte 4 of the reply that waits after the tick
abbrev pub stat_shown : Machine → Sample → ℕ
stat_shown m i = get_or (shown (told m i).machine.board.reply) 4 0

-- codes of which a board has at most one, and the one of the two memories that is theirs
pub record NewBy (codes : List ℕ) (is_new : Fresh → Bool) (m : Machine) (i : Sample) : Type 0 where
  -- after a tick that happens and tells of no reset the words are new where they came with it or were new before, and
  -- the tick did not accept one of these codes
  pub after : happens (word_count m.board) i ≡ true → tells_reset m i ≡ false
      → is_new (told m i).machine.board.measured.fresh ≡ ((brings m i || is_new m.board.measured.fresh) && not (accepts_one_of codes m i))
  -- where the tick accepts one of them, STAT is NEW if the words came with the tick or were new before, and else 0
  pub shown_new : accepts_one_of codes m i ≡ true → stat_shown m i ≡ cond (brings m i || is_new m.board.measured.fresh) 0x80 0x00

pub record NewReadings (m : Machine) (i : Sample) : Type 0 where
  -- as raw readings by 0x50 or, on a battery board, 0x60; and as engineering readings by 0x52 or, there, 0x62
  pub raw : NewBy (0x50 ∷ 0x60 ∷ []) (λ f. f.raw) m i
  pub engineering : NewBy (0x52 ∷ 0x62 ∷ []) (λ f. f.engineering) m i
  -- a tick accepts a code only where the list of its board has it: of the two codes of a pair, that of its own board
  pub listed : (code : ℕ) → accepts_one_of (code ∷ []) m i ≡ true → is_in code (board_of m.board.profile.kind).codes ≡ true
  -- after a reset, by command or by the watchdog, they are new as neither
  pub reset : tells_reset m i ≡ true → (told m i).machine.board.measured.fresh ≡ none_new
  -- a tick that does not happen leaves both as they were
  pub not_happened : happens (word_count m.board) i ≡ false → (told m i).machine.board.measured.fresh ≡ m.board.measured.fresh
