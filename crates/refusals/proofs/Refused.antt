-- What a refused command leaves, by the result of the command step. Assumes nothing.
use Prim.Native.Nat.{ℕ, ◌*◌, ◌/◌, ◌%◌, ◌+◌, ◌≤◌, ◌<◌}
use mathlib.Core.Path.{◌≡◌, refl, ap, ◌∙◌}
use mathlib.Core.Bool.{true, false}
use mathlib.Core.List.{List, [], ◌∷◌}
use mathlib.Core.Option.{some}
use native.Mathlib.Omega.{arith}
use lib.Dec.{eqb}
use Rattle.laws.proofs.Cases.{cases}
use Rattle.kinds.specs.Kinds.{board_of}
use Rattle.kinds.specs.declared.Kind.{Kind}
use Rattle.kinds.specs.declared.Kind.TheVariants.{Distribution, Battery, Integrated}
use Rattle.wire.specs.Numbers.{bytes_of}
use Rattle.wire.specs.Replies.{shown, reply_of, laid_out, reply_code}
use Rattle.replies.specs.Layouts.{short_reply}
use Rattle.answers.specs.Answers.{answer_number, stat_of, header_of, refused_of, not_this_board_of}
use Rattle.answers.specs.declared.Answer.{Answer}
use Rattle.answers.specs.declared.Answer.TheVariants.{Accepted, FewerThanFourBytes, InStartup, NotThisBoard, CodeNotListed, TooShort, NotAvailable, Wrong}
use Rattle.answers.specs.declared.Commanded.{Commanded}
use Rattle.refusals.specs.Conditions.{Sent, code, kind, obeyed, answer}
use Rattle.replies.proofs.Positions.{shown_short}
use Rattle.refusals.specs.Refused.{Stat, ◌has_stat◌, stats, stat_in, refusal, answered_alone, answered_and_fed, RefusedCommand}
use Rattle.refusals.proofs.Results.{step, silent_is, elsewhere_is, refused_is}

-- ---- what each answer leaves
-- STAT, of the answers 4 to 7
stat_agrees : (a : Answer) → 4 ≤ answer_number a → stat_of a ≡ stat_in stats (answer_number a)
unfolding stat_in
stat_agrees Accepted h = absurd (omega arith)
stat_agrees FewerThanFourBytes h = absurd (omega arith)
stat_agrees InStartup h = absurd (omega arith)
stat_agrees NotThisBoard h = absurd (omega arith)
stat_agrees CodeNotListed h = refl
stat_agrees TooShort h = refl
stat_agrees NotAvailable h = refl
stat_agrees Wrong h = refl

module _ (t : Sent) where
  -- the reply of an answer from 4 on
  pub refusal_of_lem : (a : Answer) (n : ℕ) → 4 ≤ n → answer_number a ≡ n → reply_of (short_reply (header_of t.board.profile) (code t) (stat_of a)) ≡ refusal n t
  refusal_of_lem a n l e = ap (λ (stat : ℕ). reply_of (short_reply (header_of t.board.profile) (code t) stat)) (stat_agrees a (omega (arith, e)) ∙ ap (stat_in stats) e)

  nothing : (n : ℕ) → 1 ≤ n → n ≤ 2 → answer t ≡ some n → ((obeyed t).board ≡ t.board) × ((obeyed t).replied ≡ false)
  nothing n l h q =
      let w = silent_is (obeyed t) (step t) n l h q in
      (ap (λ (c : Commanded). c.board) w.1, ap (λ (c : Commanded). c.replied) w.1)

  reply_alone : answer t ≡ some 3 → ((obeyed t).board ≡ answered_alone t) × ((obeyed t).replied ≡ true)
  unfolding not_this_board_of stat_in
  reply_alone q =
      let w = elsewhere_is (obeyed t) (step t) q in
      (ap (λ (c : Commanded). c.board) w, ap (λ (c : Commanded). c.replied) w)

  -- a refusal from 4 on is its reply and a timer of 0
  refused_leaves : (a : Answer) (n : ℕ) → 4 ≤ n → answer_number a ≡ n → (refused_of a (code t) t.board).board ≡ answered_and_fed n t
  unfolding refused_of
  refused_leaves a n l e = rw (refusal_of_lem a n l e)

  reply_and_timer : (n : ℕ) → 4 ≤ n → answer t ≡ some n → ((obeyed t).board ≡ answered_and_fed n t) × ((obeyed t).replied ≡ true)
  unfolding refused_of
  reply_and_timer n l q =
      let w = refused_is (obeyed t) (step t) n l q in
      (ap (λ (c : Commanded). c.board) w.2 ∙ refused_leaves w.0 n l w.1, ap (λ (c : Commanded). c.replied) w.2)

-- ---- the five bytes of the reply
-- every STAT of some rows is a byte
infixr 20 ◌and◌
data AllBytes : List Stat → Type 0 where
  none : AllBytes []
  ◌and◌ : {k stat : ℕ} {rows : List Stat} → stat < 256 → AllBytes rows → AllBytes ((k has_stat stat) ∷ rows)

stat_byte : (rows : List Stat) → AllBytes rows → (n : ℕ) → stat_in rows n < 256
unfolding stat_in
stat_byte [] none n = omega arith
stat_byte ((k has_stat stat) ∷ rows) (h and hs) n = cases (eqb n k) (λ e. rw e h) (λ e. rw e (stat_byte rows hs n))

-- so is every STID
stid_byte : (k : Kind) → (board_of k).stid < 256
stid_byte Distribution = omega arith
stid_byte (Battery abf) = omega arith
stid_byte (Integrated daughterboard) = omega arith

pub five_bytes : (t : Sent) (n : ℕ) → code t < 256 → t.board.profile.bid < 256
    → shown (refusal n t) ≡ (kind t).stid ∷ 0x07 ∷ reply_code (code t) ∷ t.board.profile.bid ∷ stat_in stats n ∷ []
unfolding short_reply laid_out bytes_of reply_code
five_bytes t n h k =
    let stat : stat_in stats n < 256 = stat_byte stats (omega arith and omega arith and omega arith and omega arith and omega arith and none) n in
    let whole-stid : (kind t).stid % 256 ≡ (kind t).stid = omega (arith, stid_byte t.board.profile.kind) in
    let whole_code : (code t / 2 * 2 + 1) % 256 ≡ code t / 2 * 2 + 1 = omega arith in
    let whole-bid : t.board.profile.bid % 256 ≡ t.board.profile.bid = omega arith in
    let whole-stat : stat_in stats n % 256 ≡ stat_in stats n = omega arith in
    shown_short (header_of t.board.profile) (code t) (stat_in stats n) ∙ rw (whole-stid, whole_code, whole-bid, whole-stat)

pub refused_command : RefusedCommand
refused_command =
    record {
      nothing = λ t n l h q. nothing t n (omega arith) (omega arith) q;
      reply_alone = reply_alone;
      reply_and_timer = λ t n l h q. reply_and_timer t n (omega arith) q;
      five_bytes = five_bytes;
    }
