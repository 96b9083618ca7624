-- The board that the command finds is put together part by part; a transfer is heard or none is; the watchdog resets
-- the board or does not. A tick that does not happen goes the same way, with every part as it was.
use mathlib.Core.Path.{◌≡◌, refl, sym, ◌∙◌}
use native.Mathlib.Omega.{arith}
use mir.Syntax.{w16}
use mir.ValLaws.{to_z-of_z}
use lib.ListN.{length}
use borrow.Author.Tests.{eq-eqb, ne_eqb}
use Rattle.memory.specs.Limits.{limits_of}
use Rattle.state.specs.Parts.{word_count}
use Rattle.state.specs.declared.parts.Board.{Board}
use Rattle.answers.specs.declared.Commanded.{Commanded}
use Rattle.asking.specs.Sent.{is_sent, bytes_sent}
use Rattle.board.specs.Tick.{brought_by, allowed_count}
use Rattle.board.proofs.InPlace.{placed, found, found_apart, one_sent, obeyed_where, heard, unheard, kept, lost}
use Rattle.board.proofs.Happened.{with_number}
use Rattle.board.proofs.tick.Goals as goal
use Rattle.board.proofs.tick.Goals.{Joined-is_heard, then-words-number, else-words-number, then-is_heard, else-is_heard}

-- ---- where the way with a transfer and the way without meet
-- the board after steps 1 to 3, put together part by part, with the words that came or those that were there
placed_at : (c : Joined-is_heard) → let a = c.args in c.if-words-number.b ≡ placed c.settle_where-settled.result (brought_by (word_count a.b) a.words.now a.b.measured) a.b
unfolding brought_by
placed_at c =
    let a = c.args in
    let n : c.words_of-number.result ≡ word_count a.b = c.words_of-number.ensures in
    let count = length a.words.now in
    elim c.if-words-number.branch [
      | then-words-number w ↦ let t = w.if-words-number.true in w.b-is ∙ rw (w.brought-b.ensures, eq-eqb count (word_count a.b) (omega arith))
      | else-words-number w ↦ let t = w.if-words-number.false in w.b-is ∙ rw (ne_eqb count (word_count a.b) (λ e. omega arith))
    ]

-- the board as the command found it, and what came of the command
abbrev found_at : Joined-is_heard → Board
found_at c = let a = c.args in found a.rail (limits_of a.b.memory) a.overcurrent a.words.now a.b

abbrev made_at : Joined-is_heard → Commanded
made_at c = record { board = c.if-is_heard.b; outcome = c.if-is_heard.outcome; replied = c.if-is_heard.replied }

-- it happens where this board allows the number of words
allowed : (c : Joined-is_heard) → let a = c.args in allowed_count (word_count a.b) (length a.words.now) ≡ c.is_allowed-happens.result
allowed c = rw (sym c.words_of-number.ensures) (sym c.is_allowed-happens.ensures)

obeyed : (c : Joined-is_heard) → let a = c.args in made_at c ≡ obeyed_where a.rail (limits_of a.b.memory) (is_sent a.transfer) (bytes_sent a.transfer) a.b (found_at c) c.is_allowed-happens.result
obeyed c =
    let a = c.args in
    let k = c.if-is_heard in
    let limits = limits_of a.b.memory in
    let happens = c.is_allowed-happens.result in
    let r = to_z-of_z w16 a.rail c.ranges.rail in
    let l : c.limits-limits.result ≡ limits = c.limits-limits.ensures in
    let f = placed_at c ∙ found_apart a.rail limits a.overcurrent a.words.now a.b happens (allowed c) c.settle_where-settled.result (brought_by (word_count a.b) a.words.now a.b.measured) r l c.settle_where-settled.ensures refl in
    let h = c.is_heard.ensures in
    elim k.branch [
      | then-is_heard w ↦ heard a.rail limits (is_sent a.transfer) (bytes_sent a.transfer) a.b (found_at c) happens (sym h ∙ w.if-is_heard.true) (made_at c) (one_sent (is_sent a.transfer) (bytes_sent a.transfer) w.commanded-c.result k.b k.outcome k.replied r l f w.commanded-c.ensures.value w.b-is w.outcome-is w.replied-is)
      | else-is_heard w ↦ unheard a.rail limits (is_sent a.transfer) (bytes_sent a.transfer) a.b (found_at c) happens (sym h ∙ w.if-is_heard.false) (w.b-is ∙ f) (w.outcome-is ∙ c.untold-outcome.ensures) w.replied-is
    ]

-- ---- the two ways to the end
pub returns-then-is_reset : goal.returns-then-is_reset
returns-then-is_reset c =
    let a = c.args in
    let j = (goal.at.returns-then-is_reset c).Joined-is_heard in
    let both =
    with_number a.rail a.overcurrent a.words.now (is_sent a.transfer) (bytes_sent a.transfer) a.b
    (rw c.watchdog_reset-b.ensures
    (lost a.rail a.overcurrent a.words.now (is_sent a.transfer) (bytes_sent a.transfer) a.b c.is_allowed-happens.result (allowed j) (made_at j) (obeyed j)
    c.watch-event.result
    (c.watch-event.ensures ∙ rw (c.seconds_in_ticks-timeout.ensures, c.timeout.ensures))
    (sym c.is_reset.ensures ∙ c.if-is_reset.true)))
    in
    record { value = both.0; number = both.1 }

pub returns-else-is_reset : goal.returns-else-is_reset
returns-else-is_reset c =
    let a = c.args in
    let j = (goal.at.returns-else-is_reset c).Joined-is_heard in
    let both =
    with_number a.rail a.overcurrent a.words.now (is_sent a.transfer) (bytes_sent a.transfer) a.b
    (kept a.rail a.overcurrent a.words.now (is_sent a.transfer) (bytes_sent a.transfer) a.b c.is_allowed-happens.result (allowed j) (made_at j) (obeyed j)
    c.watch-event.result
    (c.watch-event.ensures ∙ rw (c.seconds_in_ticks-timeout.ensures, c.timeout.ensures))
    (sym c.is_reset.ensures ∙ c.if-is_reset.false))
    in
    record { value = both.0; number = both.1 }
