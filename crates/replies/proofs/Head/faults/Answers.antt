-- The channel words and the counts are one row behind the six bytes. The first count is told apart, so that another
-- order shows two different numbers.
use native.Mathlib.Omega.{arith}
use mathlib.Core.Path.{◌≡◌, refl}
use lib.ListN.{length}
use Rattle.laws.proofs.Lists.{drop_step}
use Rattle.wire.proofs.LittleEndian.{cons_eq}
use Rattle.wire.proofs.Room.{after_reply_of}
use Rattle.replies.specs.Layouts.{channel_words}
use Rattle.replies.proofs.Parts.{start, after_words, same_row, faults_row}
use borrow.Author.Rules.{rules}
use Rattle.replies.proofs.Head.faults.Goals as goal

pub returns : goal.returns
unfolding channel_words
returns c =
    let a = c.args in
    let l : length a.counts ≡ 32 = search rules in
    rw (
      c.append_words-2.ensures,
      c.append_words.ensures,
      c.longer.ensures,
      after_reply_of,
      after_words,
      c.channel_words-four.ensures,
      faults_row,
      drop_step a.counts 0 (omega arith),
    )
    (same_row (start a.self.board a.self.code a.self.stat) (cons_eq (omega arith) (cons_eq (omega arith) (cons_eq (omega arith) (cons_eq (omega arith) refl)))))
