-- The same row, of all 122 readings.
use mathlib.Core.Path.{◌≡◌, ◌∙◌}
use native.Mathlib.Omega.{arith}
use lib.ListN.{length, length-map}
use lib.Seq.{take_all}
use Rattle.wire.specs.Numbers.{pattern}
use Rattle.wire.proofs.Room.{after_reply_of}
use Rattle.readings.specs.declared.apart.Engineering.{Engineering}
use Rattle.readings.specs.Readings.{engineering_words}
use Rattle.replies.proofs.Parts.{after_words, housekeeping_row_lem}
use borrow.Author.Rules.{rules}
use Rattle.replies.proofs.Head.engineering_housekeeping.Goals as goal

pub returns : goal.returns
unfolding engineering_words
returns c =
    let units = c.args.units in
    let n : length units ≡ 122 = search rules in
    let l : length (engineering_words units) ≡ 122 = length-map units (λ (r : Engineering). pattern 2 r.0) ∙ n in
    rw (
      c.append_engineering.ensures,
      c.append_words.ensures,
      c.append_engineering-front.ensures,
      c.longer.ensures,
      after_reply_of,
      after_words,
      after_words,
      c.channel_words-four.ensures,
      take_all 122 (engineering_words units) (omega arith),
      housekeeping_row_lem,
    )
