-- A board's number is at most 255, so that it is the byte that is answered. Assumes nothing.
use native.Mathlib.Omega.{arith}
use Prim.Native.Nat.{◌%◌}
use mathlib.Core.Path.{◌≡◌, sym}
use Rattle.sheet.specs.Form.{board_word, head}
use Rattle.sheet.proofs.Parts.{count_most}
use Rattle.sheet.proofs.head.read_head.Goals as goal

pub returns-clause-answer : goal.returns-clause-answer
unfolding head
returns-clause-answer c =
    let bid = c.in_ok-bid.bid in
    let small : bid.value % 256 ≡ bid.value = omega (arith, count_most board_word 255 c.args.s.now 0 bid.value bid.next (sym c.in_ok-bid.ensures)) in
    rw (small, sym c.in_ok-bid.ensures, sym c.in_ok-fitted.ensures, sym c.in_ok-forced.ensures, sym c.in_ok-ticks.ensures)
