-- A checksum that is neither 0 nor the settings' own leaves all; either of the two stores. Assumes nothing.
use mathlib.Core.Path.{◌≡◌, refl, sym}
use native.Mathlib.Omega.{arith}
use mathlib.Core.Bool.{true, false}
use Rattle.memory.specs.Memory.{is_right}
use Rattle.memory.proofs.Laws.{zero_right, own_right, other_wrong, right_stores, wrong_refused}
use Rattle.memory.proofs.Memory.save.Goals.{else-given-ne0-via-then-given-ne0+else-given-checksum, else-given-ne0-via-else-given-ne0}
use Rattle.memory.proofs.Memory.save.Goals as goal

pub returns-then-given-checksum : goal.returns-then-given-checksum
returns-then-given-checksum c =
    let a = c.args in
    let sum = c.checksum-checksum.ensures in
    let wrong : is_right a.given a.self ≡ false = other_wrong a.given a.self (λ e. omega arith) (λ e. omega (arith, sum)) in
    record { value = sym (wrong_refused a.given a.self wrong); number = rw wrong refl }

pub returns : goal.returns
returns c =
    let a = c.args in
    let sum = c.checksum-checksum.ensures in
    let right : is_right a.given a.self ≡ true = elim c.else-given-ne0.branch [
      | else-given-ne0-via-then-given-ne0+else-given-checksum w ↦ own_right a.given a.self (omega (arith, sum))
      | else-given-ne0-via-else-given-ne0 w ↦ zero_right a.given a.self (omega arith)
    ] in
    record { value = rw (c.one_more-save_count.ensures, c.stored_count.ensures, sum) (sym (right_stores a.given a.self right)); number = rw right refl }
