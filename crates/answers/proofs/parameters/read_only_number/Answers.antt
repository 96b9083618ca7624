-- Each id computes to its row, and one that is none of them to 0.
use native.Mathlib.Omega.{arith}
use borrow.Author.Tests.{ne_eqb}
use Rattle.answers.specs.Parameters.{read_only_number, number_in}
use Rattle.answers.proofs.parameters.read_only_number.Goals as goal

pub returns-in-10240 : goal.returns-in-10240
unfolding read_only_number number_in
returns-in-10240 c = rw (c.in-10240.is, c.stid.ensures)

pub returns-in-10241 : goal.returns-in-10241
unfolding read_only_number number_in
returns-in-10241 c = rw c.in-10241.is

pub returns-in-10242 : goal.returns-in-10242
unfolding read_only_number number_in
returns-in-10242 c = rw c.in-10242.is

pub returns-in-18433 : goal.returns-in-18433
unfolding read_only_number number_in
returns-in-18433 c = rw c.in-18433.is

pub returns-in-18434 : goal.returns-in-18434
unfolding read_only_number number_in
returns-in-18434 c = rw c.in-18434.is

pub returns-in-18435 : goal.returns-in-18435
unfolding read_only_number number_in
returns-in-18435 c = rw (c.in-18435.is, c.cause_number.ensures)

pub returns-in-18436 : goal.returns-in-18436
unfolding read_only_number number_in
returns-in-18436 c = rw c.in-18436.is

pub returns-in-18437 : goal.returns-in-18437
unfolding read_only_number number_in
returns-in-18437 c = rw c.in-18437.is

pub returns-in-18438 : goal.returns-in-18438
unfolding read_only_number number_in
returns-in-18438 c = rw c.in-18438.is

pub returns-in-18442 : goal.returns-in-18442
unfolding read_only_number number_in
returns-in-18442 c = rw c.in-18442.is

pub returns-in-18443 : goal.returns-in-18443
unfolding read_only_number number_in
returns-in-18443 c = rw c.in-18443.is

pub returns-in-18444 : goal.returns-in-18444
unfolding read_only_number number_in
returns-in-18444 c = rw c.in-18444.is

pub returns-in-18445 : goal.returns-in-18445
unfolding read_only_number number_in
returns-in-18445 c = rw (c.in-18445.is, c.safety_low.ensures)

pub returns-in-18446 : goal.returns-in-18446
unfolding read_only_number number_in
returns-in-18446 c = rw (c.in-18446.is, c.safety_high.ensures)

pub returns-in-18447 : goal.returns-in-18447
unfolding read_only_number number_in
returns-in-18447 c = rw c.in-18447.is

pub returns-in-18448 : goal.returns-in-18448
unfolding read_only_number number_in
returns-in-18448 c = rw (c.in-18448.is, c.timeout.ensures)

pub returns-in-26633 : goal.returns-in-26633
unfolding read_only_number number_in
returns-in-26633 c = rw c.in-26633.is

pub returns-in_default : goal.returns-in_default
unfolding read_only_number number_in
returns-in_default c =
    let k = c.args.id in
    simp (ne_eqb k 0x2800 (λ e. omega arith), ne_eqb k 0x2801 (λ e. omega arith), ne_eqb k 0x2802 (λ e. omega arith), ne_eqb k 0x4801 (λ e. omega arith), ne_eqb k 0x4802 (λ e. omega arith), ne_eqb k 0x4803 (λ e. omega arith), ne_eqb k 0x4804 (λ e. omega arith), ne_eqb k 0x4805 (λ e. omega arith), ne_eqb k 0x4806 (λ e. omega arith), ne_eqb k 0x480A (λ e. omega arith), ne_eqb k 0x480B (λ e. omega arith), ne_eqb k 0x480C (λ e. omega arith), ne_eqb k 0x480D (λ e. omega arith), ne_eqb k 0x480E (λ e. omega arith), ne_eqb k 0x480F (λ e. omega arith), ne_eqb k 0x4810 (λ e. omega arith), ne_eqb k 0x6809 (λ e. omega arith))
