-- The bytes there, and zeros where there are fewer.
use mathlib.Core.Path.{◌≡◌, sym, ap, ◌∙◌}
use lib.ListN.{length, drop, take}
use Rattle.wire.proofs.LittleEndian.{taken_bytes, whole_bytes, bytes_behind}
use Rattle.wire.specs.Numbers.{Bytes}
use Rattle.wire.proofs.numbers.bytes_at.Goals as goal

pub returns-in-Ok : goal.returns-in-Ok
returns-in-Ok g c =
    let s = c.args.s.now in
    let n = g.row.N in
    let b : Bytes s = λ i. (c.type_inv.s i).fits in
    let e : c.first-found.result.now ≡ take n (drop c.args.at s) = c.first-found.ensures ∙ ap (take n) c.rest.ensures in
    let l : length (take n (drop c.args.at s)) ≡ n = sym (ap length e) ∙ c.in-Ok.ensures.1.long in
    c.in-Ok.ensures.1.same ∙ e ∙ whole_bytes n (drop c.args.at s) (bytes_behind c.args.at s b) l

pub returns : goal.returns
returns g c =
    let b : Bytes c.args.s.now = λ i. (c.type_inv.s i).fits in
    rw (c.copy_from_slice.ensures.after, c.first-found.ensures, c.rest.ensures)
    (taken_bytes g.row.N (drop c.args.at c.args.s.now) (bytes_behind c.args.at c.args.s.now b))
