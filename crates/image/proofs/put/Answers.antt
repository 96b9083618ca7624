-- The part that is written over has the value's bytes.
use mathlib.Core.Path.{◌≡◌, sym}
use mathlib.Core.List.{append_assoc}
use Prim.Native.Nat.{◌+◌, ◌-◌}
use native.Mathlib.Omega.{arith}
use lib.ListN.{length, take, drop}
use lib.Seq.{sets-eq, drop-drop, length-take-le}
use borrow.Author.Rules.{rules}
use Rattle.image.proofs.put.Goals as goal

pub returns : goal.returns
returns c =
    let image = c.args.image.now in
    let at = c.args.at in
    let v = c.args.v in
    let vs = take v.len v.bytes in
    let l : length v.bytes ≡ 8 = search rules in
    let n : length vs ≡ v.len = length-take-le v.len v.bytes (omega arith) in
    let k : at + v.len - at ≡ v.len = omega arith in
    let w : c.copy_from_slice.new.self ≡ vs = c.copy_from_slice.ensures.after in
    rw (w, k, drop-drop v.len at image, sets-eq vs image at (omega arith), n)
    (sym (append_assoc (take at image) vs (drop (at + v.len) image)))
