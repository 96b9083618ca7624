-- After i turns the first i words stand behind what the reply shows, two bytes each; where the room ends within a word,
-- its low byte stands there too.
use Prim.Native.Nat.{◌+◌, ◌*◌}
use mathlib.Core.Path.{◌≡◌, refl, ◌∙◌}
use mir.Syntax.{w16}
use native.Mathlib.Omega.{arith}
use lib.ListN.{length, set, get_or}
use lib.Seq.{paste-zero}
use borrow.Author.Rules.{rules}
use Rattle.laws.proofs.Lists.{paste_more}
use Rattle.wire.proofs.Room.{appended}
use Rattle.wire.proofs.LittleEndian.{to_le_bytes_lem}
use Rattle.wire.proofs.Rows.{length_words, byte_laid}
use Rattle.wire.specs.Replies.{room, words}
use Rattle.wire.proofs.reply.Reply.append_words.Goals as goal

pub loop-i-init : goal.loop-i-init
loop-i-init c = paste-zero c.args.self.bytes c.min-start.result (words c.args.ws.now)

pub loop-i-preserved : goal.loop-i-preserved
loop-i-preserved c =
    let k = c.loop-i in
    let b = c.args.self.bytes in
    let ws = c.args.ws.now in
    let start = c.min-start.result in
    let at = start + 2 * k.i in
    let both = c.to_le_bytes-both.result in
    let l : length b ≡ 274 = search rules in
    let n = length_words ws in
    let e = c.to_le_bytes-both.ensures ∙ to_le_bytes_lem w16 (get_or ws k.i 0) in
    let low = byte_laid 0 both ws k.i (2 * k.i) e (omega arith) (omega arith) (omega arith) in
    let high = byte_laid 1 both ws k.i (2 * k.i + 1) e refl (omega arith) (omega arith) in
    let one = paste_more b (words ws) 0 start (2 * k.i) at (get_or both 0 0) k.bytes k.invariant refl low (omega arith) (omega arith) in
    let two = paste_more b (words ws) 0 start (2 * k.i + 1) (at + 1) (get_or both 1 0) (set k.bytes at (get_or both 0 0)) one (omega arith) high (omega arith) (omega arith) in
    let next : 2 * k.i + 1 + 1 ≡ 2 * (k.i + 1) = omega arith in
    rw next at two

pub returns-then-end-lt-ROOM : goal.returns-then-end-lt-ROOM
unfolding room
returns-then-end-lt-ROOM c =
    let k = c.loop-i in
    let r = c.args.self in
    let ws = c.args.ws.now in
    let start = c.min-start.result in
    let whole = c.min-whole.result in
    let end = start + 2 * whole in
    let both = c.to_le_bytes.result in
    let l : length r.bytes ≡ 274 = search rules in
    let n = length_words ws in
    let last : k.i ≡ whole = omega arith in
    let e = c.to_le_bytes.ensures ∙ to_le_bytes_lem w16 (get_or ws whole 0) in
    let low = byte_laid 0 both ws whole (2 * whole) e (omega arith) (omega arith) (omega arith) in
    let one = paste_more r.bytes (words ws) 0 start (2 * whole) end (get_or both 0 0) k.bytes (rw last at k.invariant) refl low (omega arith) (omega arith) in
    appended r (words ws) start (2 * whole + 1) (end + 1) (set k.bytes end (get_or both 0 0)) l (omega arith) (omega arith) (omega arith) one

pub returns : goal.returns
unfolding room
returns c =
    let k = c.loop-i in
    let r = c.args.self in
    let ws = c.args.ws.now in
    let start = c.min-start.result in
    let whole = c.min-whole.result in
    let l : length r.bytes ≡ 274 = search rules in
    let n = length_words ws in
    let last : k.i ≡ whole = omega arith in
    appended r (words ws) start (2 * whole) (start + 2 * whole) k.bytes l (omega arith) (omega arith) refl (rw last at k.invariant)
