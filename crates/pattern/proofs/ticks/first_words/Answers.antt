-- Each word is its place. Assumes nothing.
use Rattle.std.proofs.Common.{◌<◌, sym, ◌∙◌, rules, arith}
use Rattle.std.proofs.lemmas.List.{ext_get_or}
use Rattle.std.proofs.lemmas.List.FromFn.{length-range_with_len, get_or-range_with_len}
use Rattle.pattern.proofs.ticks.first_words.Goals as goal

pub returns : goal.returns
returns c =
    let made = c.from_fn.ensures.items in
    ext_get_or 0 _ _ (made.long ∙ sym (length-range_with_len 0 130))
    (λ i h. (let in_room : i < 130 = omega (arith, made.long) in let is_place = (made.at i 0 in_room).2 in rw (get_or-range_with_len 0 130 i 0) (search rules)))
