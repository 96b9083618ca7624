-- Numbers, floats and replies. Assumes nothing.
use mathlib.Core.Path.{sym, ◌∙◌}
use Rattle.single.specs.Single.{Single}
use Rattle.wire.proofs.float_of32.Reads as float_of32
use Rattle.wire.proofs.float_of64.Reads as float_of64
use Rattle.wire.proofs.float_bits32.Reads as float_bits32
use Rattle.wire.proofs.float_bits64.Reads as float_bits64
use Rattle.wire.proofs.byte.Reads as byte
use Rattle.wire.proofs.rest.Reads as rest
use Rattle.wire.proofs.first.Reads as first
use Rattle.wire.proofs.numbers.I8Travels.read_at.Reads as read_i8
use Rattle.wire.proofs.numbers.U8Travels.read_at.Reads as read_u8
use Rattle.wire.proofs.numbers.I16Travels.read_at.Reads as read_i16
use Rattle.wire.proofs.numbers.U16Travels.read_at.Reads as read_u16
use Rattle.wire.proofs.numbers.I32Travels.read_at.Reads as read_i32
use Rattle.wire.proofs.numbers.U32Travels.read_at.Reads as read_u32
use Rattle.wire.proofs.numbers.I64Travels.read_at.Reads as read_i64
use Rattle.wire.proofs.numbers.U64Travels.read_at.Reads as read_u64
use Rattle.wire.proofs.reply.Reply.none.Reads as reply_none
use Rattle.wire.proofs.reply.Reply.short.Reads as reply_short
use Rattle.wire.proofs.reply.Reply.append_bytes.Reads as reply_append_bytes
use Rattle.wire.proofs.reply.Reply.append_words.Reads as reply_append_words
use Rattle.wire.proofs.reply.Reply.fill.Reads as reply_fill

pub single_float_of32 : Single float_of32.Post (λ κ r s. r)
single_float_of32 κ a r r' s s' p q = p ∙ sym q

pub single_float_of64 : Single float_of64.Post (λ κ r s. r)
single_float_of64 κ a r r' s s' p q = p ∙ sym q

pub single_float_bits32 : Single float_bits32.Post (λ κ r s. r)
single_float_bits32 κ a r r' s s' p q = p ∙ sym q

pub single_float_bits64 : Single float_bits64.Post (λ κ r s. r)
single_float_bits64 κ a r r' s s' p q = p ∙ sym q

pub single_byte : Single byte.Post (λ κ r s. r)
single_byte κ a r r' s s' p q = p ∙ sym q

pub single_rest : (t : _) (l : _) → Single (rest.Post t l) (λ κ r s. r.now)
single_rest t l κ a r r' s s' p q = p ∙ sym q

pub single_first : (t : _) (l : _) → Single (first.Post t l) (λ κ r s. r.now)
single_first t l κ a r r' s s' p q = p ∙ sym q

pub single_read_i8 : Single read_i8.Post (λ κ r s. r)
single_read_i8 κ a r r' s s' p q = p ∙ sym q

pub single_read_u8 : Single read_u8.Post (λ κ r s. r)
single_read_u8 κ a r r' s s' p q = p ∙ sym q

pub single_read_i16 : Single read_i16.Post (λ κ r s. r)
single_read_i16 κ a r r' s s' p q = p ∙ sym q

pub single_read_u16 : Single read_u16.Post (λ κ r s. r)
single_read_u16 κ a r r' s s' p q = p ∙ sym q

pub single_read_i32 : Single read_i32.Post (λ κ r s. r)
single_read_i32 κ a r r' s s' p q = p ∙ sym q

pub single_read_u32 : Single read_u32.Post (λ κ r s. r)
single_read_u32 κ a r r' s s' p q = p ∙ sym q

pub single_read_i64 : Single read_i64.Post (λ κ r s. r)
single_read_i64 κ a r r' s s' p q = p ∙ sym q

pub single_read_u64 : Single read_u64.Post (λ κ r s. r)
single_read_u64 κ a r r' s s' p q = p ∙ sym q

pub single_reply_none : Single reply_none.Post (λ κ r s. r)
single_reply_none κ a r r' s s' p q = p ∙ sym q

pub single_reply_short : Single reply_short.Post (λ κ r s. r)
single_reply_short κ a r r' s s' p q = p ∙ sym q

pub single_reply_append_bytes : Single reply_append_bytes.Post (λ κ r s. r)
single_reply_append_bytes κ a r r' s s' p q = p ∙ sym q

pub single_reply_append_words : Single reply_append_words.Post (λ κ r s. r)
single_reply_append_words κ a r r' s s' p q = p ∙ sym q

pub held_reply_fill : Single reply_fill.Post (λ κ r s. s.1.0.now)
held_reply_fill κ a r r' s s' p q = p ∙ sym q
