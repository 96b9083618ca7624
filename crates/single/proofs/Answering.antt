-- What an answered transfer leaves. Assumes nothing.
use mathlib.Core.Path.{sym, ◌∙◌}
use Rattle.single.specs.Single.{Single}
use Rattle.answering.proofs.reply_to.Reads as reply_to
use Rattle.answering.proofs.is_altering.Reads as is_altering
use Rattle.answering.proofs.is_restart.Reads as is_restart
use Rattle.answering.proofs.memory_after.Reads as memory_after

pub single_reply_to : Single reply_to.Post (λ κ r s. r)
single_reply_to κ a r r' s s' p q = p ∙ sym q

pub single_is_altering : Single is_altering.Post (λ κ r s. r)
single_is_altering κ a r r' s s' p q = p ∙ sym q

pub single_is_restart : Single is_restart.Post (λ κ r s. r)
single_is_restart κ a r r' s s' p q = p ∙ sym q

pub single_memory_after : Single memory_after.Post (λ κ r s. r)
single_memory_after κ a r r' s s' p q = p ∙ sym q
