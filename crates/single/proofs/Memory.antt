-- What a board keeps of its settings. Assumes nothing.
use mathlib.Core.Path.{sym, ◌∙◌}
use Rattle.single.specs.Single.{Single}
use Rattle.memory.proofs.one_more.Reads as one_more
use Rattle.memory.proofs.Memory.loaded.Reads as memory_loaded
use Rattle.memory.proofs.Memory.load.Reads as memory_load
use Rattle.memory.proofs.Memory.to_defaults.Reads as memory_to_defaults
use Rattle.memory.proofs.Memory.set.Reads as memory_set
use Rattle.memory.proofs.Memory.reset_one.Reads as memory_reset_one
use Rattle.memory.proofs.Memory.save.Reads as memory_save
use Rattle.memory.proofs.Memory.safety_low.Reads as memory_safety_low
use Rattle.memory.proofs.Memory.safety_high.Reads as memory_safety_high
use Rattle.memory.proofs.Memory.timeout.Reads as memory_timeout
use Rattle.memory.proofs.Memory.limits.Reads as memory_limits

pub single_one_more : Single one_more.Post (λ κ r s. r)
single_one_more κ a r r' s s' p q = p ∙ sym q

pub single_memory_loaded : Single memory_loaded.Post (λ κ r s. r)
single_memory_loaded κ a r r' s s' p q = p ∙ sym q

pub single_memory_load : Single memory_load.Post (λ κ r s. r)
single_memory_load κ a r r' s s' p q = p ∙ sym q

pub single_memory_to_defaults : Single memory_to_defaults.Post (λ κ r s. r)
single_memory_to_defaults κ a r r' s s' p q = p ∙ sym q

pub single_memory_set : Single memory_set.Post (λ κ r s. r)
single_memory_set κ a r r' s s' p q = p ∙ sym q

pub single_memory_reset_one : Single memory_reset_one.Post (λ κ r s. r)
single_memory_reset_one κ a r r' s s' p q = p ∙ sym q

pub single_memory_save : Single memory_save.Post (λ κ r s. r)
single_memory_save κ a r r' s s' p q = p.0 ∙ sym q.0

pub single_memory_safety_low : Single memory_safety_low.Post (λ κ r s. r)
single_memory_safety_low κ a r r' s s' p q = p ∙ sym q

pub single_memory_safety_high : Single memory_safety_high.Post (λ κ r s. r)
single_memory_safety_high κ a r r' s s' p q = p ∙ sym q

pub single_memory_timeout : Single memory_timeout.Post (λ κ r s. r)
single_memory_timeout κ a r r' s s' p q = p ∙ sym q

pub single_memory_limits : Single memory_limits.Post (λ κ r s. r)
single_memory_limits κ a r r' s s' p q = p ∙ sym q
