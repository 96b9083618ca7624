-- Raw and engineering readings. Assumes nothing.
use mathlib.Core.Path.{sym, ◌∙◌}
use Rattle.single.specs.Single.{Single}
use Rattle.readings.proofs.none_measured.Reads as none_measured
use Rattle.readings.proofs.measured.Reads as measured
use Rattle.readings.proofs.words.Reads as words
use Rattle.readings.proofs.convert.Reads as convert
use Rattle.readings.proofs.convert_all.Reads as convert_all
use Rattle.readings.proofs.append_raw.Reads as append_raw
use Rattle.readings.proofs.append_engineering.Reads as append_engineering
use Rattle.readings.proofs.pack_temperature.Reads as pack_temperature
use Rattle.readings.proofs.append_packs.Reads as append_packs

pub single_none_measured : Single none_measured.Post (λ κ r s. r)
single_none_measured κ a r r' s s' p q = p ∙ sym q

pub single_measured : Single measured.Post (λ κ r s. r)
single_measured κ a r r' s s' p q = p ∙ sym q

pub single_words : Single words.Post (λ κ r s. r)
single_words κ a r r' s s' p q = p ∙ sym q

pub single_convert : Single convert.Post (λ κ r s. r)
single_convert κ a r r' s s' p q = p ∙ sym q

pub single_convert_all : Single convert_all.Post (λ κ r s. r)
single_convert_all κ a r r' s s' p q = p ∙ sym q

pub single_append_raw : Single append_raw.Post (λ κ r s. r)
single_append_raw κ a r r' s s' p q = p ∙ sym q

pub single_append_engineering : Single append_engineering.Post (λ κ r s. r)
single_append_engineering κ a r r' s s' p q = p ∙ sym q

pub single_pack_temperature : Single pack_temperature.Post (λ κ r s. r)
single_pack_temperature κ a r r' s s' p q = p ∙ sym q

pub single_append_packs : Single append_packs.Post (λ κ r s. r)
single_append_packs κ a r r' s s' p q = p ∙ sym q
