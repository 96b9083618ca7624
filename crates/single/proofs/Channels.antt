-- Channels. Assumes nothing.
use mathlib.Core.Path.{sym, ◌∙◌}
use Rattle.single.specs.Single.{Single}
use Rattle.channels.proofs.contains.Reads as contains
use Rattle.channels.proofs.within.Reads as within
use Rattle.channels.proofs.with_channel.Reads as with_channel
use Rattle.channels.proofs.may_switch_on.Reads as may_switch_on
use Rattle.channels.proofs.may_switch_off.Reads as may_switch_off
use Rattle.channels.proofs.Channels.clear.Reads as channels_clear
use Rattle.channels.proofs.Channels.on.Reads as channels_on
use Rattle.channels.proofs.Channels.latched.Reads as channels_latched
use Rattle.channels.proofs.Channels.counts.Reads as channels_counts
use Rattle.channels.proofs.Channels.overcurrent.Reads as channels_overcurrent
use Rattle.channels.proofs.Channels.group_on.Reads as channels_group_on
use Rattle.channels.proofs.Channels.group_off.Reads as channels_group_off
use Rattle.channels.proofs.Channels.group_state.Reads as channels_group_state
use Rattle.channels.proofs.Channels.switch_on.Reads as channels_switch_on
use Rattle.channels.proofs.Channels.switch_off.Reads as channels_switch_off
use Rattle.channels.proofs.Channels.command_enabled_off.Reads as channels_command_enabled_off
use Rattle.channels.proofs.Channels.all_off.Reads as channels_all_off
use Rattle.channels.proofs.Channels.forced_on.Reads as channels_forced_on

pub single_contains : Single contains.Post (λ κ r s. r)
single_contains κ a r r' s s' p q = p ∙ sym q

pub single_within : Single within.Post (λ κ r s. r)
single_within κ a r r' s s' p q = p ∙ sym q

pub single_with_channel : Single with_channel.Post (λ κ r s. r)
single_with_channel κ a r r' s s' p q = p ∙ sym q

pub single_may_switch_on : Single may_switch_on.Post (λ κ r s. r)
single_may_switch_on κ a r r' s s' p q = p ∙ sym q

pub single_may_switch_off : Single may_switch_off.Post (λ κ r s. r)
single_may_switch_off κ a r r' s s' p q = p ∙ sym q

pub single_channels_clear : Single channels_clear.Post (λ κ r s. r)
single_channels_clear κ a r r' s s' p q = p ∙ sym q

pub single_channels_on : Single channels_on.Post (λ κ r s. r)
single_channels_on κ a r r' s s' p q = p ∙ sym q

pub single_channels_latched : Single channels_latched.Post (λ κ r s. r)
single_channels_latched κ a r r' s s' p q = p ∙ sym q

pub single_channels_counts : Single channels_counts.Post (λ κ r s. r)
single_channels_counts κ a r r' s s' p q = p ∙ sym q

pub single_channels_overcurrent : Single channels_overcurrent.Post (λ κ r s. r)
single_channels_overcurrent κ a r r' s s' p q = p ∙ sym q

pub single_channels_group_on : Single channels_group_on.Post (λ κ r s. r)
single_channels_group_on κ a r r' s s' p q = p ∙ sym q

pub single_channels_group_off : Single channels_group_off.Post (λ κ r s. r)
single_channels_group_off κ a r r' s s' p q = p ∙ sym q

pub single_channels_group_state : Single channels_group_state.Post (λ κ r s. r)
single_channels_group_state κ a r r' s s' p q = p ∙ sym q

pub single_channels_switch_on : Single channels_switch_on.Post (λ κ r s. r)
single_channels_switch_on κ a r r' s s' p q = p ∙ sym q

pub single_channels_switch_off : Single channels_switch_off.Post (λ κ r s. r)
single_channels_switch_off κ a r r' s s' p q = p ∙ sym q

pub single_channels_command_enabled_off : Single channels_command_enabled_off.Post (λ κ r s. r)
single_channels_command_enabled_off κ a r r' s s' p q = p ∙ sym q

pub single_channels_all_off : Single channels_all_off.Post (λ κ r s. r)
single_channels_all_off κ a r r' s s' p q = p ∙ sym q

pub single_channels_forced_on : Single channels_forced_on.Post (λ κ r s. r)
single_channels_forced_on κ a r r' s s' p q = p ∙ sym q
