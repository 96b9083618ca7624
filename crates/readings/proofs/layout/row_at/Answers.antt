-- The two words in front, then blocks, then the channels' blocks.
use mathlib.Core.Path.{sym, ◌∙◌, ap}
use native.Mathlib.Omega.{arith}
use Rattle.readings.specs.Layout.{POWE, VIP-CH, ◌by◌, row_of, row_at}
use Rattle.readings.specs.declared.table.Row.TheVariants.{ChannelPowe}
use Rattle.readings.proofs.Places.{supply_at, temperature_at, vip_row_at, channel_row_at}
use Rattle.readings.proofs.layout.row_at.Goals as goal

pub returns-then-i-eq0 : goal.returns-then-i-eq0
returns-then-i-eq0 c = sym (ap row_at (omega arith) ∙ ap row_of (supply_at (POWE (VIP-CH 31) by ChannelPowe)))

pub returns-then-i-eq1 : goal.returns-then-i-eq1
returns-then-i-eq1 c = sym (ap row_at (omega arith) ∙ ap row_of (temperature_at (POWE (VIP-CH 31) by ChannelPowe)))

pub returns-then-i-lt26 : goal.returns-then-i-lt26
returns-then-i-lt26 c =
    c.vip_row.ensures ∙ sym (vip_row_at c.args.i (omega arith) (omega arith))

pub returns : goal.returns
returns c =
    c.channel_row.ensures ∙ sym (channel_row_at c.args.i (omega arith) (omega (arith, c.requires)))
