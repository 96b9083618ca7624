-- One channel, and 32 of them. A rule of document 01 speaks of one channel; `whole` makes of it what all 32 are.
-- Assumes nothing.
use Rattle.std.specs.Prelude.{Bool, ℕ, get_or}
use Rattle.channels.specs.{Sets.has, Sets.set_of, Sets.list_of, declared.Channels.Channels}

-- one channel: whether it is on, whether it is latched, and how often overcurrent turned it off
pub record Chan : Type 0 where
  pub on : Bool
  pub latched : Bool
  pub count : ℕ

-- channel c of s
abbrev pub chan : Channels → ℕ → Chan
chan s c = record { on = has s.on c; latched = has s.latched c; count = get_or s.counts c 0 }

-- the 32 channels of which f gives each
unfoldable pub whole : (ℕ → Chan) → Channels
whole f =
    record {
      on = set_of 32 (λ c. (f c).on);
      latched = set_of 32 (λ c. (f c).latched);
      counts = list_of 32 (λ c. (f c).count);
    }
