-- All 32 channels are what they are one by one: a caller reads one channel off `whole f` by `chan_whole`, and shows a
-- value to be `whole f` by `is_whole`. Assumes nothing.
use mathlib.Core.Path.{◌≡◌, refl, sym, ap, ◌∙◌}
use Prim.Native.Nat.{ℕ, ◌<◌, ◌^◌}
use lib.ListN.{length}
use Rattle.channels.specs.Chan.{Chan, chan, whole}
use Rattle.channels.specs.declared.Channels.{Channels}
use Rattle.channels.proofs.Sets.{set_of_lt, has_set_of, is_set_of, length_list_of, get_or_list_of, is_list_of}

-- what every value of `Channels` keeps: its two sets are sets of 32 channels, and there are 32 counts
pub record Held (s : Channels) : Type 0 where
  pub on : s.on < 2 ^ 32
  pub latched : s.latched < 2 ^ 32
  pub counts : length s.counts ≡ 32

pub whole_held : (f : ℕ → Chan) → Held (whole f)
unfolding whole
whole_held f = record { on = set_of_lt 32 _; latched = set_of_lt 32 _; counts = length_list_of 32 _ }

-- channel c of the channels that f gives is what f gives
pub chan_whole : (f : ℕ → Chan) (c : ℕ) → c < 32 → chan (whole f) c ≡ f c
unfolding whole
chan_whole f c h =
    λ i. record {
      on = has_set_of 32 (λ k. (f k).on) c h i;
      latched = has_set_of 32 (λ k. (f k).latched) c h i;
      count = get_or_list_of 32 (λ k. (f k).count) c 0 h i;
    }

-- what has each channel as f gives it is what f gives
pub is_whole : (f : ℕ → Chan) (s : Channels) → Held s → ((c : ℕ) → c < 32 → chan s c ≡ f c) → s ≡ whole f
unfolding whole
is_whole f s k e =
    λ i. record {
      on = is_set_of 32 (λ c. (f c).on) s.on k.on (λ c h. ap (λ (x : Chan). x.on) (e c h)) i;
      latched = is_set_of 32 (λ c. (f c).latched) s.latched k.latched (λ c h. ap (λ (x : Chan). x.latched) (e c h)) i;
      counts = is_list_of 32 (λ c. (f c).count) s.counts k.counts (λ c h. ap (λ (x : Chan). x.count) (e c h)) i;
    }

-- two rules that agree on each channel give the same channels
pub whole_ext : (f g : ℕ → Chan) → ((c : ℕ) → c < 32 → f c ≡ g c) → whole f ≡ whole g
whole_ext f g e = is_whole g (whole f) (whole_held f) (λ c h. chan_whole f c h ∙ e c h)

-- channels that are the same one by one are the same
pub same_channels : (s t : Channels) → Held s → Held t → ((c : ℕ) → c < 32 → chan s c ≡ chan t c) → s ≡ t
same_channels s t hs ht e = is_whole (chan t) s hs e ∙ sym (is_whole (chan t) t ht (λ c h. refl))
