-- Delays: tokens that a channel holds before its start tokens.
use Rattle.std.specs.Prelude.{ℕ, zero, suc, ℤ, pos, negsuc, Bool, false, ◌+◌, if◌then◌else◌, nat_le, List, [], ◌∷◌, ◌++◌, length, replicate, slice_index_or}
use Rattle.std.specs.Int.{int_max}
use Rattle.kpn_model.specs.declared.token.Sort.{Sort}
use Rattle.kpn_model.specs.declared.token.Sort.TheVariants.{Words, Flags}
use Rattle.kpn_model.specs.declared.limits.TheConstants.{HIGH_CEILING}
use Rattle.kpn_front.specs.Names.{KindNames, Signatures}
use Rattle.kpn_sketch.specs.declared.sketch.TokenSketch.{TokenSketch}
use Rattle.kpn_sketch.specs.declared.sketch.TokenSketch.TheVariants.{Integer, Boolean}
use Rattle.kpn_sketch.specs.declared.sketch.ChannelSketch.{ChannelSketch}
use Rattle.kpn_sketch.specs.declared.sketch.Delay.{Delay}
use Rattle.kpn_sketch.specs.declared.sketch.Sketch.{Sketch}
use Rattle.hox_network.specs.Ports.{sort_by_ports}

abbrev pub zero_of : Sort → TokenSketch
zero_of Words = Integer (pos 0)
zero_of Flags = Boolean false

-- the channel with n zeros before its start tokens, and room for all
abbrev pub holding_first : ℕ → Sort → ChannelSketch → ChannelSketch
holding_first n sort c =
    let tokens = replicate n (zero_of sort) ++ c.tokens in
    record c { capacity = int_max c.capacity (pos (length tokens)); tokens = tokens }

-- some channel has room for n tokens
abbrev pub may_hold : ℕ → Bool
may_hold n = nat_le n HIGH_CEILING

-- the channel with this capacity
abbrev pub of_capacity : ℤ → ChannelSketch → ChannelSketch
of_capacity capacity c = record c { capacity = capacity }

-- a delay for which no channel has room becomes the capacity, which no channel has
abbrev pub delayed : Sort → ℤ → ChannelSketch → ChannelSketch
delayed sort (pos zero) c = c
delayed sort (pos (suc n)) c = if may_hold (suc n) then holding_first (suc n) sort c else of_capacity (pos (suc n)) c
delayed sort (negsuc n) c = of_capacity (negsuc n) c

-- channel n delays by this
abbrev pub delay_at : List Delay → ℕ → ℤ
delay_at delays n = (slice_index_or delays n (record { tokens = pos 0 })).tokens

module _ (named : KindNames) (signature : Signatures) (delays : List Delay) where
  -- the channel as number n, with its delay
  abbrev delayed_at : Sketch → ℕ → ChannelSketch → ChannelSketch
  delayed_at sketch n c = delayed (sort_by_ports named signature sketch c) (delay_at delays n) c

  -- the channels from number n on, with their delays
  abbrev pub delayed_from : Sketch → ℕ → List ChannelSketch → List ChannelSketch
  delayed_from sketch n [] = []
  delayed_from sketch n (c ∷ cs) = delayed_at sketch n c ∷ delayed_from sketch (n + 1) cs

  abbrev pub with_delays : Sketch → Sketch
  with_delays sketch = record sketch { channels = delayed_from sketch 0 sketch.channels }
