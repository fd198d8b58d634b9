-- The counts of a history.
use Rattle.std.specs.Prelude.{◌≡◌, ℕ, ◌+◌, ◌^◌, ◌<◌, ◌≤◌, List, [], ◌∷◌, ◌++◌, drop, length, get_or, set}
use Rattle.kpn_model.specs.declared.token.Token.{Token}
use Rattle.kpn_model.specs.declared.history.Deed.{Deed}
use Rattle.kpn_model.specs.declared.history.Deed.TheVariants.{Took, Put, Stopped}
use Rattle.kpn_model.specs.declared.history.Entry.{Entry}
use Rattle.kpn_model.specs.declared.history.Entry.TheVariants.{Did, Grew}
use Rattle.kpn_model.specs.Network.{Network, channel_of}
use Rattle.kpn_model.specs.History.{deeds, put_on, stream, taken, growths, grown}
use Rattle.kpn_report.specs.declared.channel_counts.ChannelCounts.{ChannelCounts}

-- the number of entries, which are fewer than 2 ^ 63
pub record IsCountOf (E : List Entry) (n : ℕ) : Type 0 where
  pub count : n ≡ length E
  pub few : length E < 2 ^ 63

-- the last capacity of c, grown or not
abbrev pub capacity_left : Network → List Entry → ℕ → ℕ
capacity_left net E c = grown (channel_of net c).capacity (growths E) c

abbrev pub counts_of : Network → List Entry → ℕ → ChannelCounts
counts_of net E c = record { put = length (put_on E c); taken = length (taken E c); capacity = capacity_left net E c }

abbrev pub no_counts : ChannelCounts
no_counts = record { put = 0; taken = 0; capacity = 0 }

pub record Tabulates {X : Type 0} (none : X) (n : ℕ) (f : ℕ → X) (xs : List X) : Type 0 where
  pub count : length xs ≡ n
  pub each : (i : ℕ) → i < n → get_or xs i none ≡ f i

abbrev pub CountsSteps : Network → List Entry → List ℕ → Type 0
CountsSteps net E steps = Tabulates 0 (length net.processes) (λ p. length (deeds E p)) steps

abbrev pub KeepsCounts : Network → List Entry → List ChannelCounts → Type 0
KeepsCounts net E channel_counts = Tabulates no_counts (length net.channels) (counts_of net E) channel_counts

abbrev pub KeepsStreams : Network → List Entry → List (List Token) → Type 0
KeepsStreams net E streams = Tabulates [] (length net.channels) (stream net E) streams

-- the stream of c; nothing if the network has no such channel
pub record IsStreamOf (net : Network) (E : List Entry) (c : ℕ) (items : List Token) : Type 0 where
  pub tokens : c < length net.channels → items ≡ stream net E c
  pub none : length net.channels ≤ c → items ≡ []

abbrev pub counts_at : List ChannelCounts → ℕ → ChannelCounts
counts_at channel_counts c = get_or channel_counts c no_counts

abbrev pub with_put : ChannelCounts → ChannelCounts
with_put a = record a { put = a.put + 1 }

abbrev pub with_taken : ChannelCounts → ChannelCounts
with_taken a = record a { taken = a.taken + 1 }

abbrev pub with_capacity : ChannelCounts → ℕ → ChannelCounts
with_capacity a n = record a { capacity = n }

-- after one more token put on c, or taken from it, or after a growth of c
abbrev pub one_more_put : List ChannelCounts → ℕ → List ChannelCounts
one_more_put channel_counts c = set channel_counts c (with_put (counts_at channel_counts c))

abbrev pub one_more_taken : List ChannelCounts → ℕ → List ChannelCounts
one_more_taken channel_counts c = set channel_counts c (with_taken (counts_at channel_counts c))

abbrev pub grown_at : List ChannelCounts → ℕ → ℕ → List ChannelCounts
grown_at channel_counts c to = set channel_counts c (with_capacity (counts_at channel_counts c) to)

-- the tokens left of stream c
abbrev pub rest_at : List (List Token) → List ChannelCounts → ℕ → List Token
rest_at streams channel_counts c = drop (counts_at channel_counts c).taken (get_or streams c [])

-- unchanged if there is no such place
abbrev pub one_more_at : List ℕ → ℕ → List ℕ
one_more_at counts k = set counts k (get_or counts k 0 + 1)

-- after one more entry
abbrev pub steps_after : List ℕ → Entry → List ℕ
steps_after steps (Did p d) = one_more_at steps p
steps_after steps (Grew c to) = steps

abbrev pub counts_after_deed : List ChannelCounts → Deed → List ChannelCounts
counts_after_deed channel_counts (Took c t) = one_more_taken channel_counts c
counts_after_deed channel_counts (Put c t) = one_more_put channel_counts c
counts_after_deed channel_counts Stopped = channel_counts

abbrev pub counts_after : List ChannelCounts → Entry → List ChannelCounts
counts_after channel_counts (Did p d) = counts_after_deed channel_counts d
counts_after channel_counts (Grew c to) = grown_at channel_counts c to

-- after one more deed or entry
abbrev pub streams_after_deed : List (List Token) → Deed → List (List Token)
streams_after_deed streams (Took c t) = streams
streams_after_deed streams (Put c t) = set streams c (get_or streams c [] ++ t ∷ [])
streams_after_deed streams Stopped = streams

abbrev pub streams_after : List (List Token) → Entry → List (List Token)
streams_after streams (Did p d) = streams_after_deed streams d
streams_after streams (Grew c to) = streams
