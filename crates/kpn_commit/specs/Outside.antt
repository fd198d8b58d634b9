-- Tokens that enter or leave a channel from outside the network.
use Rattle.std.specs.Prelude.{◌≡◌, ◌<◌, ℕ, length}
use Rattle.kpn_model.specs.declared.token.Token.{Token}
use Rattle.kpn_model.specs.Network.{Family, Network, channel_of, Admits}
use Rattle.kpn_model.specs.Semantics.{tokens, capacity, with_token, without_first}
use Rattle.kpn_model.specs.Valid.{IsOfSort}
use Rattle.kpn_state.specs.StateAndHistory.{put_in}
use Rattle.kpn_state.specs.declared.standing.Standing.TheVariants.{Out}
use Rattle.kpn_state.specs.Standings.{standing}
use Rattle.kpn_commit.specs.declared.cores.Core.{Core}
use Rattle.kpn_commit.specs.Coherent.{IsCoherent}

-- the core with this token put into c, without an entry
abbrev pub fed : {H : Type 0} → Core H → ℕ → Token → Core H
fed core c t = record core { store = put_in core.store (with_token core.store.state c t) }

-- the core without the first token of c, without an entry
abbrev pub drained : {H : Type 0} → Core H → ℕ → Core H
drained core c = record core { store = put_in core.store (without_first core.store.state c) }

module _ {H : Type 0} (kinds : Family) (admits : Admits) (net : Network) where
  -- c has room, and the token its sort
  pub record MayFeed (core : Core H) (c : ℕ) (t : Token) : Type 0 where
    pub coherent : IsCoherent kinds admits net core
    pub channel : c < length net.channels
    pub sort : IsOfSort (channel_of net c).sort t
    pub space : length (tokens core.store.state c) < capacity core.store.state c

  -- c has a token
  pub record MayDrain (core : Core H) (c : ℕ) : Type 0 where
    pub coherent : IsCoherent kinds admits net core
    pub channel : c < length net.channels
    pub some : 0 < length (tokens core.store.state c)

  -- parked processes become ready until none can continue, and no process is sent out
  pub record OnlyWakes (core moved : Core H) : Type 0 where
    pub store : moved.store ≡ core.store
    pub coherent : IsCoherent kinds admits net moved
    pub none_sent : (p : ℕ) → standing moved.standings p ≡ Out → standing core.standings p ≡ Out
