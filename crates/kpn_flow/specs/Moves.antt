-- What feeding and draining a flow does.
use Rattle.std.specs.Prelude.{◌≡◌, ℕ, ◌<◌, ◌≤◌, Bool, false, List, [], Option, IfSome, IfNone, IsTrue, length, map, take, drop}
use Rattle.kpn_model.specs.declared.token.Token.{Token}
use Rattle.kpn_model.specs.Network.{Family}
use Rattle.kpn_model.specs.Semantics.{tokens, capacity}
use Rattle.kpn_flow.specs.Events.{Happens, Fed, Drained, Flows}
use Rattle.kpn_flow.specs.Flows.{FlowView, IsSameFlow}

module _ (kinds : Family) where
  -- the token comes in, or c is full and nothing happens
  pub record Feeds (s : FlowView) (c : ℕ) (token : Token) (done : Bool) (t : FlowView) : Type 0 where
    pub same : IsSameFlow s t
    pub counts : t.counts ≡ s.counts
    pub fed : IsTrue done → Happens kinds s.network s.state (Fed c token) t.state
    pub full : done ≡ false → (t ≡ s) × (capacity s.state c ≤ length (tokens s.state c))

  -- this many of the tokens come in, and no more only if c is then full
  pub record FeedsAll (s : FlowView) (c : ℕ) (batch : List Token) (count : ℕ) (t : FlowView) : Type 0 where
    pub same : IsSameFlow s t
    pub counts : t.counts ≡ s.counts
    pub few : count ≤ length batch
    pub fed : Flows kinds s.network s.state (map (Fed c) (take count batch)) t.state
    pub full : count < length batch → capacity t.state c ≤ length (tokens t.state c)

  -- the first token goes out, or c is empty and nothing happens
  pub record DrainsOne (s : FlowView) (c : ℕ) (result : Option Token) (t : FlowView) : Type 0 where
    pub same : IsSameFlow s t
    pub counts : t.counts ≡ s.counts
    pub drained : IfSome result (λ token. Happens kinds s.network s.state (Drained c token) t.state)
    pub empty : IfNone result ((t ≡ s) × (tokens s.state c ≡ []))

  module _ (s : FlowView) (c : ℕ) (buffer : List Token) where
    -- this many tokens go out, to the front of the buffer, and no more only if it is full or c then empty
    pub record DrainsInto (count : ℕ) (filled : List Token) (t : FlowView) : Type 0 where
      pub same : IsSameFlow s t
      pub counts : t.counts ≡ s.counts
      pub few : count ≤ length buffer
      pub long : length filled ≡ length buffer
      pub drained : Flows kinds s.network s.state (map (Drained c) (take count filled)) t.state
      pub rest : drop count filled ≡ drop count buffer
      pub empty : count < length buffer → tokens t.state c ≡ []
