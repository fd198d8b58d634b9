-- The caller of a flow as one more process of its network.
use Rattle.std.specs.Prelude.{◌≡◌, ℕ, true, false, List, [], ◌++◌}
use Rattle.kpn_model.specs.declared.token.Token.{Token}
use Rattle.kpn_model.specs.declared.history.Deed.{Deed}
use Rattle.kpn_model.specs.Network.{Family, Network, channel_of}
use Rattle.kpn_model.specs.Semantics.{State, tokens, start}
use Rattle.kpn_model.specs.History.{IsPrefixOf}
use Rattle.kpn_laws.specs.Alone.{Streams, BeginsWith, DoesAlone}
use Rattle.kpn_laws.specs.Equations.{written}
use Rattle.kpn_flow.specs.Events.{Event, Flows, fed, drained}
use Rattle.kpn_flow.specs.Preloaded.{IsAtEnds}
use Rattle.kpn_flow.specs.Flows.{is_among, AreEnds}

-- what the caller's process feeds into each input once it has drained these tokens from each output
abbrev pub OwnProcess : Type 0
OwnProcess = (ℕ → List Token) → ℕ → List Token

-- if the channels have the streams T, these tokens may have been drained: a prefix of each output's stream, and
-- nothing from other channels
pub record MayBeDrained (outputs : List ℕ) (T : Streams) (d : ℕ → List Token) : Type 0 where
  pub first_parts : (c : ℕ) → is_among outputs c ≡ true → BeginsWith (T c) (d c)
  pub no_others : (c : ℕ) → is_among outputs c ≡ false → d c ≡ []

module _ (kinds : Family) (net : Network) (inputs outputs : List ℕ) where
  -- T is a pre-fixed point of the equations of the network and of the caller's process: the stream of an input begins
  -- with its start tokens and what that process feeds, whatever it may have drained; that of another channel with all
  -- that its writer writes
  pub record ObeysWith (own : OwnProcess) (T : Streams) : Type 0 where
    pub inside :
        (c : ℕ) (ds : List Deed) → is_among inputs c ≡ false → DoesAlone kinds net T (channel_of net c).writer ds
        → BeginsWith (T c) (written net c ds)
    pub outside :
        (d : ℕ → List Token) → MayBeDrained outputs T d → (c : ℕ) → is_among inputs c ≡ true
        → BeginsWith (T c) ((channel_of net c).tokens ++ own d c)

-- at each time what was fed is a prefix of what the caller's process feeds for what was drained by then
abbrev pub FeedsAsOwn : List ℕ → OwnProcess → List Event → Type 0
FeedsAsOwn inputs own xs =
    (ys zs : List Event) → xs ≡ ys ++ zs
    → (c : ℕ) → is_among inputs c ≡ true → IsPrefixOf (fed ys c) (own (drained ys) c)

-- what left an output, with what is in it, is a prefix of its stream in each such T (Kahn 1974)
abbrev pub OwnProcessesAreBelow : Family → Type 0
OwnProcessesAreBelow kinds =
    (net : Network) (inputs outputs : List ℕ) → AreEnds kinds net inputs outputs
    → (own : OwnProcess) (T : Streams) → ObeysWith kinds net inputs outputs own T
    → (xs : List Event) (M : State) → Flows kinds net (start kinds net) xs M
    → IsAtEnds (is_among inputs) (is_among outputs) xs → FeedsAsOwn inputs own xs
    → (c : ℕ) → is_among outputs c ≡ true → BeginsWith (T c) (drained xs c ++ tokens M c)
