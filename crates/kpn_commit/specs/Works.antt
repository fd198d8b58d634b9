-- The work of a commit: a reaction, then what follows if no process is ready or out.
use Rattle.std.specs.Prelude.{◌≡◌, ℕ, ◌+◌, List, Option, Some, None, length, nat_le, if◌then◌else◌}
use Rattle.kpn_model.specs.declared.kinds.Answer.{Answer}
use Rattle.kpn_model.specs.declared.history.End.{End}
use Rattle.kpn_model.specs.declared.history.End.TheVariants.{Budget}
use Rattle.kpn_model.specs.Network.{Family, Network}
use Rattle.kpn_state.specs.StateAndHistory.{StateAndHistory}
use Rattle.kpn_state.specs.declared.standing.Standing.{Standing}
use Rattle.kpn_commit.specs.declared.react.Reaction.{Reaction}
use Rattle.kpn_commit.specs.declared.react.Reaction.TheVariants.{Waits, Acts, HandsOn}
use Rattle.kpn_commit.specs.declared.resolution.Resolution.{Resolution}
use Rattle.kpn_commit.specs.declared.resolution.Resolution.TheVariants.{Busy, Ended, Enlarged}
use Rattle.kpn_commit.specs.declared.outcome.Outcome.{Outcome}
use Rattle.kpn_commit.specs.declared.outcome.Outcome.TheVariants.{Done, Parked}
use Rattle.kpn_commit.specs.Reactions.{Reacts}
use Rattle.kpn_commit.specs.Resolving.{Resolves}

abbrev pub acted_entries : Reaction → ℕ
acted_entries Waits = 0
acted_entries Acts = 1
acted_entries HandsOn = 2

abbrev pub resolution_entries : Resolution → ℕ
resolution_entries Busy = 0
resolution_entries (Ended end) = 0
resolution_entries Enlarged = 2

abbrev pub outcome_of : Reaction → Resolution → Outcome
outcome_of Waits resolution = Parked (resolution_entries resolution)
outcome_of Acts resolution = Done (1 + resolution_entries resolution)
outcome_of HandsOn resolution = Done (2 + resolution_entries resolution)

-- by the cause found, else by the budget, if it is spent
abbrev pub end_after : Resolution → ℕ → ℕ → Option End
end_after Busy budget entries = if nat_le budget entries then Some Budget else None
end_after (Ended end) budget entries = Some end
end_after Enlarged budget entries = if nat_le budget entries then Some Budget else None

module _ (kinds : Family) (net : Network) (s : StateAndHistory) (standings : List Standing) (p : ℕ) (a : Answer) where
  pub record Works (outcome : Outcome) (t : StateAndHistory) (moved : List Standing) (end : Option End) : Type 0 where
    pub reaction : Reaction
    pub between : StateAndHistory
    pub standings_between : List Standing
    pub reacts : Reacts kinds net s standings p a reaction between standings_between
    pub resolution : Resolution
    pub resolves : Resolves kinds net between standings_between resolution t moved
    pub outcome_is : outcome ≡ outcome_of reaction resolution
    pub end_is : end ≡ end_after resolution net.budget (length t.history)
