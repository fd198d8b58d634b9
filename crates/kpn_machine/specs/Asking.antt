-- Asking ready processes, one after the other.
use Rattle.std.specs.Prelude.{◌≡◌, ◌≢◌, ℕ, ◌<◌, ◌≤◌, List, [], ◌∷◌, Option, Some, None, IfSome, length}
use Rattle.kpn_model.specs.declared.kinds.Answer.{Answer}
use Rattle.kpn_model.specs.Network.{Family, Network, Admits}
use Rattle.kpn_model.specs.Semantics.{wants}
use Rattle.kpn_state.specs.StateAndHistory.{StateAndHistory}
use Rattle.kpn_state.specs.declared.standing.Standing.{Standing}
use Rattle.kpn_state.specs.declared.standing.Standing.TheVariants.{Ready}
use Rattle.kpn_state.specs.Standings.{standing, StandingsFit}
use Rattle.kpn_commit.specs.declared.react.Reaction.{Reaction}
use Rattle.kpn_commit.specs.Reactions.{Reacts}
use Rattle.kpn_commit.specs.declared.cores.Core.{Core}
use Rattle.kpn_commit.specs.Coherent.{IsCoherent}

module _ (kinds : Family) (admits : Admits) (net : Network) where
  module _ (s : StateAndHistory) (standings : List Standing) where
    -- a ready process is asked, and does what it wants or is parked; a parked process may then do its deed
    pub record IsAsked (reaction : Reaction) (t : StateAndHistory) (moved : List Standing) : Type 0 where
      pub process : ℕ
      pub ready : standing standings process ≡ Ready
      pub answer : Answer
      pub wanted : wants kinds net s.state process ≡ Some answer
      pub reacts : Reacts kinds net s standings process answer reaction t moved
      pub keeps : StandingsFit kinds admits net None t.state moved

  module _ (until : ℕ) (s : StateAndHistory) (standings : List Standing) (r : Reaction) where
    -- there are fewer than `until` entries, a ready process is asked, and then this holds
    abbrev pub AsksFirst : (StateAndHistory → List Standing → Type 0) → Type 0
    AsksFirst Then =
        (length s.history < until) × (t : StateAndHistory) × (l : List Standing) × IsAsked s standings r t l × Then t l

  -- one after the other, while there are fewer than `until` entries
  abbrev pub AreAsked : ℕ → StateAndHistory → List Standing → List Reaction → StateAndHistory → List Standing → Type 0
  AreAsked until s standings [] t moved = (t ≡ s) × (moved ≡ standings)
  AreAsked until s standings (r ∷ rs) t moved =
      AsksFirst until s standings r (λ between standings_between. AreAsked until between standings_between rs t moved)

  module _ {H : Type 0} (until limit : ℕ) (core : Core H) where
    -- the core came to this one, as ready processes were asked
    abbrev pub AsksInTurn : List Reaction → Core H → Type 0
    AsksInTurn reactions moved = AreAsked until core.store core.standings reactions moved.store moved.standings

    -- this many ready processes were asked, at most `limit`; fewer only if there are then `until` entries or no
    -- process is ready; `next`, if any, is ready
    pub record AsksReady (count : ℕ) (next : Option ℕ) (moved : Core H) : Type 0 where
      pub asked : (reactions : List Reaction) × (length reactions ≡ count) × AsksInTurn reactions moved
      pub coherent : IsCoherent kinds admits net moved
      pub again : IfSome next (λ p. standing moved.standings p ≡ Ready)
      pub most : count ≤ limit
      pub fewer : count < limit → length moved.store.history < until → (p : ℕ) → standing moved.standings p ≢ Ready
