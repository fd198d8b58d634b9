-- What follows if no process is ready or out.
use Rattle.std.specs.Prelude.{◌≡◌, ℕ, true, false, List}
use Rattle.std.specs.List.{list_any}
use Rattle.kpn_model.specs.declared.token.Token.{Token}
use Rattle.kpn_model.specs.declared.kinds.Answer.{Answer}
use Rattle.kpn_model.specs.declared.history.Deed.TheVariants.{Put}
use Rattle.kpn_model.specs.declared.history.Entry.TheVariants.{Grew}
use Rattle.kpn_model.specs.declared.history.End.{End}
use Rattle.kpn_model.specs.Network.{Family, Network}
use Rattle.kpn_model.specs.Semantics.{State, Grows}
use Rattle.kpn_model.specs.Endings.{NothingGoesOn}
use Rattle.kpn_state.specs.StateAndHistory.{StateAndHistory, more}
use Rattle.kpn_state.specs.declared.standing.Standing.{Standing}
use Rattle.kpn_state.specs.declared.standing.Standing.TheVariants.{Parked}
use Rattle.kpn_commit.specs.declared.resolution.Resolution.{Resolution}
use Rattle.kpn_commit.specs.declared.resolution.Resolution.TheVariants.{Busy, Ended, Enlarged}
use Rattle.kpn_state.specs.Standings.{standing, is_busy}
use Rattle.kpn_commit.specs.Reactions.{Acted}

-- no process is ready or out
abbrev pub NoneIsBusy : List Standing → Type 0
NoneIsBusy standings = list_any is_busy standings ≡ false

module _ (kinds : Family) (net : Network) where
  module _ (s : StateAndHistory) (standings : List Standing) where
    -- a channel grows, and its writer's put follows
    pub record GrowsAndPuts (t : StateAndHistory) (moved : List Standing) : Type 0 where
      pub channel : ℕ
      pub to : ℕ
      pub grown : State
      pub grows : Grows kinds net s.state channel to grown
      pub writer : ℕ
      pub wanted : Answer
      pub parked : standing standings writer ≡ Parked wanted
      pub token : Token
      pub puts : Acted kinds net (more s grown (Grew channel to)) standings writer (Put channel token) t moved

  -- the run is over in this state, or out of memory for a growth that is due
  abbrev pub NothingFollows : StateAndHistory → End → Type 0
  NothingFollows s end = NothingGoesOn kinds net s.state end

  abbrev pub Resolves : StateAndHistory → List Standing → Resolution → StateAndHistory → List Standing → Type 0
  Resolves s standings Busy t moved = (list_any is_busy standings ≡ true) × (t ≡ s) × (moved ≡ standings)
  Resolves s standings (Ended end) t moved = NoneIsBusy standings × (t ≡ s) × (moved ≡ standings) × NothingFollows s end
  Resolves s standings Enlarged t moved = NoneIsBusy standings × GrowsAndPuts s standings t moved
