-- The laws of a family, as the calls ensure them.
use Rattle.kpn_model.specs.Network.{Family}
use Rattle.kpn_model.specs.Determinacy.{OneDigest, NoneLonger, OneOutcome, AllPrefixComparable}
use Rattle.kpn_model.specs.Moments.{OneState, PrefixesAreRuns, AlwaysWithin, HistoryTellsState, BudgetSuffices, EnabledCanDo, OneCause}
use Rattle.kpn_laws.specs.Sufficient.{OwnEndSuffices, KeepsCapacities}
use Rattle.kpn_laws.specs.LeastRoom.{Dominates, ChosenHasFewer, GrowsBelow, StaysBelow, LeastPossible, FewGrowths, CeilingSuffices}
use Rattle.kpn_laws.specs.RoomOfRun.{EachTakesLeastRoom}
use Rattle.kpn_laws.specs.Completion.{CanAlwaysGoOn, FewEntries, Completes, HasEnd, NeverEnds}
use Rattle.kpn_laws.specs.Alone.{IsFunction, IsContinuous}
use Rattle.kpn_laws.specs.Equations.{StreamsAreBelow, EndIsLeastSolution, DigestIsLeastSolution, DigestIsBelow, EndIsLeastFromAny, AllIsReached, LimitIsLeastSolution, OneLeastSolution, TwoHaveCommonRun}
use Rattle.kpn_laws.specs.StreamsOfRun.{EachApproachesLeastSolution}

-- the outcome does not depend on the schedule
pub record LawsOfDeterminacy (kinds : Family) : Type 0 where
  pub one_digest : OneDigest kinds
  pub none_longer : NoneLonger kinds
  pub one_outcome : OneOutcome kinds
  pub all_comparable : AllPrefixComparable kinds

-- what holds at each moment of a run
pub record LawsOfMoments (kinds : Family) : Type 0 where
  pub one_state : OneState kinds
  pub prefixes : PrefixesAreRuns kinds
  pub within : AlwaysWithin kinds
  pub told : HistoryTellsState kinds
  pub budget : BudgetSuffices kinds
  pub enabled : EnabledCanDo kinds
  pub one_cause : OneCause kinds

-- no run takes more room than the network needs
pub record LawsOfRoom (kinds : Family) : Type 0 where
  pub chosen_has_fewer : ChosenHasFewer kinds
  pub grows_below : GrowsBelow kinds
  pub stays_below : StaysBelow kinds
  pub least_possible : LeastPossible kinds
  pub few_growths : FewGrowths kinds
  pub ceiling_suffices : CeilingSuffices kinds
  pub dominates : Dominates kinds
  pub own_end : OwnEndSuffices kinds
  pub keeps_capacities : KeepsCapacities kinds
  pub each_run : EachTakesLeastRoom kinds

-- what can end, or run forever, in bounded room does so
pub record LawsOfCompletion (kinds : Family) : Type 0 where
  pub goes_on : CanAlwaysGoOn kinds
  pub few_entries : FewEntries kinds
  pub completes : Completes kinds
  pub has_end : HasEnd kinds
  pub never_ends : NeverEnds kinds

-- the streams are the least solution of the equations
pub record LawsOfSolution (kinds : Family) : Type 0 where
  pub function : IsFunction kinds
  pub continuous : IsContinuous kinds
  pub below : StreamsAreBelow kinds
  pub end_is_least : EndIsLeastSolution kinds
  pub digest_is_least : DigestIsLeastSolution kinds
  pub below_digest : DigestIsBelow kinds
  pub end_is_least_from_any : EndIsLeastFromAny kinds
  pub one_least : OneLeastSolution kinds
  pub all_reached : AllIsReached kinds
  pub limit_is_least : LimitIsLeastSolution kinds
  pub common_run : TwoHaveCommonRun kinds
  pub each_run : EachApproachesLeastSolution kinds
