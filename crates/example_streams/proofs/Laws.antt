-- By which laws the networks are solved: those that calls of `standard_functions`, `solving` and `least_solution` ensure.
use Rattle.kpn_standard.specs.Standard.{standard}
use Rattle.kpn_laws.specs.Equations.{EndIsLeastFromAny}
use Rattle.kpn_streams.specs.Kinds.{CountWrites, TakeWrites, CopyWrites, PrefixWrites, AddWrites, ScaleWrites, MergeWrites, DividesWrites, SwitchWrites, MergeIsUnion}
use Rattle.kpn_streams.specs.Solving.{TestTellsOrder, EquationByTest, StepIsBelow, FixedIsComputed, SolvedIsComputed, OrderedIsComputed, RunIsApproximated, SolutionSolves, LimitIsLeast}

pub record Laws : Type 0 where
  pub count : CountWrites
  pub take : TakeWrites
  pub copy : CopyWrites
  pub prefix : PrefixWrites
  pub add : AddWrites
  pub scale : ScaleWrites
  pub merge : MergeWrites
  pub divides : DividesWrites
  pub switch : SwitchWrites
  pub union : MergeIsUnion
  pub order : TestTellsOrder
  pub equation : EquationByTest standard
  pub step : StepIsBelow standard
  pub fixed : FixedIsComputed standard
  pub computed : SolvedIsComputed standard
  pub ordered : OrderedIsComputed standard
  pub approximated : RunIsApproximated standard
  pub solves : SolutionSolves standard
  pub limit : LimitIsLeast standard
  pub from_any : EndIsLeastFromAny standard
