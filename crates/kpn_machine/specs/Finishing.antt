-- What a machine that runs to an end in one thread has done.
use Rattle.std.specs.Prelude.{IsSome}
use Rattle.kpn_model.specs.Network.{Family, Admits}
use Rattle.kpn_laws.specs.RoomOfRun.{TakesLeastRoom}
use Rattle.kpn_laws.specs.StreamsOfRun.{ApproachLeastSolution}
use Rattle.kpn_machine.specs.MachineView.{MachineView, IsFaithful}
use Rattle.kpn_machine.specs.Commits.{ContinuesRun}

-- the run goes on to an end, by least room, and its streams approach the least solution
pub record FinishesAlone (kinds : Family) (admits : Admits) (s t : MachineView) : Type 0 where
  pub goes : ContinuesRun kinds s t
  pub end : IsSome t.end
  pub faithful : IsFaithful kinds admits t
  pub room : TakesLeastRoom kinds t.network t.history t.state
  pub streams : ApproachLeastSolution kinds t.network t.history t.state
