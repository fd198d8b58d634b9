-- Runs of valid networks of lawful kinds are well-typed.
use Rattle.kpn_laws.proofs.WellTyped.{always_sorted}
use Rattle.kpn_laws.proofs.run.typed_runs.Goals as goal

pub returns : goal.returns
returns g c = always_sorted _ _ _ c.lawful.ensures
