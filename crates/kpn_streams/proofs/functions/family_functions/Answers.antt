-- What holds of what processes write in every family of kinds.
use Rattle.kpn_streams.proofs.Families.{each_is_a_function, write_as_their_own}
use Rattle.kpn_streams.proofs.functions.family_functions.Goals as goal

pub returns-clause-functions : goal.returns-clause-functions
returns-clause-functions c = each_is_a_function

pub returns-clause-joined : goal.returns-clause-joined
returns-clause-joined c = write_as_their_own
