-- A network that is prepared of a valid one is valid.
use Rattle.std.proofs.Common.{arith}
use Rattle.std.proofs.lemmas.Grind.{common_steps}
use Rattle.kpn_network.specs.Parts.{network_of}
use Rattle.hox_network.proofs.Prepared.{prepared_valid}
use Rattle.hox_network.proofs.preparing.prepare_net.Goals as goal

pub of_parts-requires-after_bounds : goal.of_parts-requires-after_bounds
of_parts-requires-after_bounds g c =
    λ κs lives. prepared_valid g.K.Kinds.signature c.args.request.now c.args.net.now (network_of c.prepare_parts.new.parts) c.assure_valid.ensures.valid c.in_ok-prepare_parts.ensures.ok

pub returns : goal.returns
returns g c = grind (arith, common_steps)
