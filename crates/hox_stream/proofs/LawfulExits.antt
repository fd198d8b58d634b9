-- The laws of the readers that stop at once.
use Rattle.std.proofs.Common.{refl}
use Rattle.kpn_model.specs.Lawful.{AreLawful}
use Rattle.hox_stream.specs.Exits.{ExitAdmits, exit_ports, exits}

pub exits_lawful : AreLawful exit_ports ExitAdmits exits
exits_lawful = record {
  names_port = λ card local last fits signed admitted. tt;
  leads_on = λ card local last token fits signed admitted. tt;
  starts = λ card fits signed. (refl, refl);
}
