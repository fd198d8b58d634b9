use Rattle.std.proofs.Common.{None, sym}
use Rattle.kpn_tokens.specs.Rows.{is_line_feed}
use Rattle.kpn_tokens.proofs.Places.{place_is}
use Rattle.hox_format.proofs.records.line_length.Goals as goal

pub returns-in-None-clause-is : goal.returns-in-None-clause-is
returns-in-None-clause-is c = sym (place_is is_line_feed c.args.bytes.now None c.in-None.ensures)
