use Rattle.std.proofs.Common.{None}
use Rattle.kpn_tokens.specs.Rows.{is_line_feed}
use Rattle.kpn_tokens.proofs.Places.{place_is}
use Rattle.kpn_tokens.proofs.cutting.line_in.Goals as goal

pub returns-in-None : goal.returns-in-None
returns-in-None c = place_is is_line_feed c.args.bytes.now None c.in-None.ensures
