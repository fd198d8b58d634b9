-- Found without an answer too; with it a wrong body is refused at once.
use Rattle.std.proofs.Common.{rules}
use Rattle.kpn_report.proofs.streams.stream_of_entries.Goals as goal

pub tokens-requires-after_bounds : goal.tokens-requires-after_bounds
tokens-requires-after_bounds g c = search rules

pub returns : goal.returns
returns g c = record { tokens = search rules; none = search rules }
