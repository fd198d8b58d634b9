-- Found without an answer too; with it a wrong body is refused at once.
use Rattle.std.proofs.Common.{rules}
use Rattle.kpn_builder.proofs.value.SortToValue.to_value.Goals as goal

pub returns-in-Words : goal.returns-in-Words
returns-in-Words c = search rules
