-- Runs come to their ends.
use Rattle.kpn_laws.proofs.GoingOn.{goes_on}
use Rattle.kpn_laws.proofs.Completing.{few_entries, completes, has_end, never_ends}
use Rattle.kpn_laws.proofs.ending.completion.Goals as goal

pub returns : goal.returns
returns c = λ kinds. record {
  goes_on = goes_on kinds;
  completes = completes kinds;
  has_end = has_end kinds;
  never_ends = never_ends kinds;
  few_entries = few_entries kinds;
}
