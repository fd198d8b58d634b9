-- A channel and its capacity are removed, and one mark.
use Rattle.kpn_commit.proofs.parking.unlist.Goals as goal

pub returns-clause-candidates : goal.returns-clause-candidates
returns-clause-candidates c = c.remove.ensures

pub returns-clause-marks : goal.returns-clause-marks
returns-clause-marks c = c.note_writer.ensures
