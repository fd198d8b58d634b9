-- The names are those of the openings.
use Rattle.test_run.proofs.play.play.Given as goal

abbrev pub ghosts-play_opened-E-EntryLedger : goal.ghosts-play_opened-E-EntryLedger
ghosts-play_opened-E-EntryLedger g a = record { net = a.first.machine.network; board = a.first.board }

abbrev pub ghosts-play_opened-E-Ledger : goal.ghosts-play_opened-E-Ledger
ghosts-play_opened-E-Ledger g a = record { name = a.first.entries.name; parts = a.first.entries.parts }

abbrev pub ghosts-play_opened-O-Ledger : goal.ghosts-play_opened-O-Ledger
ghosts-play_opened-O-Ledger g a = record { name = a.first.overs.name; parts = a.first.overs.parts }

abbrev pub ghosts-play_opened-F-EntryLedger : goal.ghosts-play_opened-F-EntryLedger
ghosts-play_opened-F-EntryLedger g a = record { net = a.second.machine.network; board = a.second.board }

abbrev pub ghosts-play_opened-F-Ledger : goal.ghosts-play_opened-F-Ledger
ghosts-play_opened-F-Ledger g a = record { name = a.second.entries.name; parts = a.second.entries.parts }

abbrev pub ghosts-play_opened-P-Ledger : goal.ghosts-play_opened-P-Ledger
ghosts-play_opened-P-Ledger g a = record { name = a.second.overs.name; parts = a.second.overs.parts }
