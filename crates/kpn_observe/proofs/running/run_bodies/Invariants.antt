use Rattle.kpn_observe.proofs.running.run_bodies.Given as goal

abbrev pub ghosts-run_named-E-EntryLedger : goal.ghosts-run_named-E-EntryLedger
ghosts-run_named-E-EntryLedger g a = record { net = a.opening.machine.network; board = a.opening.board }

abbrev pub ghosts-run_named-E-Ledger : goal.ghosts-run_named-E-Ledger
ghosts-run_named-E-Ledger g a = record { name = a.opening.entries.name; parts = a.opening.entries.parts }

abbrev pub ghosts-run_named-O-Ledger : goal.ghosts-run_named-O-Ledger
ghosts-run_named-O-Ledger g a = record { name = a.opening.overs.name; parts = a.opening.overs.parts }
