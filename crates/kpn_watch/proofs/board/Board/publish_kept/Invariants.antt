use Rattle.kpn_watch.proofs.board.Board.publish_kept.Given as goal

-- the entries that were passed in
abbrev pub ghosts-publish_as : goal.ghosts-publish_as
ghosts-publish_as g a = record { news = record { entries = g.H.Keeper.entries a._from.now; phase = a.progress.phase } }
