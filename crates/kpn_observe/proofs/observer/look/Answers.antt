use Rattle.kpn_observe.proofs.observer.look.Goals as goal

pub returns-clause-board : goal.returns-clause-board
returns-clause-board g c = c.look.ensures.board

pub returns-clause-shown : goal.returns-clause-shown
returns-clause-shown g c = c.look.ensures.shown
