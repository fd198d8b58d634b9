use Rattle.kpn_verdict.proofs.text.+push_circle.Given as goal

abbrev pub decreases-push_circle : goal.decreases-push_circle
decreases-push_circle g l = l.most
