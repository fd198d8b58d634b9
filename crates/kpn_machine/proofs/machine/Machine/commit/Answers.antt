-- What an answer does that was asked for.
use Rattle.std.proofs.Common.{refl}
use Rattle.kpn_machine.proofs.machine.Machine.commit.Goals as goal

pub commit_asked-requires-after_bounds : goal.commit_asked-requires-after_bounds
commit_asked-requires-after_bounds g c κs within = c.has_asked.ensures.0 c.if-not-has_asked.false

pub returns-then-not-has_asked-clause-stranger : goal.returns-then-not-has_asked-clause-stranger
returns-then-not-has_asked-clause-stranger g c = (refl, refl)

pub returns-clause-commits : goal.returns-clause-commits
returns-clause-commits g c = c.commit_asked.ensures.commits

pub returns-clause-appends : goal.returns-clause-appends
returns-clause-appends g c = c.commit_asked.ensures.appends

pub returns-clause-tells : goal.returns-clause-tells
returns-clause-tells g c = c.commit_asked.ensures.tells

pub returns-clause-ends : goal.returns-clause-ends
returns-clause-ends g c = c.commit_asked.ensures.ends

pub returns-clause-back : goal.returns-clause-back
returns-clause-back g c = c.commit_asked.ensures.back

pub returns-clause-others : goal.returns-clause-others
returns-clause-others g c = c.commit_asked.ensures.others
