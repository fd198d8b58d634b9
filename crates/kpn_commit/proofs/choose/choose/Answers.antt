-- The first of the candidates is a channel.
use Rattle.std.proofs.Common.{◌∙◌, sym, rules}
use Rattle.kpn_commit.proofs.Candidates.{head_contained}
use Rattle.kpn_commit.proofs.choose.choose.Goals as goal

pub ends-requires-after_bounds : goal.ends-requires-after_bounds
ends-requires-after_bounds g c κs within = c.requires (c.in_ok-channel.field-0-0, c.in_ok-channel.channel) (head_contained _ _ (sym c.first.ensures.first ∙ c.in_ok-channel.was))

pub returns-clause-channel : goal.returns-clause-channel
returns-clause-channel g c = c.requires (c.in_ok-channel.field-0-0, c.in_ok-channel.channel) (head_contained _ _ (sym c.first.ensures.first ∙ c.in_ok-channel.was))

pub returns-clause-first : goal.returns-clause-first
returns-clause-first g c = search rules
