-- The stream is that of the network, and so is its fault; or there is no network.
use Rattle.std.proofs.Common.{IfErr, rules, subst}
use Rattle.kpn_model.specs.Network.{Network}
use Rattle.hox_stream.specs.Starts.{HasNoNetWithExits, IsStreamFault, family_with_exits, net_with_exits}
use Rattle.hox_stream.proofs.Started.{not_opened}
use Rattle.hox_stream.proofs.starting.open_stream.Goals as goal

pub returns-in-Ok-clause-ok : goal.returns-in-Ok-clause-ok
returns-in-Ok-clause-ok g c = search rules

pub returns-in-Ok-clause-fault : goal.returns-in-Ok-clause-fault
returns-in-Ok-clause-fault g c =
    let family = family_with_exits g.K.Kinds in
    let fed = c.args.fed.now in
    let drained = c.args.drained.now in
    let no_network = HasNoNetWithExits g.K.Kinds c.args.sketch drained in
    let opened = subst (λ (net : Network). IfErr c.open_net.result (IsStreamFault family net (λ _. ⊥) fed drained)) c.in-Ok.ensures.ok c.open_net.ensures.fault in
    not_opened family (net_with_exits g.K.Kinds c.args.sketch drained) fed drained no_network c.open_net.result opened

pub returns-in-Err-clause-fault : goal.returns-in-Err-clause-fault
returns-in-Err-clause-fault g c = search rules
