-- What is built is the network of the sketch, which is valid if the sketch has no fault.
use Rattle.std.proofs.Common.{◌≡◌, None, rules, subst}
use Rattle.std.specs.List.{All}
use Rattle.kpn_net.specs.Faults.{first_fault}
use Rattle.kpn_model.specs.Lawful.{CardFits, Fits}
use Rattle.kpn_model.specs.Network.{Network}
use Rattle.kpn_net.specs.Sketched.{net_of}
use Rattle.kpn_net.proofs.ValidNet.{valid}
use Rattle.kpn_net.proofs.check.Check.check.Goals as goal

abbrev HasCards : Network → Type 0
HasCards net = All (λ p. CardFits p.card) net.processes

abbrev HasTokens : Network → Type 0
HasTokens net = All (λ c. All Fits c.tokens) net.channels

pub of_parts-requires-after_bounds : goal.of_parts-requires-after_bounds
of_parts-requires-after_bounds g c =
    let named = g.Self.Kinds.Kinds.named in
    let signature = g.Self.Kinds.Kinds.signature in
    let fine : first_fault named signature c.args.sketch.now ≡ None = search rules in
    let made : Network = record { processes = c.in-Ok.processes.items; channels = c.in-Ok-channels_of.channels.items; budget = c.unsigned_abs.result; step = c.unsigned_abs-2.result; ceiling = c.ceiling_in.result } in
    let is_net : made ≡ net_of named c.args.sketch.now = search rules in
    let fits : HasCards made = search rules in
    let tokens : HasTokens made = search rules in
    λ _ _. rw is_net (valid named signature c.args.sketch.now fine (subst HasCards is_net fits) (subst HasTokens is_net tokens))
