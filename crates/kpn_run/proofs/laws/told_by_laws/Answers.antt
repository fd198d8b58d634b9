-- Each prefix of the history is a run of a valid network.
use Rattle.std.proofs.Common.{◌∙◌, ap, sym, subst}
use Rattle.kpn_machine.specs.MachineView.{MachineView}
use Rattle.kpn_model.specs.Network.{Network}
use Rattle.kpn_model.specs.Families.{family}
use Rattle.kpn_model.specs.Semantics.{start, IsRun}
use Rattle.kpn_model.specs.Valid.{IsValid}
use Rattle.kpn_run.proofs.Finishes.{justified_end}
use Rattle.kpn_run.proofs.laws.told_by_laws.Goals as goal

pub returns : goal.returns
returns g c =
    let kinds = family g.K.Kinds in
    let machine = c.args.run.now.machine in
    let net = machine.network in
    let closed = c.end.ensures.closed in
    let run = closed.faithful.run in
    let moments = c.moments_of.ensures in
    let valid = subst (λ (n : Network). IsValid g.K.Kinds.signature n) (c.net.ensures ∙ ap (λ (m : MachineView). m.network) c.deref.ensures) c.assure_valid.ensures.valid in
    record {
      closed = closed;
      budget = λ cause ended F N b over short.
          let justified = justified_end kinds net machine.history machine.state machine.end cause ended closed.faithful.justified in
          moments.budget net machine.history F machine.state N cause b run justified over short;
      laws = record {
        within = λ E F is.
            let whole = subst (λ l. IsRun kinds net l machine.state) (sym is) run in
            let front = moments.prefixes net (start kinds net) machine.state E F whole in
            (front.0, front.1, c.valid_runs.ensures.within g.K.Kinds.signature kinds net valid E front.0 front.1);
        comparable = λ sizes F N other. c.determinacy_of.ensures.all_comparable net sizes machine.history F machine.state N run other;
        room = c.least_room_of.ensures.each_run net machine.history machine.state run;
        streams = c.least_solution_of.ensures.each_run net machine.history machine.state run;
      };
    }
