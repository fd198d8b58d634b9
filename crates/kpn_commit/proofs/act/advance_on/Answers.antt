-- By the laws of the family for this answer the state stays one of the network.
use Rattle.std.proofs.Common.{rules}
use Rattle.kpn_model.specs.Lawful.{NamesPort, LeadsOn, read_by}
use Rattle.kpn_model.specs.Network.{card_of, family_of}
use Rattle.kpn_model.specs.Semantics.{status}
use Rattle.kpn_laws.proofs.WellTypedDeeds.{live_of}
use Rattle.kpn_commit.proofs.Keeping.{keeps_deed}
use Rattle.kpn_commit.proofs.act.advance_on.Goals as goal

pub returns-clause-acts : goal.returns-clause-acts
returns-clause-acts g c =
    let net = c.args.net.now in
    let p = c.args.process in
    let deed = c.in_ok-deed.deed in
    let did = c.in_ok-deed.ensures.does in
    let was = live_of (family_of g.K.Kinds.start g.K.Kinds.answer_of) net p (status c.args.store.now.state p) c.args.answer c.requires.wants in
    let typed = c.requires.keeps.well_typed.locals p was.0 was.1.0 was.1.1 in
    let names : NamesPort g.K.Kinds.signature (card_of net p) c.args.answer.act = rw (c.card.ensures.is, was.1.2) at (c.laws_of.ensures.names was.0 was.1.0 (rw (← c.card.ensures.is) at typed)) in
    let leads : LeadsOn g.K.Kinds.signature g.K.Kinds.admits (card_of net p) c.args.answer (read_by deed) = rw (c.card.ensures.is, was.1.2) at (c.laws_of.ensures.leads was.0 was.1.0 (read_by deed) (rw (← c.card.ensures.is) at typed)) in
    record {
      is_deed = did.is_deed;
      entry = did.entry;
      ready = did.ready;
      channel = search rules;
      keeps =
          rw did.entry
          (keeps_deed c.requires.keeps c.assure_valid.ensures.valid c.args.answer deed c.requires.process c.requires.wants did.is_deed names leads);
    }
