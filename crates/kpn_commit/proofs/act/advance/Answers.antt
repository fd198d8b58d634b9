-- By the laws of the family for this answer the state stays one of the network.
use Rattle.std.proofs.Common.{◌≡◌}
use Rattle.kpn_model.specs.declared.history.Entry.TheVariants.{Did}
use Rattle.kpn_model.specs.Families.{family}
use Rattle.kpn_model.specs.Lawful.{NamesPort, LeadsOn, read_by}
use Rattle.kpn_model.specs.Network.{card_of, family_of}
use Rattle.kpn_model.specs.Semantics.{status, IsDeed, after_deed}
use Rattle.kpn_laws.proofs.WellTypedDeeds.{live_of}
use Rattle.kpn_state.specs.StateAndHistory.{more}
use Rattle.kpn_commit.proofs.Keeping.{keeps_deed}
use Rattle.kpn_commit.proofs.act.advance.Goals as goal
use Rattle.kpn_commit.proofs.act.advance.Goals.{in-Stop, in-Read+in_ok-deed-in-Read}

pub returns-clause-is_deed : goal.returns-clause-is_deed
returns-clause-is_deed g c = elim c.match-answer.branch [
  | in-Stop w ↦ rw (w.deed-is, w.in-Stop.is) tt
  | in-Read+in_ok-deed-in-Read w ↦ rw w.deed-is w.in_ok-deed-in-Read.ensures.does.is_deed
]

pub returns-clause-entry : goal.returns-clause-entry
returns-clause-entry g c = elim c.match-answer.branch [
  | in-Stop w ↦ rw (w.store-is, w.deed-is) w.stop.ensures
  | in-Read+in_ok-deed-in-Read w ↦ rw (w.store-is, w.deed-is) w.in_ok-deed-in-Read.ensures.does.entry
]

pub returns-clause-keeps : goal.returns-clause-keeps
returns-clause-keeps g c =
    let net = c.args.net.now in
    let p = c.args.process in
    let deed = c.match-answer.deed in
    let s = c.args.store.now in
    let is_deed : IsDeed (family g.K.Kinds) net s.state p c.args.answer.act deed =
    elim c.match-answer.branch [
      | in-Stop w ↦ rw (w.deed-is, w.in-Stop.is) tt
      | in-Read+in_ok-deed-in-Read w ↦ rw w.deed-is w.in_ok-deed-in-Read.ensures.does.is_deed
    ] in
    let entry : c.match-answer.store ≡ more s (after_deed (family g.K.Kinds) net s.state p c.args.answer.next deed) (Did p deed) =
    elim c.match-answer.branch [
      | in-Stop w ↦ rw (w.store-is, w.deed-is) w.stop.ensures
      | in-Read+in_ok-deed-in-Read w ↦ rw (w.store-is, w.deed-is) w.in_ok-deed-in-Read.ensures.does.entry
    ] in
    let was = live_of (family_of g.K.Kinds.start g.K.Kinds.answer_of) net p (status c.args.store.now.state p) c.args.answer c.requires.wants in
    let typed = c.requires.keeps.well_typed.locals p was.0 was.1.0 was.1.1 in
    let names : NamesPort g.K.Kinds.signature (card_of net p) c.args.answer.act = rw (c.card.ensures.is, was.1.2) at (c.laws_of.ensures.names was.0 was.1.0 (rw (← c.card.ensures.is) at typed)) in
    let leads : LeadsOn g.K.Kinds.signature g.K.Kinds.admits (card_of net p) c.args.answer (read_by deed) = rw (c.card.ensures.is, was.1.2) at (c.laws_of.ensures.leads was.0 was.1.0 (read_by deed) (rw (← c.card.ensures.is) at typed)) in
    rw (c.update.ensures, c.standing_after.ensures, entry)
    (keeps_deed c.requires.keeps c.assure_valid.ensures.valid c.args.answer deed c.requires.process c.requires.wants is_deed names leads)
