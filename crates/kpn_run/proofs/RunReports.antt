-- The report of a run, and what it says of other runs.
use Rattle.std.proofs.Common.{◌≡◌, ◌≢◌, [], get_or, ℕ, true, List, Option, Some, length, refl, sym, ap, ◌∙◌, subst}
use Rattle.std.proofs.Math.Path.{fun_ext}
use Rattle.kpn_model.specs.declared.history.Entry.{Entry}
use Rattle.kpn_model.specs.declared.history.End.{End}
use Rattle.kpn_model.specs.declared.history.End.TheVariants.{Terminated, Deadlock, Ceiling, Budget, Memory}
use Rattle.kpn_model.specs.declared.history.Place.{Place}
use Rattle.kpn_model.specs.Network.{Family, Network, resized, Admits}
use Rattle.kpn_model.specs.Semantics.{State, wants}
use Rattle.kpn_model.specs.Endings.{IsNatural, IsOver, MayEnd, IsFinal}
use Rattle.kpn_model.specs.texts.Reports.{has_report}
use Rattle.kpn_model.specs.History.{Digest, each_process, each_channel, place_of, deeds, stream}
use Rattle.kpn_model.specs.Determinacy.{OneDigest, OneOutcome}
use Rattle.kpn_laws.specs.Alone.{BeginsWith}
use Rattle.kpn_laws.specs.Equations.{listed, IsLeastSolution, DigestIsLeastSolution, DigestIsBelow}
use Rattle.kpn_state.specs.Standings.{standing, parked_answer}
use Rattle.kpn_state.proofs.Placed.{idle_at}
use Rattle.kpn_machine.specs.MachineView.{MachineView, IsFaithful}
use Rattle.kpn_report.specs.declared.detail.Detail.{Detail}
use Rattle.kpn_report.specs.Reported.{IsReport}
use Rattle.kpn_run.specs.Reports.{IsEveryRuns, IsOutcome, TellsLeastSolution}
use Rattle.kpn_run.proofs.Finishes.{justified_end}

not_budget : (cause : End) → has_report cause ≡ true → cause ≢ Budget
not_budget Terminated has e = cc
not_budget Deadlock has e = cc
not_budget Ceiling has e = cc
not_budget Budget has e = cc
not_budget Memory has e = cc

-- if a run came to its own end, each process wants what it answered when it was parked
pub at_rest :
    (kinds : Family) (admits : Admits) (s : MachineView) (cause : End) → IsFaithful kinds admits s → s.end ≡ Some cause → has_report cause ≡ true
    → each_process s.network (λ p. place_of s.network p (parked_answer (standing s.standings p))) ≡ each_process s.network (λ p. place_of s.network p (wants kinds s.network s.state p))
at_rest kinds admits s cause faithful ended has =
    let same : (λ (p : ℕ). place_of s.network p (parked_answer (standing s.standings p))) ≡ (λ (p : ℕ). place_of s.network p (wants kinds s.network s.state p)) = fun_ext (λ p. ap (place_of s.network p) (sym (faithful.wanted p (idle_at s.standings p (faithful.none_busy cause ended (not_budget cause has)))))) in
    ap (each_process s.network) same

-- the report of a run, given where it left each process
pub own_report :
    (kinds : Family) (admits : Admits) (s : MachineView) (cause : End) (places : List Place) (detail : Option Detail) → IsFaithful kinds admits s → s.end ≡ Some cause
    → places ≡ each_process s.network (λ p. place_of s.network p (parked_answer (standing s.standings p)))
    → ((has_report cause ≡ true → places ≡ each_process s.network (λ p. place_of s.network p (wants kinds s.network s.state p))) → IsReport kinds s.network cause s.history s.state detail)
    → IsReport kinds s.network cause s.history s.state detail
own_report kinds admits s cause places detail faithful ended are report = report (λ has. are ∙ at_rest kinds admits s cause faithful ended has)

module _ (kinds : Family) (net : Network) (E : List Entry) (M : State) (cause : End) (detail : Option Detail) (report : IsReport kinds net cause E M detail) (final : has_report cause ≡ true → IsFinal kinds net E M cause) where
  pub every_runs : OneDigest kinds → IsEveryRuns kinds net cause detail
  every_runs one has F N b over = let (d, is, same) = report.some has in (d, is, same ∙ one net E F M N cause b (final has) over)

  natural : (a : End) → IsNatural a → has_report a ≡ true
  natural Terminated n = refl
  natural Deadlock n = refl
  natural Ceiling n = refl
  natural Budget n = absurd n
  natural Memory n = absurd n

  pub outcome : OneOutcome kinds → IsOutcome kinds net cause E detail
  outcome one own sizes F N b over too =
      let (d, is, same) = report.some (natural cause own) in
      let both = one net sizes E F M N cause b (final (natural cause own)) own over too in
      let other = resized net sizes in
      let places : (λ (p : ℕ). place_of net p (wants kinds net M p)) ≡ (λ (p : ℕ). place_of other p (wants kinds other N p)) = fun_ext both.places in
      let steps : (λ (p : ℕ). length (deeds E p)) ≡ (λ (p : ℕ). length (deeds F p)) = fun_ext (λ p. ap length (both.deeds p)) in
      let streams : (λ (c : ℕ). stream net E c) ≡ (λ (c : ℕ). stream other F c) = fun_ext both.streams in (
        d,
        is,
        record {
          deeds_same = both.deeds;
          places = ap (λ (x : Digest). x.places) same ∙ ap (each_process net) places;
          steps = ap (λ (x : Digest). x.steps) same ∙ ap (each_process net) steps;
          streams = ap (λ (x : Digest). x.streams) same ∙ ap (each_channel net) streams;
        },
      )

  pub least_streams : DigestIsBelow kinds → DigestIsLeastSolution kinds → TellsLeastSolution kinds net cause detail
  least_streams below least has =
      let (d, is, same) = report.some has in
      let streams = ap (λ (x : Digest). x.streams) (sym same) in (
        d,
        is,
        record {
          below = λ T obeys c. subst (λ l. BeginsWith (T c) (get_or l c [])) streams (below net E M cause T (final has) obeys c);
          least = λ own. subst (λ l. IsLeastSolution kinds net (listed l)) streams (least net E M cause (final has) own);
        },
      )

-- a run that came to its own end is over
over_of : (kinds : Family) (net : Network) (cause : End) (E : List Entry) (M : State) → has_report cause ≡ true → MayEnd kinds net E M cause → IsOver kinds net M cause
over_of kinds net Terminated E M has justified = justified
over_of kinds net Deadlock E M has justified = justified
over_of kinds net Ceiling E M has justified = justified
over_of kinds net Budget E M has justified = cc
over_of kinds net Memory E M has justified = cc

-- what a machine left that came to its own end is a run that is over
pub is_final : (kinds : Family) (admits : Admits) (s : MachineView) (cause : End) → IsFaithful kinds admits s → s.end ≡ Some cause → has_report cause ≡ true
    → IsFinal kinds s.network s.history s.state cause
is_final kinds admits s cause faithful ended has =
    record { run = faithful.run; over = over_of kinds s.network cause s.history s.state has (justified_end kinds s.network s.history s.state s.end cause ended faithful.justified) }
