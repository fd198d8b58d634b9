-- The verdict is that on the places, and a flow that ran dry gives no more.
use Rattle.std.proofs.Common.{◌∙◌}
use Rattle.kpn_model.specs.Network.{family_of}
use Rattle.kpn_flow_verdict.proofs.Outputs.{text_of, whole_if_dry}
use Rattle.kpn_flow_verdict.proofs.judging.judge.Goals as goal

pub returns-clause-verdict : goal.returns-clause-verdict
returns-clause-verdict g c =
    let placed = rw (c.net-net.ensures, c.standings.ensures) at c.in_ok-places.ensures in
    c.verdict_on-verdict.ensures (c.as_slice.ensures.value ∙ placed)

pub returns-clause-text : goal.returns-clause-text
returns-clause-text g c =
    let placed = rw (c.net-net.ensures, c.standings.ensures) at c.in_ok-places.ensures in
    text_of c.args.flow.now _ _ c.verdict_on-verdict.result c.args.end _ _ c.net-net.ensures (c.as_slice-2.ensures.value ∙ placed) c.in_ok-text.ensures c.in_ok-push_active.ensures

pub returns-clause-whole : goal.returns-clause-whole
returns-clause-whole g c =
    let kinds = family_of g.B.Kinds.Kinds.start g.B.Kinds.Kinds.answer_of in
    whole_if_dry c.args.flow.now kinds (c.flow_dryness.ensures.complete kinds)
    (record { wanted = c.assure_standings.ensures.wanted; busy = c.assure_standings.ensures.busy })
    c.assure_one_run.ensures.ends c.args.end _ (returns-clause-verdict g c)
