-- The sources and sinks are the files that were opened.
use Rattle.std.proofs.Common.{◌≡◌, ap, map, refl, subst, ◌∙◌}
use Rattle.std.specs.List.{AllZip, filter}
use Rattle.kpn_model.specs.Network.{family_of}
use Rattle.hox_format.specs.Resuming.{left_of, resumed_has_failed}
use Rattle.hox_files.specs.Pairs.{groups, is_alone}
use Rattle.hox_execute.specs.Reports.{first_rate}
use Rattle.hox_execute.specs.Streaming.{IsCreated, IsOpened, IsTabled, opening_of, rate_in}
use Rattle.hox_execute.proofs.Sources.{all_created, all_opened, all_tabled, same_outs, same_rate, same_sources, seen_in, seen_table}
use Rattle.hox_execute.proofs.streaming.run_between.Goals as goal

pub returns-in-Ok-serve-clause-done : goal.returns-in-Ok-serve-clause-done
returns-in-Ok-serve-clause-done g c =
    let kinds = family_of g.F.Kinds.start g.F.Kinds.answer_of in
    let contents = g.S.FileSystem.contents c.args.files.now in
    let seen = g.S.Output.Sink.seen in
    let left = left_of g.S.Input.Source.remaining in
    let failed = resumed_has_failed g.S.Input.Source.has_failed in
    let start = c.args.start in
    let ends = c.args.ends in
    let sources = c.in_ok-sources.sources.items in
    let sinks = c.in_ok-sinks.sinks.items in
    let tables = c.in_ok-tables.tables.items in
    let opened = subst (λ l. AllZip (IsOpened left failed contents) l sources) c.as_slice.ensures.value c.in_ok-sources.ensures.ok in
    let ins = same_sources left failed contents start.network start.inputs ends.inputs.items sources opened in
    let written_to = same_outs seen start.outputs sinks tables in
    let rate : c.rate_of-rate.result ≡ rate_in (map (opening_of left) sources) = c.rate_of-rate.ensures ∙ ap (λ l. first_rate (map (λ b. b.rate) l)) c.as_slice-2.ensures.value ∙ same_rate left failed contents sources in
    let alone = filter is_alone ends.outputs.items in
    let beside = groups ends.outputs.items in
    let written = subst (λ l. AllZip (IsCreated seen c.rate_of-rate.result) (filter is_alone l) sinks) c.as_slice-3.ensures.value c.in_ok-sinks.ensures.ok in
    let created = subst (λ r. AllZip (IsCreated seen r) alone sinks) rate written in
    let rows = subst (λ l. AllZip (IsTabled seen c.rate_of-rate.result) (groups l) tables) c.as_slice-4.ensures.value c.in_ok-tables.ensures.ok in
    let tabled = subst (λ r. AllZip (IsTabled seen r) beside tables) rate rows in
    let serves = rw c.in-Ok.ensures at c.in-Ok-serve.ensures in (
      refl,
      record {
        openings = map (opening_of left) sources;
        opened = all_opened left failed contents ends.inputs.items sources opened;
        sinks = map (seen_in seen) sinks;
        created = all_created seen (rate_in (map (opening_of left) sources)) alone sinks created;
        tables = map (seen_table seen) tables;
        tabled = all_tabled seen (rate_in (map (opening_of left) sources)) beside tables tabled;
        serves = rw (ins, written_to) at serves;
      },
    )
