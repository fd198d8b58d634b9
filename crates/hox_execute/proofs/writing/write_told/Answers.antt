-- The report and the streams are written, as far as they can be.
use Rattle.std.proofs.Common.{◌∷◌, string_bytes, sym, subst}
use Rattle.hox_execute.specs.Reports.{Tries, Writes, reported, streams_written, told_written}
use Rattle.hox_execute.proofs.Tried.{writes}
use Rattle.hox_execute.proofs.writing.write_told.Goals as goal

pub returns-then-is_quiet : goal.returns-then-is_quiet
returns-then-is_quiet g c =
    let outputs = c.args.streams.now.outputs.now in
    let texts = c.args.streams.now.texts.now in
    let report = string_bytes c.args.report.now in
    let steady = g.S.FileSystem.is_steady c.args.files.now in
    let before = g.S.FileSystem.effects c.args.files.now in
    let after = g.S.FileSystem.effects c.write_streams.new.files in
    let written = writes c.args.status c.status_if.result (streams_written outputs texts) before after steady c.write_streams.result c.write_streams.ensures.tries (λ s. (c.write_streams.ensures.steady s).0) c.status_if.ensures in
    subst (λ q. Writes c.args.status (told_written q outputs report texts) steady before after c.status_if.result) (sym c.if-is_quiet.true) written

pub returns : goal.returns
returns g c =
    let outputs = c.args.streams.now.outputs.now in
    let texts = c.args.streams.now.texts.now in
    let report = string_bytes c.args.report.now in
    let steady = g.S.FileSystem.is_steady c.args.files.now in
    let before = g.S.FileSystem.effects c.args.files.now in
    let after = g.S.FileSystem.effects c.write_all-are_written.new.files in
    let all = c.write_all-are_written in
    let tries = subst (λ t. Tries (reported outputs t ∷ streams_written outputs texts) all.result before after) c.as_str.ensures.value all.ensures.tries in
    let written = writes c.args.status c.status_if-2.result (reported outputs report ∷ streams_written outputs texts) before after steady all.result tries (λ s. (all.ensures.steady s).0) c.status_if-2.ensures in
    subst (λ q. Writes c.args.status (told_written q outputs report texts) steady before after c.status_if-2.result) (sym c.if-is_quiet.false) written
