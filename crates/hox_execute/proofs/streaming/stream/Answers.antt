-- Why a stream between files is not run.
use Rattle.std.proofs.Common.{rules, ◌≡◌, Err}
use Rattle.std.proofs.lemmas.Result.{IfOk-weaker}
use Rattle.kpn_model.specs.Network.{family_of}
use Rattle.hox_stream.specs.Views.{outs}
use Rattle.hox_execute.specs.Streaming.{StreamsBetween}
use Rattle.hox_execute.proofs.Stopped.{no_ends, unfit_stops}
use Rattle.hox_execute.proofs.streaming.stream.Goals as goal

pub returns-in_err-ends-clause-stop : goal.returns-in_err-ends-clause-stop
returns-in_err-ends-clause-stop g c =
    let same : c.from_residual.result ≡ Err c.in_err-ends.field-0.0 = search rules in
    rw same (no_ends (family_of g.K.Kinds.start g.K.Kinds.answer_of) g.K.Kinds.named g.K.Kinds.signature (g.S.FileSystem.contents c.args.files.now) (g.S.FileSystem.clash c.args.files.now) c.args.choice.now c.in_err-ends.field-0.0 c.in_err-ends.ensures.fault)

pub returns-in-Ok-clause-done : goal.returns-in-Ok-clause-done
returns-in-Ok-clause-done g c =
    let kinds = family_of g.K.Kinds.start g.K.Kinds.answer_of in
    let contents = g.S.FileSystem.contents c.args.files.now in
    let clash = g.S.FileSystem.clash c.args.files.now in
    let opens = rw c.name_of-file.ensures at c.in-Ok.ensures.ok in
    IfOk-weaker c.run_between.result _ (λ s. StreamsBetween kinds g.K.Kinds.named g.K.Kinds.signature contents clash c.args.choice.now s.ends s.served.flow s.served.inlets.items (outs s.served.outlets.items s.served.tables.items) s.served.finish)
    (λ s h. rw h.0 (record { chosen = c.in_ok-ends.ensures.ok; start = c.in-Ok.start; opens = opens; runs = h.1 })) c.run_between.ensures.done

pub returns-in-Ok-clause-stop : goal.returns-in-Ok-clause-stop
returns-in-Ok-clause-stop g c =
    unfit_stops (family_of g.K.Kinds.start g.K.Kinds.answer_of) g.K.Kinds.named g.K.Kinds.signature (g.S.FileSystem.contents c.args.files.now) (g.S.FileSystem.clash c.args.files.now) c.args.choice.now c.in_ok-ends.ends c.in_ok-ends.ensures.ok _ c.run_between.ensures.stop

pub returns-in-Err-Refused-clause-stop : goal.returns-in-Err-Refused-clause-stop
returns-in-Err-Refused-clause-stop g c = rw c.in-Err-Refused.field-0-is (c.name_of-file.ensures, rw (c.name_of-file.ensures, c.in-Err-Refused.field-0-is) at c.in-Err-Refused.ensures.fault)

pub returns-in-Err-Faulty-clause-stop : goal.returns-in-Err-Faulty-clause-stop
returns-in-Err-Faulty-clause-stop g c = rw c.in-Err-Faulty.field-0-is (c.in_ok-ends.ensures.ok, rw (c.name_of-file.ensures, c.in-Err-Faulty.field-0-is) at c.in-Err-Faulty.ensures.fault)
