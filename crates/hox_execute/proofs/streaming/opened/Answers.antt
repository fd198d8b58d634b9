-- The stream of the text of a file.
use Rattle.std.proofs.lemmas.Result.{IfOk-weaker}
use Rattle.kpn_model.specs.Network.{family_of}
use Rattle.hox_execute.specs.Streaming.{Opens, StartsBetween}
use Rattle.hox_execute.proofs.Stopped.{faulty_unopened, refused_unopened}
use Rattle.hox_execute.proofs.streaming.opened.Goals as goal

pub returns-in-Ok-clause-ok : goal.returns-in-Ok-clause-ok
returns-in-Ok-clause-ok g c =
    let kinds = family_of g.K.Kinds.start g.K.Kinds.answer_of in
    let sketch = c.in-Ok.described.sketch in
    let is_in = c.in-Ok.ensures.ok in
    IfOk-weaker c.open_described.result (StartsBetween kinds g.K.Kinds.named sketch c.args.ends.now) (Opens kinds g.K.Kinds.named g.K.Kinds.signature (g.S.FileSystem.contents c.args.files.now) c.args.name.now c.args.ends.now)
    (λ start started. record { sketch = sketch; is_in = is_in; started = started }) c.open_described.ensures.ok

pub returns-in-Err-clause-fault : goal.returns-in-Err-clause-fault
returns-in-Err-clause-fault g c =
    refused_unopened (family_of g.K.Kinds.start g.K.Kinds.answer_of) g.K.Kinds.named g.K.Kinds.signature (g.S.FileSystem.contents c.args.files.now) c.args.name.now c.args.ends.now c.in-Err.unopened c.in-Err.ensures.fault

pub returns-in-Ok-clause-fault : goal.returns-in-Ok-clause-fault
returns-in-Ok-clause-fault g c =
    faulty_unopened (family_of g.K.Kinds.start g.K.Kinds.answer_of) g.K.Kinds.named g.K.Kinds.signature (g.S.FileSystem.contents c.args.files.now) c.args.name.now c.args.ends.now c.in-Ok.described.sketch c.in-Ok.ensures.ok _ c.open_described.ensures.fault
