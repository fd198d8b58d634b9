-- A file that can't be opened, or one that is read.
use Rattle.hox_execute.proofs.Loaded.{unopened}
use Rattle.hox_execute.proofs.running.run_described.Goals as goal

pub returns-in-Err : goal.returns-in-Err
returns-in-Err g c = unopened (g.S.FileSystem.contents c.args.files.now) g.K.Kinds.named g.K.Kinds.signature c.args.wanted.now.file.now _ c.unopened.result.fault c.unopened.ensures
