-- What was chosen is what the arguments ask for.
use Rattle.std.proofs.Common.{map}
use Rattle.kpn_model.specs.Network.{family_of}
use Rattle.hox_execute.proofs.Chosen.{all_stopped, served}
use Rattle.hox_execute.proofs.serving.serve.Goals as goal

pub returns-in-Ok-clause-done : goal.returns-in-Ok-clause-done
returns-in-Ok-clause-done g c =
    served (map (λ w. w.now) c.args.arguments.now) c.in-Ok.choice c.in-Ok.ensures.ok g.K.Kinds.named g.K.Kinds.signature (g.S.FileSystem.contents c.args.files.now) (g.S.FileSystem.clash c.args.files.now) (family_of g.K.Kinds.start g.K.Kinds.answer_of) _ _ _ g.K.Titled.title _
    c.serve_choice.ensures.done

pub returns-in-Ok-clause-stop : goal.returns-in-Ok-clause-stop
returns-in-Ok-clause-stop g c =
    all_stopped (map (λ w. w.now) c.args.arguments.now) c.in-Ok.choice c.in-Ok.ensures.ok g.K.Kinds.named g.K.Kinds.signature (g.S.FileSystem.contents c.args.files.now) (g.S.FileSystem.clash c.args.files.now) _ c.serve_choice.ensures.stop
