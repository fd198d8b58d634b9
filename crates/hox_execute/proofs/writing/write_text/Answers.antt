-- One text is written, or is not.
use Rattle.std.proofs.Common.{[], ◌∷◌, refl, ◌∙◌}
use Rattle.kpn_front.specs.declared.status.ExitStatus.TheVariants.{Success}
use Rattle.hox_files.specs.Files.{standard, wrote}
use Rattle.hox_execute.proofs.Tried.{tries_as, writes}
use Rattle.hox_execute.proofs.writing.write_text.Goals as goal

pub returns : goal.returns
returns g c =
    let text = wrote standard c.args.text.now in
    let before = g.S.FileSystem.effects c.args.files.now in
    let after = g.S.FileSystem.effects c.write.new.self in
    writes Success c.status_if.result (text ∷ []) before after (g.S.FileSystem.is_steady c.args.files.now) c.is_ok.result (tries_as text text c.write.result c.is_ok.result refl c.is_ok.ensures.value refl before after c.write.ensures.done c.write.ensures.failed)
    (λ s. c.is_ok.ensures.value ∙ (c.write.ensures.steady s).0) c.status_if.ensures
