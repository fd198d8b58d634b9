-- The uses that are checked are those that are asked for.
use Rattle.std.proofs.Common.{map, refl, ap, subst, ◌∙◌}
use Rattle.hox_files.specs.Uses.{AreApart, used}
use Rattle.hox_files.proofs.uses.check_uses.Goals as goal

pub returns-clause-ok : goal.returns-clause-ok
returns-clause-ok g c = subst (AreApart (g.S.FileSystem.clash c.args.files.now)) (ap (map used) c.as_slice.ensures.value ∙ c.in-Ok.ensures) (c.in-None.ensures.apart refl)
