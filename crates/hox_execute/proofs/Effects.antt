-- Effects, one after another.
use Rattle.std.proofs.Common.{◌≡◌, List, [], ◌++◌, Option, Some, None, sym, ap, subst, ◌∙◌, append_assoc}
use Rattle.std.proofs.lemmas.List.{append-nil}
use Rattle.hox_files.specs.Files.{Effect, GoOn}

pub nothing : (o : Option (List Effect)) → GoOn [] o o
nothing None = tt
nothing (Some es) = ap (λ l. Some l) (sym (append-nil es))

pub one_after : (xs ys : List Effect) (a b c : Option (List Effect)) → GoOn xs a b → GoOn ys b c → GoOn (xs ++ ys) a c
one_after xs ys None b c h i = tt
one_after xs ys (Some es) b c h i =
    let there : c ≡ Some (es ++ xs ++ ys) = subst (λ o. GoOn ys o c) h i in
    there ∙ ap (λ l. Some l) (append_assoc es xs ys)
