-- The texts are those that the entries have.
use Rattle.std.proofs.Common.{◌≡◌, List, [], map, Option, Some, None, unwrap_or, ap, ◌∙◌}
use Rattle.std.proofs.lemmas.Result.{IfOk-weaker}
use Rattle.clap.specs.Words.{Text, all_of, found_of, rows_of}
use Rattle.clap.proofs.WalkLemmas.{raw_values-rows}
use Rattle.hox_args.proofs.arguments.texts_in.Goals as goal

pub returns-in-Some : goal.returns-in-Some
returns-in-Some c =
    let found = found_of c.args.entries.now in
    let id = c.args.id.now in
    let known : Some (map (λ v. v.now) c.in-Some.texts.now) ≡ all_of id (rows_of found) = c.in-Some.ensures ∙ raw_values-rows found id in
    IfOk-weaker c.from_slice.result _ _ (λ v is. ap (map (λ s. s.now)) is ∙ ap (λ (o : Option (List Text)). unwrap_or o []) known) c.from_slice.ensures.items

pub returns-in-None : goal.returns-in-None
returns-in-None c =
    let found = found_of c.args.entries.now in
    let id = c.args.id.now in
    let known : None ≡ all_of id (rows_of found) = c.in-None.ensures ∙ raw_values-rows found id in
    ap (map (λ s. s.now)) c.new.ensures.items ∙ ap (λ (o : Option (List Text)). unwrap_or o []) known
