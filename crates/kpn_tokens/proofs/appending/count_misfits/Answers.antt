use Rattle.std.proofs.Common.{◌≡◌, None, not, rules, refl, sym, arith}
use Rattle.std.proofs.lemmas.Grind.{common_steps}
use Rattle.std.specs.List.{position}
use Rattle.kpn_model.specs.declared.token.Token.{Token}
use Rattle.kpn_tokens.specs.Records.{fits}
use Rattle.kpn_tokens.proofs.Places.{none_passes_count}
use Rattle.kpn_tokens.proofs.appending.count_misfits.Goals as goal

pub returns-in-None-clause-counted : goal.returns-in-None-clause-counted
returns-in-None-clause-counted c =
    let misfit = λ (token : Token). not (fits c.args.layout token) in
    let none : position misfit c.args.tokens.now ≡ None = search rules in
    record { all = sym (none_passes_count misfit c.args.tokens.now none); unclipped = λ e. refl }

pub loop-token-preserved : goal.loop-token-preserved
loop-token-preserved c = grind (arith, common_steps)

pub returns-clause-counted : goal.returns-clause-counted
returns-clause-counted c = grind (arith, common_steps)
