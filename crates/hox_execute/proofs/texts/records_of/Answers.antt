-- All tokens have their records, or those up to one that does not fit.
use Rattle.std.proofs.Common.{◌++◌, ℕ, List, Err, ap, sym, take, ◌∙◌}
use Rattle.std.specs.List.{flat_map}
use Rattle.kpn_tokens.specs.Records.{record_text}
use Rattle.hox_run.proofs.Fitted.{all_fit, all_fitting, cut_fitting}
use Rattle.hox_execute.proofs.texts.records_of.Goals as goal

pub returns-in-Ok : goal.returns-in-Ok
returns-in-Ok c =
    let text = flat_map (record_text c.args.layout) c.args.tokens.now in
    let all = all_fitting c.args.layout c.args.tokens.now (all_fit c.args.layout c.args.tokens.now c.in-Ok.field-0 c.in-Ok.ensures.counted.all c.in-Ok.ensures.counted.unclipped) in
    c.in-Ok.ensures.appends ∙ ap (λ (l : List ℕ). l ++ text) c.new-text.ensures.items ∙ ap (flat_map (record_text c.args.layout)) (sym all)

pub returns-in-Err-DoesNotFit : goal.returns-in-Err-DoesNotFit
returns-in-Err-DoesNotFit c =
    let place = c.in-Err-DoesNotFit.field-0-0 in
    let refused = c.in-Err-DoesNotFit.ensures.refused place (ap (λ e. Err e) c.in-Err-DoesNotFit.field-0-is) in
    let text = flat_map (record_text c.args.layout) (take place c.args.tokens.now) in
    let front = cut_fitting c.args.layout c.args.tokens.now place refused.unclipped refused.first_misfit in
    refused.appended ∙ ap (λ (l : List ℕ). l ++ text) c.new-text.ensures.items ∙ ap (flat_map (record_text c.args.layout)) (sym front)
