-- All tokens have their records, or those up to one that does not fit.
use Rattle.std.proofs.Common.{◌++◌, List, Err, not, length, sym, ap, ◌∙◌}
use Rattle.std.specs.List.{flat_map}
use Rattle.kpn_model.specs.declared.token.Token.{Token}
use Rattle.kpn_tokens.specs.Records.{record_text}
use Rattle.hox_stream.proofs.Fitting.{all_written, clipped_all, written_all, written_to}
use Rattle.hox_stream.proofs.outlet.append_to.Goals as goal

pub returns-in-Ok-clause-appended : goal.returns-in-Ok-clause-appended
returns-in-Ok-clause-appended c =
    let all = written_all c.args.layout c.args.tokens.now (all_written c.args.layout c.args.tokens.now c.in-Ok.clipped c.in-Ok.ensures.counted.all c.in-Ok.ensures.counted.unclipped) in
    c.in-Ok.ensures.appends ∙ ap (λ (l : List Token). c.args.waiting.now.items ++ flat_map (record_text c.args.layout) l) (sym all)

pub returns-in-Ok-clause-written : goal.returns-in-Ok-clause-written
returns-in-Ok-clause-written c =
    let all = written_all c.args.layout c.args.tokens.now (all_written c.args.layout c.args.tokens.now c.in-Ok.clipped c.in-Ok.ensures.counted.all c.in-Ok.ensures.counted.unclipped) in
    ap (λ (l : List Token). length l) (sym all)

pub returns-in-Ok-clause-clipped : goal.returns-in-Ok-clause-clipped
returns-in-Ok-clause-clipped c = clipped_all c.args.layout c.args.tokens.now c.in-Ok.clipped c.in-Ok.ensures.counted.all c.in-Ok.ensures.counted.unclipped

pub returns-in-Ok-clause-misfit : goal.returns-in-Ok-clause-misfit
returns-in-Ok-clause-misfit c = ap not (sym (all_written c.args.layout c.args.tokens.now c.in-Ok.clipped c.in-Ok.ensures.counted.all c.in-Ok.ensures.counted.unclipped))

pub returns-in-Err-DoesNotFit-clause-appended : goal.returns-in-Err-DoesNotFit-clause-appended
returns-in-Err-DoesNotFit-clause-appended c =
    let refused = c.in-Err-DoesNotFit.ensures.refused c.in-Err-DoesNotFit.place (ap (λ e. Err e) c.in-Err-DoesNotFit.field-0-is) in
    let some = written_to c.args.layout c.args.tokens.now c.in-Err-DoesNotFit.place refused.unclipped refused.first_misfit in
    refused.appended ∙ ap (λ (l : List Token). c.args.waiting.now.items ++ flat_map (record_text c.args.layout) l) (sym some.0)

pub returns-in-Err-DoesNotFit-clause-written : goal.returns-in-Err-DoesNotFit-clause-written
returns-in-Err-DoesNotFit-clause-written c =
    let refused = c.in-Err-DoesNotFit.ensures.refused c.in-Err-DoesNotFit.place (ap (λ e. Err e) c.in-Err-DoesNotFit.field-0-is) in
    (written_to c.args.layout c.args.tokens.now c.in-Err-DoesNotFit.place refused.unclipped refused.first_misfit).2

pub returns-in-Err-DoesNotFit-clause-clipped : goal.returns-in-Err-DoesNotFit-clause-clipped
returns-in-Err-DoesNotFit-clause-clipped c =
    let refused = c.in-Err-DoesNotFit.ensures.refused c.in-Err-DoesNotFit.place (ap (λ e. Err e) c.in-Err-DoesNotFit.field-0-is) in
    sym (written_to c.args.layout c.args.tokens.now c.in-Err-DoesNotFit.place refused.unclipped refused.first_misfit).3

pub returns-in-Err-DoesNotFit-clause-misfit : goal.returns-in-Err-DoesNotFit-clause-misfit
returns-in-Err-DoesNotFit-clause-misfit c =
    let refused = c.in-Err-DoesNotFit.ensures.refused c.in-Err-DoesNotFit.place (ap (λ e. Err e) c.in-Err-DoesNotFit.field-0-is) in
    ap not (sym (written_to c.args.layout c.args.tokens.now c.in-Err-DoesNotFit.place refused.unclipped refused.first_misfit).1)
