-- All tokens fit, or those up to one that does not.
use Rattle.std.proofs.Common.{◌∙◌, List, length, not, sym, ap, arith}
use Rattle.std.proofs.lemmas.List.{take_all}
use Rattle.kpn_model.specs.declared.token.Token.{Token}
use Rattle.hox_stream.proofs.Fitting.{all_written, clipped_all, written_all, written_to}
use Rattle.hox_stream.proofs.lane.fitting_of.Goals as goal

pub returns-in-Ok-clause-tokens : goal.returns-in-Ok-clause-tokens
returns-in-Ok-clause-tokens c =
    let all = written_all c.args.layout c.args.tokens.now (all_written c.args.layout c.args.tokens.now c.in-Ok.clipped c.in-Ok.ensures.counted.all c.in-Ok.ensures.counted.unclipped) in
    take_all (length c.args.tokens.now) c.args.tokens.now (omega arith) ∙ sym all

pub returns-in-Ok-clause-count : goal.returns-in-Ok-clause-count
returns-in-Ok-clause-count c =
    let all = written_all c.args.layout c.args.tokens.now (all_written c.args.layout c.args.tokens.now c.in-Ok.clipped c.in-Ok.ensures.counted.all c.in-Ok.ensures.counted.unclipped) in
    ap (λ (l : List Token). length l) (sym all)

pub returns-in-Ok-clause-clipped : goal.returns-in-Ok-clause-clipped
returns-in-Ok-clause-clipped c = clipped_all c.args.layout c.args.tokens.now c.in-Ok.clipped c.in-Ok.ensures.counted.all c.in-Ok.ensures.counted.unclipped

pub returns-in-Ok-clause-misfit : goal.returns-in-Ok-clause-misfit
returns-in-Ok-clause-misfit c = ap not (sym (all_written c.args.layout c.args.tokens.now c.in-Ok.clipped c.in-Ok.ensures.counted.all c.in-Ok.ensures.counted.unclipped))

pub returns-in-Err-clause-tokens : goal.returns-in-Err-clause-tokens
returns-in-Err-clause-tokens c =
    let refused = c.in-Err.ensures.refused in
    sym (written_to c.args.layout c.args.tokens.now c.in-Err.place refused.0 refused.1).0

pub returns-in-Err-clause-count : goal.returns-in-Err-clause-count
returns-in-Err-clause-count c =
    let refused = c.in-Err.ensures.refused in
    (written_to c.args.layout c.args.tokens.now c.in-Err.place refused.0 refused.1).2

pub returns-in-Err-clause-misfit : goal.returns-in-Err-clause-misfit
returns-in-Err-clause-misfit c =
    let refused = c.in-Err.ensures.refused in
    ap not (sym (written_to c.args.layout c.args.tokens.now c.in-Err.place refused.0 refused.1).1)
