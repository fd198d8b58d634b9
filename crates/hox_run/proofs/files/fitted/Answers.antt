-- All tokens go into the file, or those up to one that does not fit.
use Rattle.std.proofs.Common.{◌≡◌, not, Some, subst, rules}
use Rattle.std.specs.List.{position}
use Rattle.kpn_tokens.specs.Records.{fits, misfits}
use Rattle.hox_run.proofs.Fitted.{cut_file, whole_file}
use Rattle.hox_run.proofs.files.fitted.Goals as goal

pub returns-in-Ok : goal.returns-in-Ok
returns-in-Ok c =
    let count = subst (λ l. c.in-Ok.clipped ≡ misfits c.args.layout l) c.as_slice.ensures.value c.in-Ok.ensures.counted.all in
    whole_file c.args.layout c.args.tokens.items c.new.result c.in-Ok.clipped c.new.ensures count c.in-Ok.ensures.counted.unclipped

pub returns-in-Err : goal.returns-in-Err
returns-in-Err c =
    let first = subst (λ l. position (λ token. not (fits c.args.layout token)) l ≡ Some c.in-Err.place) c.as_slice.ensures.value c.in-Err.ensures.refused.1 in
    cut_file c.args.layout c.args.tokens.items c.new-in-Err.result c.in-Err.place (search rules) c.in-Err.ensures.refused.0 first
