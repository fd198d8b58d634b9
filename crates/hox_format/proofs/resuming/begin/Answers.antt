-- What was read to where the records begin is the front of the file.
use Rattle.std.proofs.Common.{◌≡◌, ◌≤◌, drop, length, Option, Some, Ok, Err, ap, rules, subst, ◌∙◌, arith}
use Rattle.std.proofs.lemmas.Grind.{common_steps}
use Rattle.hox_format.specs.declared.records.Records.{Records}
use Rattle.hox_format.specs.Records.{IsRecordsResult, IsWithin, records_bytes}
use Rattle.hox_format.specs.Forms.{form}
use Rattle.hox_format.specs.Resuming.{IsFront, left_in}
use Rattle.hox_format.proofs.Resumes.{front_of, fronts_known, left_known, records_left}
use Rattle.hox_format.proofs.resuming.begin.Goals as goal

pub returns-in-Ok-Ok-Some-clause-begun : goal.returns-in-Ok-Ok-Some-clause-begun
returns-in-Ok-Ok-Some-clause-begun g c =
    let known = g.S.Source.remaining c.args.source in
    let front = c.pieces.front in
    let records = c.in-Ok-Ok-Some.records in
    let told : c.in-Ok-Ok-Some.field-0 ≡ Ok (Some records) = c.in-Ok-Ok-Some.field-0-is ∙ ap (λ (o : Option Records). Ok o) c.in-Ok-Ok-Some.field-0-0-is in
    let tells = subst (λ r. IsRecordsResult (form c.args.format.now) c.args.place c.args.count c.as_slice.result.now front.is_last r) told c.in-Ok-Ok-Some.ensures.records in
    let begins = subst (λ r. IsWithin c.as_slice.result.now r) told c.in-Ok-Ok-Some.ensures.within in
    let few = subst (λ l. records.start ≤ length l) c.as_slice.ensures.value begins in
    let left = records_left records known front.held.items front.is_last (g.S.Source.remaining front.source) few c.pieces.invariant.front in
    record {
      front = front.held.items;
      last = front.is_last;
      records = records;
      tells = subst (λ l. IsRecordsResult (form c.args.format.now) c.args.place c.args.count l front.is_last (Ok (Some records))) c.as_slice.ensures.value tells;
      fronts = fronts_known (λ bytes. IsFront front.held.items bytes front.is_last) (λ bytes. left_in records.size (drop records.start front.held.items) (g.S.Source.remaining front.source) ≡ Some (records_bytes records bytes)) known left;
      layout_is = c.resumed_at.ensures.layout;
      rate_is = c.resumed_at.ensures.rate;
      left_is = left_known (λ bytes. IsFront front.held.items bytes front.is_last) (records_bytes records) known c.resumed_at.ensures.left left;
    }

-- and so it is where what stands before them is refused
pub returns-in-Ok-Err-clause-refused : goal.returns-in-Ok-Err-clause-refused
returns-in-Ok-Err-clause-refused g c =
    let front = c.pieces.front in
    let fault = c.in-Ok-Err.fault in
    let told : c.in-Ok-Err.field-0 ≡ Err fault = search rules in
    let tells = subst (λ r. IsRecordsResult (form c.args.format.now) c.args.place c.args.count c.as_slice.result.now front.is_last r) told c.in-Ok-Err.ensures.records in (
      front.held.items,
      front.is_last,
      subst (λ l. IsRecordsResult (form c.args.format.now) c.args.place c.args.count l front.is_last (Err fault)) c.as_slice.ensures.value tells,
      front_of (g.S.Source.remaining c.args.source) front.held.items front.is_last (g.S.Source.remaining front.source) c.pieces.invariant.front,
    )

pub returns-in_err-read_on-in-Ok-Ok-None-clause-refused : goal.returns-in_err-read_on-in-Ok-Ok-None-clause-refused
returns-in_err-read_on-in-Ok-Ok-None-clause-refused g c = grind (arith, common_steps)
