-- One record more is read: what is left says what it said, after that record's token.
use Rattle.std.proofs.Common.{◌≡◌, ◌<◌, ◌+◌, ◌++◌, List, suc, [], ◌∷◌, Some, None, Ok, length, rules, arith, append_assoc, append-nil, length-append}
use Rattle.kpn_tokens.specs.declared.reading.TokensFault.TheVariants.{Record}
use Rattle.kpn_tokens.specs.Records.{first, nothing, next, stop, more, here, later, record_said}
use Rattle.std.specs.List.{AllByRecursion}
use Rattle.kpn_model.specs.Valid.{IsOfSort}
use Rattle.kpn_tokens.proofs.reading.read_tokens.Goals as goal

module _ {A : Type 0} (P : A → Type 0) (x : A) (holds : P x) where
  all_after : (xs : List A) → AllByRecursion P xs → AllByRecursion P (xs ++ (x ∷ []))
  all_after [] all = (holds, tt)
  all_after (y ∷ ys) all = (all.0, all_after ys all.1)

pub returns-then-len-eq-MOST_TOKENS-clause-many : goal.returns-then-len-eq-MOST_TOKENS-clause-many
returns-then-len-eq-MOST_TOKENS-clause-many c =
    λ e.
    let items = c.loop-rest.tokens.items in
    let token = c.in-Ok-Some.token in
    let within : 0 < length c.loop-rest.rest.now = search rules in
    let says : record_said c.args.layout c.args.sort (first c.args.layout c.loop-rest.rest.now) ≡ Ok (Some token) = rw (c.first_record.ensures.first, c.in-Ok-Some.field-0-is) at c.in-Ok-Some.ensures.said in
    let full : length items ≡ 1000000 = search rules in
    let both = length-append items (token ∷ []) in
    (items ++ (token ∷ []), c.loop-rest.invariant.begin (token ∷ []) (more (Some token) within says stop), omega arith)

pub returns-in-Err-clause-line : goal.returns-in-Err-clause-line
returns-in-Err-clause-line c =
    λ number fault e.
    let within : 0 < length c.loop-rest.rest.now = search rules in
    let is : c.in-Err.fault ≡ Record number fault = cc in
    let which = c.in-Err.ensures.fault number fault is in
    rw (← which.0) (c.loop-rest.invariant.fails 1 fault (here within (rw c.first_record.ensures.first at which.1)))

pub loop-rest-preserved-else-is_err : goal.loop-rest-preserved-else-is_err
loop-rest-preserved-else-is_err c =
    let items = c.loop-rest.tokens.items in
    let token = c.in-Ok-Some.token in
    let pushed : c.push.new.self.items ≡ items ++ (token ∷ []) = search rules in
    let within : 0 < length c.loop-rest.rest.now = search rules in
    let says : record_said c.args.layout c.args.sort (first c.args.layout c.loop-rest.rest.now) ≡ Ok (Some token) = rw (c.first_record.ensures.first, c.in-Ok-Some.field-0-is) at c.in-Ok-Some.ensures.said in
    record {
      records = search rules;
      few = search rules;
      sorted = rw pushed (all_after (IsOfSort c.args.sort) token (rw c.in-Ok-Some.field-0-is at c.in-Ok-Some.ensures.sorted) items c.loop-rest.invariant.sorted);
      say = λ tokens h. rw (pushed, append_assoc items (token ∷ []) tokens) (c.loop-rest.invariant.say (token ∷ tokens) (next (Some token) within says (rw c.first_record.ensures.rest at h)));
      begin = λ tokens h. rw (pushed, append_assoc items (token ∷ []) tokens) (c.loop-rest.invariant.begin (token ∷ tokens) (more (Some token) within says (rw c.first_record.ensures.rest at h)));
      fails = λ number fault h.
          let one_more : c.loop-rest.number + suc number ≡ c.loop-rest.number + 1 + number = omega arith in
          rw (← one_more) (c.loop-rest.invariant.fails (suc number) fault (later (Some token) within says (rw c.first_record.ensures.rest at h)));
    }

pub loop-rest-preserved : goal.loop-rest-preserved
loop-rest-preserved c =
    let within : 0 < length c.loop-rest.rest.now = search rules in
    let says : record_said c.args.layout c.args.sort (first c.args.layout c.loop-rest.rest.now) ≡ Ok None = rw (c.first_record.ensures.first, c.in-Ok-None.field-0-is) at c.in-Ok-None.ensures.said in
    record {
      records = search rules;
      few = search rules;
      sorted = c.loop-rest.invariant.sorted;
      say = λ tokens h. c.loop-rest.invariant.say tokens (next None within says (rw c.first_record.ensures.rest at h));
      begin = λ tokens h. c.loop-rest.invariant.begin tokens (more None within says (rw c.first_record.ensures.rest at h));
      fails = λ number fault h.
          let one_more : c.loop-rest.number + suc number ≡ c.loop-rest.number + 1 + number = omega arith in
          rw (← one_more) (c.loop-rest.invariant.fails (suc number) fault (later None within says (rw c.first_record.ensures.rest at h)));
    }

pub returns-clause-says : goal.returns-clause-says
returns-clause-says c =
    let empty : length c.loop-rest.rest.now ≡ 0 = search rules in
    rw append-nil at (c.loop-rest.invariant.say [] (nothing empty))
