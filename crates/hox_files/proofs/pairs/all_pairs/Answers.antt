-- The pairs of one text more.
use Rattle.std.proofs.Common.{◌≡◌, ◌+◌, ◌++◌, List, Err, drop, ap, sym, subst, rules}
use Rattle.std.specs.List.{flat_map}
use Rattle.hox_files.specs.declared.pairs.Pair.{Pair}
use Rattle.hox_files.specs.Formats.{HasEquals}
use Rattle.hox_files.specs.Pairs.{IsPair, parts}
use Rattle.hox_files.proofs.Firsts.{all_texts, one_text_more, text_among, texts_of}
use Rattle.hox_files.proofs.Parted.{Completes, completed, completes_more, nothing_left, parts_left}
use Rattle.hox_files.proofs.pairs.all_pairs.Goals as goal

pub loop-text-preserved : goal.loop-text-preserved
loop-text-preserved c =
    let R = IsPair (texts_of c.args.formats.texts.now) (texts_of c.args.formats.unsigned.now) in
    let texts = c.args.texts.now in
    let k = c.loop-text.text-index in
    let pushed : c.extend_from_slice.new.self.items ≡ c.loop-text.pairs.items ++ c.in_ok-more.more.items = search rules in
    let whole = flat_map parts (texts_of texts) in
    let left = flat_map parts (texts_of (drop (k + 1) texts)) in
    let more = completes_more R whole c.loop-text.pairs.items c.in_ok-more.more.items _ left (flat_map parts (texts_of (drop k texts))) c.loop-text.invariant.each (parts_left texts k _ c.loop-text-test.true) c.in_ok-more.ensures.each in
    record {
      said = one_text_more HasEquals texts k _ c.loop-text-test.true c.loop-text.invariant.said c.in_ok-more.ensures.said;
      each = subst (λ (items : List Pair). Completes R whole items left) (sym pushed) more;
    }

pub returns-clause-said : goal.returns-clause-said
returns-clause-said c = all_texts HasEquals c.args.texts.now c.loop-text.text-index c.loop-text-test.false c.loop-text.invariant.said

pub returns-clause-each : goal.returns-clause-each
returns-clause-each c =
    let texts = c.args.texts.now in
    let k = c.loop-text.text-index in
    completed (IsPair (texts_of c.args.formats.texts.now) (texts_of c.args.formats.unsigned.now)) (flat_map parts (texts_of texts)) c.loop-text.pairs.items (flat_map parts (texts_of (drop k texts))) c.loop-text.invariant.each
    (ap (λ l. flat_map parts (texts_of l)) (nothing_left texts k c.loop-text-test.false))

pub returns-in_err-more-clause-fault : goal.returns-in_err-more-clause-fault
returns-in_err-more-clause-fault c =
    let same : c.from_residual.result ≡ Err c.in_err-more.field-0.0 = search rules in
    rw same (c.in_err-more.ensures.fault _ (text_among c.args.texts.now c.loop-text.text-index _ c.loop-text-test.true))
