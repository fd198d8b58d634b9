-- One pair more.
use Rattle.std.proofs.Common.{◌≡◌, ◌≤◌, ◌++◌, ◌∷◌, [], if◌then◌else◌, true, false, List, Result, Ok, Err, is_err, is_ok, drop, length, ap, refl, sym, ◌∙◌, arith}
use Rattle.std.proofs.lemmas.List.{length-map}
use Rattle.hox_files.specs.Pairs.{IsPair, parts_from}
use Rattle.hox_files.proofs.Firsts.{texts_of}
use Rattle.hox_files.proofs.Parted.{completed, completes_none, nothing_left, pair_more}
use Rattle.hox_files.proofs.pairs.pairs_for.Goals as goal

pushed : {X E A : Type 0} (r : Result X E) (before after : List A) (x : A) → after ≡ (if is_ok r then before ++ x ∷ [] else before) → is_err r ≡ false → after ≡ before ++ x ∷ []
pushed (Ok y) before after x is ok = is
pushed (Err e) before after x is ok = let bad : true ≡ false = ok in cc

pub loop-place-init : goal.loop-place-init
loop-place-init c = completes_none (IsPair (texts_of c.args.formats.texts.now) (texts_of c.args.formats.unsigned.now)) (parts_from c.args.file.now (length c.args.names.now) 0 (texts_of c.args.names.now)) c.new-pairs.result.items c.new-pairs.ensures.items

pub loop-place-preserved : goal.loop-place-preserved
loop-place-preserved c =
    pair_more (texts_of c.args.formats.texts.now) (texts_of c.args.formats.unsigned.now) c.args.file.now c.args.names.now c.loop-place.place _ _ c.loop-place.pairs.items c.push.new.self.items c.loop-place-test.true
    (pushed c.push.result _ _ _ c.push.ensures.items (sym c.is_err.ensures.value ∙ c.if-is_err.false)) refl refl refl refl c.in-Ok.ensures.ok c.loop-place.invariant

pub returns-clause-each : goal.returns-clause-each
returns-clause-each c =
    let names = texts_of c.args.names.now in
    let count = length c.args.names.now in
    let k = c.loop-place.place in
    let past : length names ≤ k = omega (arith, length-map c.args.names.now (λ n. n.now), c.loop-place-test.false) in
    completed (IsPair (texts_of c.args.formats.texts.now) (texts_of c.args.formats.unsigned.now)) (parts_from c.args.file.now count 0 names) c.loop-place.pairs.items (parts_from c.args.file.now count k (drop k names)) c.loop-place.invariant
    (ap (parts_from c.args.file.now count k) (nothing_left names k past))
