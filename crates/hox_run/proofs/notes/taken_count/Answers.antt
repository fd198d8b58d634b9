-- One more entry takes a token from the channel, or does not.
use Rattle.std.proofs.Common.{◌<◌, ◌≡◌, ◌∙◌, arith, ap, length, sym, get_or}
use Rattle.std.proofs.lemmas.List.Sums.{count_by_more_yes, count_by_more_no}
use Rattle.hox_run.specs.Notes.{is_taken_from}
use Rattle.hox_run.proofs.notes.taken_count.Goals.{then-is_taken_from, else-is_taken_from}
use Rattle.hox_run.proofs.notes.taken_count.Goals as goal

pub loop-k-preserved : goal.loop-k-preserved
loop-k-preserved g c =
    let entries = g.E.Entries.entries c.args.history.now in
    let within : c.loop-k.k < length entries = omega (arith, c.count-k-end.ensures.count) in
    let entry = c.entry-entry.result in
    let at : is_taken_from c.args.c (get_or entries c.loop-k.k entry) ≡ is_taken_from c.args.c entry = ap (is_taken_from c.args.c) (c.entry-entry.ensures entry) in
    let here : c.is_taken_from.result ≡ is_taken_from c.args.c entry = c.is_taken_from.ensures in
    elim c.if-is_taken_from.branch [
      | then-is_taken_from w ↦
          let more = count_by_more_yes (is_taken_from c.args.c) entries c.loop-k.k entry within (at ∙ sym here ∙ w.if-is_taken_from.true) in
          (omega (arith, more, w.taken-is, c.loop-k.invariant.0), omega (arith, w.taken-is, c.loop-k.invariant.1))
      | else-is_taken_from w ↦
          let same = count_by_more_no (is_taken_from c.args.c) entries c.loop-k.k entry within (at ∙ sym here ∙ w.if-is_taken_from.false) in
          (omega (arith, same, w.taken-is, c.loop-k.invariant.0), omega (arith, w.taken-is, c.loop-k.invariant.1))
    ]
