-- One more entry is none that is looked for, or the first that is.
use Rattle.std.proofs.Common.{◌<◌, ◌≡◌, ◌∙◌, arith, ap, length, sym, false, get_or}
use Rattle.std.proofs.lemmas.List.Folds.{list_any_more, list_any_at}
use Rattle.hox_run.specs.Notes.{is_put_on}
use Rattle.hox_run.proofs.notes.has_put.Goals as goal

pub loop-k-preserved : goal.loop-k-preserved
loop-k-preserved g c =
    let entries = g.E.Entries.entries c.args.history.now in
    let within : c.loop-k.k < length entries = omega (arith, c.count-k-end.ensures.count) in
    let entry = c.entry-entry.result in
    let at : is_put_on c.args.c (get_or entries c.loop-k.k entry) ≡ is_put_on c.args.c entry = ap (is_put_on c.args.c) (c.entry-entry.ensures entry) in
    let here : c.is_put_on.result ≡ is_put_on c.args.c entry = c.is_put_on.ensures in
    let other : is_put_on c.args.c (get_or entries c.loop-k.k entry) ≡ false = at ∙ sym here ∙ c.if-is_put_on.false in
    rw (list_any_more (is_put_on c.args.c) entries c.loop-k.k entry within, c.loop-k.invariant) other

pub returns-then-is_put_on : goal.returns-then-is_put_on
returns-then-is_put_on g c =
    let entries = g.E.Entries.entries c.args.history.now in
    let within : c.loop-k.k < length entries = omega (arith, c.count-k-end.ensures.count) in
    let entry = c.entry-entry.result in
    let at : is_put_on c.args.c (get_or entries c.loop-k.k entry) ≡ is_put_on c.args.c entry = ap (is_put_on c.args.c) (c.entry-entry.ensures entry) in
    let here : c.is_put_on.result ≡ is_put_on c.args.c entry = c.is_put_on.ensures in
    sym (list_any_at (is_put_on c.args.c) entries c.loop-k.k entry within (at ∙ sym here ∙ c.if-is_put_on.true))
