-- A name of the own family means the kind there, and so here, or is refused.
use Rattle.std.proofs.Common.{sym, ◌∙◌}
use Rattle.kpn_picture.proofs.BothTitles.{first_named, second_named}
use Rattle.kpn_picture.proofs.titles.BothTitled.title.Goals as goal

pub returns-then-is_first-clause-named : goal.returns-then-is_first-clause-named
returns-then-is_first-clause-named g c =
    first_named g.A.Kinds.signature g.B.Kinds.signature g.A.Kinds.named g.B.Kinds.named g.A.Titled.title g.B.Titled.title c.args.card.now (sym c.is_first.ensures ∙ c.if-is_first.true)
    (rw c.own_card-own.ensures at c.title.ensures.named)

pub returns-else-is_first-clause-named : goal.returns-else-is_first-clause-named
returns-else-is_first-clause-named g c =
    second_named g.A.Kinds.signature g.B.Kinds.signature g.A.Kinds.named g.B.Kinds.named g.A.Titled.title g.B.Titled.title c.args.card.now (sym c.is_first.ensures ∙ c.if-is_first.false)
    (rw c.own_card-own.ensures at c.title-else-is_first.ensures.named)
