use Rattle.std.proofs.Common.{◌≡◌, ◌≢◌, rules, arith, ap, sym, subst}
use mathlib.Core.List.{IsPrefix}
use Rattle.kpn_watch.specs.declared.progress.Phase.TheVariants.{Running}
use Rattle.kpn_watch.specs.declared.progress.Progress.{Progress}
use Rattle.kpn_watch.specs.Boards.{Published}
use Rattle.kpn_watch.specs.Rule.{ContinuesSeen}
use Rattle.kpn_watch.proofs.BoardKeeps.{publishes_at}
use Rattle.kpn_watch.proofs.Words.{growths_le}
use Rattle.kpn_watch.proofs.board.Board.publish_as.Goals as goal

pub to_word-word-requires-clause-growths : goal.to_word-word-requires-clause-growths
to_word-word-requires-clause-growths g c = omega (arith, c.requires.may.short, ap (λ (p : Progress). p.growths) c.requires.shown, growths_le g.N.News.news.entries)

pub store-requires : goal.store-requires
store-requires g c =
    let news = g.N.News.news in
    let seat = c.publisher.inside.seat in
    let word = c.to_word-word.result in
    let slots = c.self.inside.table.shared.table_id.slots in
    let over = subst (λ (p : Published). p.phase ≢ Running → (news.entries ≡ p.entries) × (news.phase ≡ p.phase)) (sym c.publisher.view_is) c.requires.may.ended in
    let on : ContinuesSeen seat.me.0.seen news = record {
      front = subst (λ (p : Published). IsPrefix p.entries news.entries) (sym c.publisher.view_is) c.requires.may.goes_on;
      ended = λ ended. let same = over ended in λ i. record { entries = same.0 i; phase = same.1 i };
    } in (search rules, search rules, publishes_at slots _ c.publisher.invariant.0 _ news word (search rules) c.requires.may.short on)
