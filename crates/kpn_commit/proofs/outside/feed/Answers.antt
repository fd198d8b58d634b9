-- At most the reader can go on when a token has come in.
use Rattle.std.proofs.Common.{◌<◌, ◌++◌, ◌∷◌, [], length, sym, ◌∙◌, arith}
use Rattle.kpn_model.specs.Semantics.{tokens}
use Rattle.kpn_laws.proofs.States.{capacity_kept}
use Rattle.kpn_commit.proofs.Keeping.{keeps_fed}
use Rattle.kpn_commit.proofs.Waits.{same_capacities, fed_unawaited}
use Rattle.kpn_commit.proofs.outside.feed.Goals as goal

pub wake-requires-clause-coherent : goal.wake-requires-clause-coherent
wake-requires-clause-coherent g c κs within =
    let there : c.args.channel < length c.args.core.now.store.state.channels = omega (arith, c.requires.channel, c.requires.coherent.keeps.channels) in
    let M = c.args.core.now.store.state in
    record {
      keeps = rw (c.feed.ensures, c.ends-reader.ensures.reader) (keeps_fed c.requires.coherent.keeps c.args.channel there c.args.token c.requires.sort);
      waiting = rw c.feed.ensures (same_capacities c.requires.coherent.waiting _ (λ d. capacity_kept M c.args.channel d (tokens M c.args.channel ++ c.args.token ∷ [])));
    }

pub returns-else-reader_waits : goal.returns-else-reader_waits
returns-else-reader_waits g c =
    let there : c.args.channel < length c.args.core.now.store.state.channels = omega (arith, c.requires.channel, c.requires.coherent.keeps.channels) in
    let M = c.args.core.now.store.state in
    record {
      store = c.feed.ensures;
      coherent =
          record {
            keeps = rw c.feed.ensures (fed_unawaited c.requires.coherent.keeps c.requires.coherent.waiting.marks c.args.channel there c.args.token c.requires.sort (sym c.reader_waits.ensures ∙ c.if-reader_waits.false));
            waiting = rw c.feed.ensures (same_capacities c.requires.coherent.waiting _ (λ d. capacity_kept M c.args.channel d (tokens M c.args.channel ++ c.args.token ∷ [])));
          };
      none_sent = λ p out. out;
    }
