-- At most the writer can go on when a token has gone out.
use Rattle.std.proofs.Common.{◌<◌, drop, length, sym, ◌∙◌, arith}
use Rattle.kpn_model.specs.Semantics.{tokens}
use Rattle.kpn_laws.proofs.States.{capacity_kept}
use Rattle.kpn_commit.proofs.Keeping.{keeps_drained}
use Rattle.kpn_commit.proofs.Waits.{same_capacities, drained_unawaited}
use Rattle.kpn_commit.proofs.outside.drain.Goals as goal

pub wake-requires-clause-coherent : goal.wake-requires-clause-coherent
wake-requires-clause-coherent g c κs within =
    let there : c.args.channel < length c.args.core.now.store.state.channels = omega (arith, c.requires.channel, c.requires.coherent.keeps.channels) in
    let M = c.args.core.now.store.state in
    record {
      keeps = rw (c.drain-token.ensures.rest, c.ends-writer.ensures.writer) (keeps_drained c.requires.coherent.keeps c.args.channel there);
      waiting = rw c.drain-token.ensures.rest (same_capacities c.requires.coherent.waiting _ (λ d. capacity_kept M c.args.channel d (drop 1 (tokens M c.args.channel))));
    }

pub returns-else-writer_waits-clause-wakes : goal.returns-else-writer_waits-clause-wakes
returns-else-writer_waits-clause-wakes g c =
    let there : c.args.channel < length c.args.core.now.store.state.channels = omega (arith, c.requires.channel, c.requires.coherent.keeps.channels) in
    let M = c.args.core.now.store.state in
    record {
      store = c.drain-token.ensures.rest;
      coherent =
          record {
            keeps = rw c.drain-token.ensures.rest (drained_unawaited c.requires.coherent.keeps c.requires.coherent.waiting.marks c.args.channel there (sym c.writer_waits.ensures ∙ c.if-writer_waits.false));
            waiting = rw c.drain-token.ensures.rest (same_capacities c.requires.coherent.waiting _ (λ d. capacity_kept M c.args.channel d (drop 1 (tokens M c.args.channel))));
          };
      none_sent = λ p out. out;
    }
