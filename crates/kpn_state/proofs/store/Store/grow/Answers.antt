-- One more growth; there are no more of them than entries.
use Rattle.std.proofs.Common.{◌∙◌, ◌+◌, sym, ap, arith, length-set}
use Rattle.kpn_state.proofs.Grown.{growths_growth, growths_few}
use Rattle.kpn_state.proofs.store.Store.grow.Goals as goal

pub overflow_add-self : goal.overflow_add-self
overflow_add-self g c = let few = growths_few (g.H.Keeper.entries c.self.inside.history) in omega (arith, few, c.self.invariant.counted, c.count-entries.ensures.few)

pub invariant_of-self-2 : goal.invariant_of-self-2
invariant_of-self-2 g c = record {
  enough = omega (arith, c.keep.ensures.room, c.self.invariant.enough);
  counted = rw c.keep.ensures.entries (ap (λ n. n + 1) c.self.invariant.counted ∙ sym (growths_growth (g.H.Keeper.entries c.self.inside.history) c.args.channel c.args.to));
  processes = c.self.invariant.processes;
  channels = let long = length-set c.self.inside.rings.items c.args.channel c.grow.new.self in omega (arith, long, c.self.invariant.channels);
}
