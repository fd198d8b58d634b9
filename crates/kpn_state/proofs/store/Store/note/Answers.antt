-- A deed is no growth.
use Rattle.std.proofs.Common.{◌∙◌, sym, arith}
use Rattle.kpn_state.proofs.Grown.{growths_deed}
use Rattle.kpn_state.proofs.store.Store.note.Goals as goal

pub invariant_of-self : goal.invariant_of-self
invariant_of-self g c = record {
  enough = omega (arith, c.keep.ensures.room, c.self.invariant.enough);
  counted = rw c.keep.ensures.entries (c.self.invariant.counted ∙ sym (growths_deed (g.H.Keeper.entries c.self.inside.history) c.args.process c.args.deed));
  processes = c.self.invariant.processes;
  channels = c.self.invariant.channels;
}
