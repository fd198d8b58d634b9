-- The inputs that are left are inputs.
use Rattle.kpn_flow.proofs.Among.{among_all}
use Rattle.kpn_flow.proofs.flow.Flow.end_input.Goals as goal

pub invariant_of-self : goal.invariant_of-self
invariant_of-self g c =
    let f = c.self.invariant.0 in (
      record {
        ends = f.ends;
        unended = rw c.remove.ensures (λ d e. f.unended d (among_all c.self.inside.unended.items c.args.channel d e));
        reached = f.reached;
        fits = f.fits;
        seated = f.seated;
        limit_is = f.limit_is;
      },
      c.self.invariant.1,
    )
