use Rattle.hox_network.proofs.FanOut.{nearest_step}
use Rattle.hox_network.specs.Copies.{shares}
use Rattle.hox_network.proofs.copies.nearest.Goals as goal

pub loop-k-preserved : goal.loop-k-preserved
loop-k-preserved g c =
    nearest_step (shares g.K.Kinds.named g.K.Kinds.signature c.args.sketch.now c.args.channel.now) c.args.earlier.now c.loop-k.k c.index-earlier-k.result c.shares.result c.loop-k.found c.some_if-found.result
    c.loop-k-test.true c.index-earlier-k.is c.shares.ensures c.loop-k.invariant c.some_if-found.ensures
