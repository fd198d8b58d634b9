-- Each fault is what was handed back, by its case.
use Rattle.std.proofs.Common.{rules}
use Rattle.kpn_observe.proofs.running.run_watched_with_keeper.Goals as goal

pub returns-in-Err : goal.returns-in-Err
returns-in-Err g c = record {
  run = search rules;
  cards = search rules;
  many = search rules;
  failed = c.fault_of.ensures c.args.net c.args.bodies.items c.args.workers c.in-Err.ensures.failed;
}
